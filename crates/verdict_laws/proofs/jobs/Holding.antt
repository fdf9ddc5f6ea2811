-- The lists of a world's results.
use Rattle.std.proofs.Common.{ℕ, ◌≡◌, ◌<◌, List, [], Option, Some, None, length, map, refl, sym, ap, subst, ◌∙◌}
use Rattle.coll_shape.specs.Folding.{at}
use Rattle.coll_shape.specs.Meaning.{lists_of}
use Rattle.coll_shape.specs.Outline.{Outline}
use Rattle.coll_shape.specs.WellFormed.{IsWellFormed}
use Rattle.cuts.specs.cells.Cells.{AreValuesAt, cell_part}
use Rattle.given_lines.specs.declared.given.Mark.{Mark}
use Rattle.given_lines.specs.declared.given.Mark.TheVariants.{Result}
use Rattle.mark_judge.specs.Due.{no_mark}
use Rattle.mark_judge.specs.Marked.{DoesFit, IsDue}
use Rattle.mark_judge.specs.Due.{cell_of, due_of}
use Rattle.mark_judge.proofs.Tests.{get_or-In}
use Rattle.verdict_laws.specs.Flawless.{AreNamedResults, IsFlawless}
use Rattle.verdict_laws.proofs.Conditions.{marked, sound}
use Rattle.number_lists.specs.Numbers.{from_to}
use Rattle.plan_core.specs.Draw.{HeldCells, held_cell}
use Rattle.plan_core.specs.Members.{In}
use Rattle.plan_core.specs.Plan.{Plan}
use Rattle.plan_core.specs.Values.{Inputs}
use Rattle.plan_tables.proofs.Passes.{get-row}
use Rattle.schedule_compiler.specs.Keeping.{AreHeld}
use Rattle.verdict_laws.specs.GivenJobs.{AreWithin, given_lists, held_list, no_cells, results_of}
use Rattle.verdict_laws.proofs.jobs.Naming.{named-ranks, of_lines}

-- ---- what the lines name

fits : (p : Plan) (o : Outline) (said : List ℕ) (ms : List Mark) → IsFlawless p o said ms → (m : Mark) → In m ms
    → DoesFit p o (due_of m) (cell_of m)
fits p o said ms flawless m h =
    let i = get_or-In m ms no_mark h in
    subst (λ (x : Mark). DoesFit p o (due_of x) (cell_of x)) i.2 ((marked p o said ms flawless).fit i.0 i.1)

pub within : (p : Plan) (o : Outline) (said : List ℕ) (ms : List Mark) → IsFlawless p o said ms → IsWellFormed o → AreWithin o ms
within p o said ms flawless form b r c h =
    let i = get_or-In (Result b r c) ms no_mark h in
    let due : IsDue o (due_of (Result b r c)) = subst (λ (m : Mark). IsDue o (due_of m)) i.2 ((marked p o said ms flawless).due i.0 i.1) in
    let printed = get_or-In b o.prints 0 due.0 in
    let on = (fits p o said ms flawless (Result b r c) h).0 in
    let known = (sound p o said ms flawless).ranks_known c on.0 in (
      subst (λ x. x < length o.buffers) printed.2 (form.shape.printed printed.0 printed.1),
      subst (λ n. r < n) flawless.ranks (subst (λ x. x < p.ranks) on.1 known),
    )

pub are_named : (p : Plan) (o : Outline) (said : List ℕ) (ms : List Mark) → IsFlawless p o said ms → AreWithin o ms
    → AreNamedResults p ms (results_of o ms)
are_named p o said ms flawless inside = record {
  ranks = named-ranks (no_cells o) ms ∙ sym flawless.ranks;
  named = λ b r c hb hr e.
      of_lines o ms b r c inside (subst (λ n. b < n) (Rattle.verdict_laws.proofs.jobs.Naming.named-buffers (no_cells o) ms) hb)
      (subst (λ n. r < n) flawless.ranks hr) e;
}

pub are_held : (p : Plan) (o : Outline) (said : List ℕ) (ms : List Mark) → IsFlawless p o said ms → AreWithin o ms
    → AreHeld p (results_of o ms)
are_held p o said ms flawless inside =
    let named = are_named p o said ms flawless inside in record {
      ranks = named.ranks;
      cells = λ b r c hb hr e. (fits p o said ms flawless (Result b r c) (named.named b r c hb hr e)).0;
    }

-- ---- what they hold

part-held : (p : Plan) (inputs : Inputs) (r : ℕ) (memory : List ℕ) (found : Option ℕ) → AreValuesAt p inputs r memory
    → ((c : ℕ) → found ≡ Some c → (c < length p.cells) × ((Rattle.plan_core.specs.Plan.cell p c).rank ≡ r))
    → cell_part p memory found ≡ held_list p inputs found
part-held p inputs r memory None values on = refl
part-held p inputs r memory (Some c) values on = let is = on c refl in values c is.0 is.1

pub list-held : (p : Plan) (h : HeldCells) (inputs : Inputs) (b r : ℕ) (memory : List ℕ) → AreHeld p h → b < h.buffers → r < p.ranks
    → AreValuesAt p inputs r memory → cell_part p memory (held_cell h b r) ≡ at (lists_of (given_lists p h inputs) b) r
list-held p h inputs b r memory held hb hr values =
    let row : ℕ → List (List ℕ) = λ x. map (λ q. held_list p inputs (held_cell h x q)) (from_to 0 h.ranks) in
    part-held p inputs r memory (held_cell h b r) values (λ c e. held.cells b r c hb hr e)
    ∙ sym (ap (λ (l : List (List ℕ)). at l r) (get-row row h.buffers b [] hb)
    ∙ get-row (λ q. held_list p inputs (held_cell h b q)) h.ranks r [] (subst (λ n. r < n) (sym held.ranks) hr))
