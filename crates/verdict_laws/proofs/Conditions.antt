-- What a plan meets in which nothing is at fault.
use Rattle.std.proofs.Common.{ℕ, ◌≡◌, ◌*◌, ◌/◌, ◌%◌, ◌<◌, ◌^◌, List, length, count_by, refl, ◌∙◌, sym, subst, arith}
use Rattle.std.proofs.lemmas.Nat.{div_below, mod_below}
use Rattle.coll_shape.specs.Meaning.{AreInputs}
use Rattle.coll_shape.specs.Outline.{Outline, buffer_at, list_bytes}
use Rattle.given_lines.specs.declared.given.Mark.{Mark}
use Rattle.given_lines.specs.declared.given.Mark.TheVariants.{Result, Enter, Leave}
use Rattle.mark_judge.specs.Due.{cell_of, due_of, no_mark}
use Rattle.mark_judge.specs.Marked.{AreMarked, DoesFit}
use Rattle.mark_judge.proofs.Chains.{Rising}
use Rattle.mark_judge.proofs.Good.{fit-known}
use Rattle.mark_judge.proofs.Right.{judged_right}
use Rattle.mark_judge.proofs.Tests.{get_or-In}
use Rattle.plan_core.specs.Draw.{HeldCells}
use Rattle.plan_core.specs.Members.{In}
use Rattle.plan_core.specs.Plan.{Plan}
use Rattle.plan_core.specs.Sound.{AreInputsOf, SoundPlan}
use Rattle.plan_core.specs.Values.{Inputs}
use Rattle.plan_judge.specs.Guards.{AreGuarded}
use Rattle.plan_judge.proofs.Flawless.{none_sound}
use Rattle.plan_tables.proofs.Passes.{get-row, length-table}
use Rattle.schedule_compiler.specs.Keeping.{CanRun}
use Rattle.schedule_compiler.specs.Schedules.{scheduled}
use Rattle.cuts.specs.cells.Cells.{AreCellsInOrder, AreValuesAt}
use Rattle.cuts.specs.histories.Cut.{IsCut}
use Rattle.cuts.specs.histories.History.{is_start}
use Rattle.cuts.specs.histories.Plans.{system_of}
use Rattle.cuts.specs.histories.System.{Histories}
use Rattle.cuts.specs.view.Slots.{Slots}
use Rattle.given_verdicts.specs.Answers.{lengths_of}
use Rattle.verdict_laws.proofs.Starting.{entry_begun}
use Rattle.verdict_laws.specs.Flawless.{AreEntriesBegun, AreNamedBarriersKept, AreNamedResults, AreResultsIn, IsFlawless}

length_inputs : (o : Outline) → length (lengths_of o) ≡ o.inputs
length_inputs o = length-table (λ b. list_bytes (buffer_at o b)) o.inputs (lengths_of o) refl

module _ (p : Plan) (o : Outline) (said : List ℕ) (ms : List Mark) (flawless : IsFlawless p o said ms) where
  pub sound : SoundPlan p o.inputs
  sound = subst (SoundPlan p) (length_inputs o) (none_sound p (lengths_of o) flawless.plan).0

  pub guarded : AreGuarded p o.inputs
  guarded = subst (AreGuarded p) (length_inputs o) (none_sound p (lengths_of o) flawless.plan).2

  pub sound_for : (inputs : Inputs) → AreInputs o inputs → SoundPlan p (length inputs)
  sound_for inputs given = subst (SoundPlan p) (sym given.many) sound

  -- ---- inputs
  pub fit : (inputs : Inputs) → AreInputs o inputs → AreInputsOf p inputs
  fit inputs given i h =
      let some = sound.some_rank in
      let few : i < o.inputs * p.ranks = subst (λ n. i < n * p.ranks) given.many h in
      let b_lt = div_below i p.ranks o.inputs (omega (arith, some)) few in
      let r_lt = mod_below i p.ranks (omega (arith, some)) in
      let same = flawless.ranks in
      given.long (i / p.ranks) (i % p.ranks) b_lt (omega (arith, r_lt, same))
      ∙ sym ((none_sound p (lengths_of o) flawless.plan).1 i (subst (λ n. i < n * p.ranks) (sym (length_inputs o)) few)
      ∙ get-row (λ b. list_bytes (buffer_at o b)) o.inputs (i / p.ranks) 0 b_lt)

  -- ---- lines
  rising : Rising p
  rising l h = (sound.links_sound l h).rising

  pub marked : AreMarked p o said ms
  marked = judged_right p o said ms rising flawless.lines

  pub fits : (m : Mark) → In m ms → DoesFit p o (due_of m) (cell_of m)
  fits m h = let i = get_or-In m ms no_mark h in subst (λ (x : Mark). DoesFit p o (due_of x) (cell_of x)) i.2 (marked.fit i.0 i.1)

  pub can_run : (h : HeldCells) → length p.links < 2 ^ 26 → AreNamedResults p ms h → CanRun (scheduled p h o.inputs)
  can_run h few named = record {
    sound = sound;
    at_most = (let cells = sound.few_cells in omega (arith, cells, few));
    held = record {
      ranks = named.ranks;
      cells = λ b r c hb hr e. (fits (Result b r c) (named.named b r c hb hr e)).0;
    };
  }

  pub barriers_kept : (inputs : Inputs) (slots : ℕ → Slots) (w : Histories) → AreCellsInOrder p inputs slots w
      → AreNamedBarriersKept p ms inputs slots w
  barriers_kept inputs slots w order s r q b c enters leaves reached =
      order b c (fit-known p o (due_of (Enter s r b)) b (fits (Enter s r b) enters))
      (fit-known p o (due_of (Leave s q c)) c (fits (Leave s q c) leaves)) (marked.closed s r q b c enters leaves) reached

  pub entries_begun : (inputs : Inputs) → AreInputs o inputs → (slots : ℕ → Slots) (w : Histories) → IsCut (system_of p inputs slots) w
      → AreCellsInOrder p inputs slots w → AreEntriesBegun p ms inputs slots w
  entries_begun inputs given slots w cut order s r c enters reached =
      let on = fits (Enter s r c) enters in
      subst (λ d. 0 < count_by is_start (w d)) on.1
      (entry_begun p inputs (sound_for inputs given) (fit inputs given) slots w cut order c on.0 (marked.begun s r c enters) reached)

  pub results_in : (inputs : Inputs) (memory : ℕ → List ℕ) → ((r : ℕ) → r < p.ranks → AreValuesAt p inputs r (memory r))
      → AreResultsIn p ms inputs memory
  results_in inputs memory values b r c named =
      let on = (fits (Result b r c) named).0 in
      let known = sound.ranks_known c on.0 in
      values r (subst (λ n. n < p.ranks) on.1 known) c on.0 on.1
