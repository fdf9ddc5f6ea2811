-- The cells that the lines name: each fits what its line is for, and links lead from where a barrier is entered to where it is left.
use Rattle.std.proofs.Common.{◌≡◌, ℕ, zero, suc, ◌+◌, ◌-◌, ◌<◌, ◌≤◌, ◌⊎◌, inl, inr, length}
use Rattle.std.proofs.Common.{map, refl}
use Rattle.std.proofs.Common.{sym, ap, subst, ◌∙◌, arith, eq-or-lt_of_le, le_of_suc-le-suc}
use Rattle.number_lists.specs.Members.{In}
use Rattle.coll_shape.specs.Collectives.{buffer_after, source_of, named}
use Rattle.coll_shape.specs.Outline.{Outline, buffer_at, group_at, read_buffer, step_at}
use Rattle.coll_shape.specs.WellFormed.{IsWellFormed, StepFits, and_one, made_upto}
use Rattle.coll_shape.specs.declared.types.Buffer.{Buffer}
use Rattle.coll_shape.specs.declared.types.CollStep.TheVariants.{Barrier}
use Rattle.cuts.specs.machine.Machine.{Leads}
use Rattle.cuts.proofs.machine.Rounds.{entries_lead}
use Rattle.given_lines.specs.declared.given.Mark.{Mark}
use Rattle.given_lines.specs.declared.given.Mark.TheVariants as marks
use Rattle.mark_judge.specs.Due.{cell_of, due_of}
use Rattle.mark_judge.specs.Marked.{DoesFit, IsDue, IsOn}
use Rattle.mark_judge.proofs.Tests.{In-get_or}
use Rattle.verdict_laws.proofs.drawn.Named.{IsOf, IsPlace, entry_cell, exit_cell, member_at}
use Rattle.plan_core.specs.declared.Cell.{Cell}
use Rattle.plan_core.specs.Plan.{Plan, cell}
use Rattle.plan_core.proofs.Links.{from_to-In}
use Rattle.plan_steps.specs.Collectives.Barrier.{barrier_cells, round_rows}
use Rattle.plan_steps.specs.Drawing.{site}
use Rattle.plan_steps.specs.Rounds.{rounds}
use Rattle.plan_steps.specs.Sounding.{EachAt, with_cells}
use Rattle.plan_steps.specs.StepContext.{StepContext, bare_entry, count, in_row, places, rank_at}
use Rattle.plan_steps.proofs.Drawn.{each_front}
use Rattle.plan_steps.proofs.Entries.{behind, of_places}
use Rattle.plan_steps.proofs.barrier.Laws.{round-at}
use Rattle.schedule_compiler.specs.shapes.Drawing.{drawn_upto, plan_of}
use Rattle.schedule_compiler.proofs.shapes.ByCollective.{Kind, held_here, kind_of}
use Rattle.schedule_compiler.proofs.shapes.ByCollective.Kind.{Plain, Makes}
use Rattle.schedule_compiler.proofs.shapes.Final.{barrier-cells, barrier-rounds, held-holder, result-cell}
use Rattle.schedule_compiler.proofs.shapes.Whole.{Inside, inside_all}
use Rattle.marked_plans.proofs.Firsts.{barrier_next, to_the_end}

abbrev barrier_site : Outline → ℕ → StepContext
barrier_site o s = site o (drawn_upto o s) Barrier (group_at o s)

-- ---- the cells of a barrier's rows

row_rank : (p : Plan) (s : StepContext) (j i : ℕ) → length p.cells ≡ s.first → j ≤ rounds (count s) → i < count s
    → (in_row s j i < length (with_cells p (barrier_cells s)).cells)
    × ((cell (with_cells p (barrier_cells s)) (in_row s j i)).rank ≡ rank_at s i)
row_rank p s j i first t l = at j t
  where
    q : Plan
    q = with_cells p (barrier_cells s)

    all : EachAt (Inside q) s.first (barrier_cells s)
    all = subst (λ c. EachAt (Inside q) c (barrier_cells s)) first (inside_all p (barrier_cells s))

    at : (j : ℕ) → j ≤ rounds (count s) → (in_row s j i < length q.cells) × ((cell q (in_row s j i)).rank ≡ rank_at s i)
    at zero t =
        let x = of_places (Inside q) s s.first (bare_entry s) (each_front (Inside q) s.first (map (bare_entry s) (places s)) (round_rows s)
        all) i l in
        subst (λ c. (c < length q.cells) × ((cell q c).rank ≡ rank_at s i)) (let z : s.first + i ≡ in_row s 0 i = omega arith in z)
        (x.in_plan, ap (λ (k : Cell). k.rank) x.is_cell)
    at (suc j) t =
        let x = round-at (cell q) s (Inside q) (behind (Inside q) s s.first (bare_entry s) (round_rows s) all) j i t l in
        (x.in_plan, ap (λ (k : Cell). k.rank) x.is_cell)

-- in the whole plan
row_on : (o : Outline) → IsWellFormed o → (s j i : ℕ) → IsPlace o s i → j ≤ rounds (length (group_at o s))
    → IsOn (plan_of o) (member_at o s i) (in_row (barrier_site o s) j i)
row_on o a s j i at t =
    let p = (drawn_upto o s).plan in
    let more = to_the_end o s at.step in
    let here = row_rank p (barrier_site o s) j i refl t at.place in
    let c = in_row (barrier_site o s) j i in
    let now = subst (λ q. (c < length q.cells) × ((cell q c).rank ≡ member_at o s i)) (sym (barrier_next o s at.barrier)) here in (
      barrier-cells o a s at.step at.barrier j i t at.place,
      ap (λ (k : Cell). k.rank) (more.same_cell (in_row (barrier_site o s) j i) now.0) ∙ now.1,
    )

entry_is : (o : Outline) (s i : ℕ) → in_row (barrier_site o s) 0 i ≡ entry_cell o s i
entry_is o s i = omega arith

exit_is : (o : Outline) (s i : ℕ) → in_row (barrier_site o s) (rounds (length (group_at o s))) i ≡ exit_cell o s i
exit_is o s i = refl

-- ---- each line is for something that is due, and its cell fits

pub of_due : (o : Outline) → IsWellFormed o → ((b : ℕ) → In b o.prints → b < length o.buffers) → (m : Mark) → IsOf o m → IsDue o (due_of m)
of_due o a low (marks.Result b r c) of = (of.0, held-holder o a b r c (low b of.0) of.1 of.2)
of_due o a low (marks.Enter s r c) of =
    (of.1.step, of.1.barrier, subst (λ v. In v (group_at o s)) (sym of.2) (In-get_or (group_at o s) of.0 0 of.1.place))
of_due o a low (marks.Leave s r c) of =
    (of.1.step, of.1.barrier, subst (λ v. In v (group_at o s)) (sym of.2) (In-get_or (group_at o s) of.0 0 of.1.place))

on_row : (o : Outline) → IsWellFormed o → (s r c j i : ℕ) → IsPlace o s i → r ≡ member_at o s i → j ≤ rounds (length (group_at o s))
    → c ≡ in_row (barrier_site o s) j i → IsOn (plan_of o) r c
on_row o a s r c j i at rank t is =
    subst (λ v. IsOn (plan_of o) v c) (sym rank) (subst (IsOn (plan_of o) (member_at o s i)) (sym is) (row_on o a s j i at t))

pub of_fit : (o : Outline) → IsWellFormed o → ((b : ℕ) → In b o.prints → b < length o.buffers) → (m : Mark) → IsOf o m
    → DoesFit (plan_of o) o (due_of m) (cell_of m)
of_fit o a low (marks.Result b r c) of =
    let x = result-cell o a b r c (low b of.0) of.1 of.2 in
    ((x.in_plan, x.rank), x.ty, x.long)
of_fit o a low (marks.Enter s r c) of =
    on_row o a s r c 0 of.0 of.1 of.2 (omega arith) (of.3 ∙ sym (entry_is o s of.0))
of_fit o a low (marks.Leave s r c) of =
    on_row o a s r c (rounds (length (group_at o s))) of.0 of.1 of.2 (omega arith) (of.3 ∙ sym (exit_is o s of.0))

-- ---- barriers

pub of_closed : (o : Outline) → IsWellFormed o → (s r q b c : ℕ) → IsOf o (marks.Enter s r b) → IsOf o (marks.Leave s q c)
    → Leads (plan_of o) b c
of_closed o a s r q b c enter leave =
    let at = enter.1 in
    let n = length (group_at o s) in
    let all = entries_lead (plan_of o) n (rounds n) (in_row (barrier_site o s)) (barrier-rounds o a s at.step at.barrier) enter.0 leave.0
    at.place leave.1.place in
    subst (λ v. Leads (plan_of o) v c) (entry_is o s enter.0 ∙ sym enter.3)
    (subst (Leads (plan_of o) (in_row (barrier_site o s) 0 enter.0)) (exit_is o s leave.0 ∙ sym leave.3) all)

-- ---- ranks that hold a list

holders_upto : (o : Outline) → IsWellFormed o → (k : ℕ) → k ≤ length o.steps → (b r : ℕ) → b < made_upto o k
    → In r (buffer_at o b).spread.holders → r < o.ranks
holders_upto o a zero h b r l i =
    let low = (from_to-In 0 o.ranks r (subst (In r) (a.held b l) i)).1 in omega (arith, low)
holders_upto o a (suc k) h b r l i = by (kind_of (step_at o k)) (λ w. holders_upto o a k (omega arith) b r w i)
  where
    fits : StepFits o (made_upto o k) (group_at o k) (step_at o k)
    fits = a.fits k (omega arith)

    by : Kind (step_at o k) → (b < made_upto o k → r < o.ranks) → r < o.ranks
    by (Plain src res) before = before (subst (λ v. b < and_one v (made_upto o k)) res l)
    by (Makes x y src res) before = at (eq-or-lt_of_le (le_of_suc-le-suc (subst (λ v. b < and_one v (made_upto o k)) res l)))
      where
        at : (b ≡ made_upto o k) ⊎ (b < made_upto o k) → r < o.ranks
        at (inr w) = before w
        at (inl e) =
            let n = fits.next y res in
            let e' : b ≡ y = omega (arith, e, n) in
            let makes : buffer_at o b ≡ named (buffer_at o y).name
            (buffer_after (group_at o k) (step_at o k) (read_buffer o (source_of (step_at o k)))) =
            ap (buffer_at o) e' ∙ fits.makes y res in
            let here = held_here (group_at o k) r (barrier_site o 0) (step_at o k) x src fits.root
            (read_buffer o (source_of (step_at o k))) (subst (λ (v : Buffer). In r v.spread.holders) makes i) in
            subst (λ v. v < o.ranks) here.is.there (fits.members.ranks here.place here.is.below)

pub holders_low : (o : Outline) → IsWellFormed o → (b r : ℕ) → b < length o.buffers → In r (buffer_at o b).spread.holders → r < o.ranks
holders_low o a b r l i =
    let all = a.all in holders_upto o a (length o.steps) (omega arith) b r (omega (arith, all, l)) i
