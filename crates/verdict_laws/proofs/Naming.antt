-- What a plan's lines name, where nothing is at fault.
use Rattle.std.proofs.Common.{ℕ, ◌≡◌, ◌<◌, List, ◌∙◌, subst}
use Rattle.coll_shape.specs.Outline.{Outline, buffer_at}
use Rattle.given_lines.specs.declared.given.Mark.{Mark}
use Rattle.given_lines.specs.declared.given.Mark.TheVariants as marks
use Rattle.given_lines.specs.Given.{Given}
use Rattle.mark_judge.specs.declared.flaw.Due.{Due}
use Rattle.mark_judge.specs.declared.flaw.Due.TheVariants as dues
use Rattle.mark_judge.specs.Due.{cell_of, due_of, mark_at, no_mark}
use Rattle.mark_judge.specs.Marked.{IsDue, IsMember}
use Rattle.mark_judge.proofs.Tests.{In-get_or}
use Rattle.plan_core.specs.Members.{In}
use Rattle.plan_core.specs.Values.{Inputs}
use Rattle.cuts.specs.cells.Cells.{AreCellsInOrder, AreValuesAt}
use Rattle.cuts.specs.done.Done.{HasCounted, IsDone}
use Rattle.cuts.specs.histories.System.{Histories}
use Rattle.cuts.specs.view.Slots.{Slots}
use Rattle.verdict_laws.specs.Flawless.{AreNamedMeant, IsFlawless}
use Rattle.verdict_laws.specs.Right.{HasEntered, HasLeft, HoldsResult, IsDoneAsSaid}
use Rattle.verdict_laws.proofs.Conditions.{barriers_kept, fits, marked, sound}

-- ---- a line by what it is for
for_result : (m : Mark) (b r : ℕ) → due_of m ≡ dues.Result b r → m ≡ marks.Result b r (cell_of m)
for_result (marks.Result a q c) b r e = cc
for_result (marks.Enter s q c) b r e = cc
for_result (marks.Leave s q c) b r e = cc

for_enter : (m : Mark) (s r : ℕ) → due_of m ≡ dues.Enter s r → m ≡ marks.Enter s r (cell_of m)
for_enter (marks.Result b q c) s r e = cc
for_enter (marks.Enter t q c) s r e = cc
for_enter (marks.Leave t q c) s r e = cc

module _ (o : Outline) (g : Given) (flawless : IsFlawless g.plan o g.done g.marks) where
  line_for : (d : Due) → IsDue o d → (m : Mark) × In m g.marks × (due_of m ≡ d)
  line_for d h =
      let a = (marked g.plan o g.done g.marks flawless).all d h in
      (mark_at g.marks a.0, In-get_or g.marks a.0 no_mark a.1, a.2)

  result_line : (b r : ℕ) → In b o.prints → In r (buffer_at o b).spread.holders → (c : ℕ) × In (marks.Result b r c) g.marks
  result_line b r i j =
      let l = line_for (dues.Result b r) (i, j) in
      (cell_of l.0, subst (λ (m : Mark). In m g.marks) (for_result l.0 b r l.2) l.1)

  entry_line : (s r : ℕ) → IsMember o s r → (c : ℕ) × In (marks.Enter s r c) g.marks
  entry_line s r h =
      let l = line_for (dues.Enter s r) h in
      (cell_of l.0, subst (λ (m : Mark). In m g.marks) (for_enter l.0 s r l.2) l.1)

  -- ---- results
  pub result_held : (inputs : Inputs) → AreNamedMeant o g inputs → (b r : ℕ) (memory : List ℕ) → AreValuesAt g.plan inputs r memory
      → In b o.prints → In r (buffer_at o b).spread.holders → HoldsResult o g inputs b r memory
  result_held inputs meant b r memory values i j =
      let l = result_line b r i j in
      let on = (fits g.plan o g.done g.marks flawless (marks.Result b r l.0) l.1).0 in
      record {
        number = l.0;
        named = l.1;
        lies = on;
        meant = values l.0 on.0 on.1 ∙ meant (marks.Result b r l.0) l.1;
      }

  -- its rank is one of the plan
  pub holder_known : (b r : ℕ) → In b o.prints → In r (buffer_at o b).spread.holders → r < g.plan.ranks
  holder_known b r i j =
      let l = result_line b r i j in
      let on = (fits g.plan o g.done g.marks flawless (marks.Result b r l.0) l.1).0 in
      subst (λ n. n < g.plan.ranks) on.1 ((sound g.plan o g.done g.marks flawless).ranks_known l.0 on.0)

  -- ---- barriers
  pub entered : (inputs : Inputs) (slots : ℕ → Slots) (w : Histories) → AreCellsInOrder g.plan inputs slots w → (s q r : ℕ)
      → HasLeft g inputs slots w s q → IsMember o s r → HasEntered g inputs slots w s r
  entered inputs slots w order s q r left member =
      let l = entry_line s r member in (
        l.0,
        l.1,
        barriers_kept g.plan o g.done g.marks flawless inputs slots w order s r q l.0 left.0 l.1 left.1 left.2,
      )

  -- ---- done counters
  pub is_done : (inputs : Inputs) (slots : ℕ → Slots) (w : Histories) (r : ℕ) → r < g.plan.ranks → IsDoneAsSaid g inputs slots w r
      → IsDone g.plan inputs slots w r
  is_done inputs slots w r h d = record {
    count = d.count;
    counter = d.counter;
    enough = subst (λ n. HasCounted d.count n) ((marked g.plan o g.done g.marks flawless).done r h) d.enough;
  }
