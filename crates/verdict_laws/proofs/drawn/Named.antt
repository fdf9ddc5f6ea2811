-- What the lines of a shape's own plan are for, and the cells that they name.
use Rattle.std.proofs.Common.{◌≡◌, ℕ, suc, ◌+◌, ◌*◌, ◌==◌, ◌||◌, ◌<◌, ◌⊎◌, inl, inr, List, [], ◌∷◌}
use Rattle.std.proofs.Common.{Bool, true, false, cond}
use Rattle.std.proofs.Common.{length, get_or, take, Option, Some, None, refl, sym, ap, subst, ◌∙◌, arith}
use Rattle.std.proofs.lemmas.Bool.Decides.{nat_tests}
use Rattle.number_lists.specs.Members.{In}
use Rattle.number_lists.specs.Numbers.{from_to}
use Rattle.coll_shape.specs.Collectives.{is_in}
use Rattle.coll_shape.specs.Outline.{Outline, group_at, step_at}
use Rattle.coll_shape.specs.declared.types.CollStep.{CollStep}
use Rattle.coll_shape.specs.declared.types.CollStep.TheVariants.{Barrier}
use Rattle.cuts.proofs.orders.Choosing.{In-flat, In-flat_cases}
use Rattle.given_lines.specs.declared.given.Mark.{Mark}
use Rattle.given_lines.specs.declared.given.Mark.TheVariants as marks
use Rattle.mark_judge.proofs.Tests.{In-get_or}
use Rattle.marked_plans.specs.Marks.{barrier_marks, buffer_marks, first_cell, marks_of, member_marks, of_barrier, print_at, print_marks}
use Rattle.marked_plans.specs.Marks.{result_mark, result_marks, row_marks, step_marks}
use Rattle.plan_core.specs.Draw.{HeldCells, held_cell}
use Rattle.plan_core.proofs.Links.{In-from_to, from_to-In}
use Rattle.plan_core.proofs.Lists.{In-append_cases, In-append_left, In-append_right}
use Rattle.plan_steps.specs.Rounds.{rounds}
use Rattle.schedule_compiler.specs.shapes.Drawing.{drawing_of}

-- place i of the barrier that is step s
pub record IsPlace (o : Outline) (s i : ℕ) : Type 0 where
  pub step : s < length o.steps
  pub barrier : step_at o s ≡ Barrier
  pub place : i < length (group_at o s)

abbrev pub member_at : Outline → ℕ → ℕ → ℕ
member_at o s i = get_or (group_at o s) i 0

abbrev pub entry_cell : Outline → ℕ → ℕ → ℕ
entry_cell o s i = first_cell o s + i

abbrev pub exit_cell : Outline → ℕ → ℕ → ℕ
exit_cell o s i = first_cell o s + (rounds (length (group_at o s)) * length (group_at o s) + i)

-- a line of the plan is one of these
abbrev pub IsOf : Outline → Mark → Type 0
IsOf o (marks.Result b r c) = In b o.prints × (r < o.ranks) × (held_cell (drawing_of o).held b r ≡ Some c)
IsOf o (marks.Enter s r c) = (i : ℕ) × IsPlace o s i × (r ≡ member_at o s i) × (c ≡ entry_cell o s i)
IsOf o (marks.Leave s r c) = (i : ℕ) × IsPlace o s i × (r ≡ member_at o s i) × (c ≡ exit_cell o s i)

abbrev held_of : Outline → HeldCells
held_of o = (drawing_of o).held

-- ---- each line of the plan

of_result : (o : Outline) (b r : ℕ) → In b o.prints → r < o.ranks → (held : Option ℕ) → held_cell (held_of o) b r ≡ held → (m : Mark)
    → In m (result_mark b r held) → IsOf o m
of_result o b r printed low None is m i = absurd i
of_result o b r printed low (Some c) is m (inl e) = subst (IsOf o) e (printed, low, is)
of_result o b r printed low (Some c) is m (inr i) = absurd i

of_buffer : (o : Outline) (b : ℕ) → In b o.prints → (m : Mark) → In m (buffer_marks o.ranks (held_of o) b) → IsOf o m
of_buffer o b printed m i =
    let at = In-flat_cases (λ r. result_mark b r (held_cell (held_of o) b r)) (from_to 0 o.ranks) m i in
    let low = (from_to-In 0 o.ranks at.0 at.1).1 in
    of_result o b at.0 printed (omega (arith, low)) (held_cell (held_of o) b at.0) refl m at.2

otherwise : {A : Type 0} (b : Bool) (xs : List A) (x : A) → In x (cond b [] xs) → (b ≡ false) × In x xs
otherwise true xs x i = absurd i
otherwise false xs x i = (refl, i)

-- those of a print stand there where no earlier one names its buffer
pub of_print : (o : Outline) (i : ℕ) (m : Mark) → In m (print_marks o (held_of o) i)
    → (is_in (print_at o i) (take i o.prints) ≡ false) × In m (buffer_marks o.ranks (held_of o) (print_at o i))
of_print o i m h = otherwise (is_in (print_at o i) (take i o.prints)) (buffer_marks o.ranks (held_of o) (print_at o i)) m h

of_results : (o : Outline) (m : Mark) → In m (result_marks o (held_of o)) → IsOf o m
of_results o m h =
    let at = In-flat_cases (print_marks o (held_of o)) (from_to 0 (length o.prints)) m h in
    let low = (from_to-In 0 (length o.prints) at.0 at.1).1 in
    of_buffer o (print_at o at.0) (In-get_or o.prints at.0 0 (omega (arith, low))) m (of_print o at.0 m at.2).1

of_member : (o : Outline) (s i : ℕ) → IsPlace o s i → (m : Mark) → In m (member_marks s (first_cell o s) (group_at o s) i) → IsOf o m
of_member o s i place m (inl e) = subst (IsOf o) e (i, place, refl, refl)
of_member o s i place m (inr (inl e)) = subst (IsOf o) e (i, place, refl, refl)
of_member o s i place m (inr (inr none)) = absurd none

-- a step with lines is a barrier
pub of_barrier_only : (t : CollStep) (ms : List Mark) (m : Mark) → In m (of_barrier t ms) → (t ≡ Barrier) × In m ms
of_barrier_only Barrier ms m h = (refl, h)
of_barrier_only _ ms m h = absurd h

of_step : (o : Outline) (s : ℕ) → s < length o.steps → (m : Mark) → In m (step_marks o s) → IsOf o m
of_step o s low m h =
    let only = of_barrier_only (step_at o s) (row_marks s (first_cell o s) (group_at o s)) m h in
    let at = In-flat_cases (member_marks s (first_cell o s) (group_at o s)) (from_to 0 (length (group_at o s))) m only.1 in
    let less = (from_to-In 0 (length (group_at o s)) at.0 at.1).1 in
    of_member o s at.0 (record { step = low; barrier = only.0; place = omega (arith, less) }) m at.2

of_barriers : (o : Outline) (m : Mark) → In m (barrier_marks o) → IsOf o m
of_barriers o m h =
    let at = In-flat_cases (step_marks o) (from_to 0 (length o.steps)) m h in
    let low = (from_to-In 0 (length o.steps) at.0 at.1).1 in
    of_step o at.0 (omega (arith, low)) m at.2

of_either : (o : Outline) (m : Mark) → In m (result_marks o (held_of o)) ⊎ In m (barrier_marks o) → IsOf o m
of_either o m (inl h) = of_results o m h
of_either o m (inr h) = of_barriers o m h

pub of_marks : (o : Outline) (m : Mark) → In m (marks_of o) → IsOf o m
unfolding marks_of
of_marks o m h = of_either o m (In-append_cases m (result_marks o (held_of o)) (barrier_marks o) h)

-- ---- each of these is a line

-- the first print of a buffer
pub record FirstPlace (b : ℕ) (xs : List ℕ) : Type 0 where
  pub place : ℕ
  pub low : place < length xs
  pub there : get_or xs place 0 ≡ b
  pub new : is_in b (take place xs) ≡ false

first_place : (b : ℕ) (xs : List ℕ) → In b xs → FirstPlace b xs
first_place b [] i = absurd i
first_place b (x ∷ xs) i = by (x == b) refl i (λ h. first_place b xs h)
  where
    by : (t : Bool) → (x == b) ≡ t → In b (x ∷ xs) → (In b xs → FirstPlace b xs) → FirstPlace b (x ∷ xs)
    by true e h rest = record { place = 0; low = omega arith; there = grind (arith, nat_tests, e); new = refl }
    by false e (inl h) rest = absurd (grind (arith, nat_tests, e, h))
    by false e (inr h) rest =
        let f = rest h in
        let low = f.low in
        record {
          place = suc f.place;
          low = omega (arith, low);
          there = f.there;
          new = ap (λ (t : Bool). t || is_in b (take f.place xs)) e ∙ f.new;
        }

pub result_there : (o : Outline) (b r c : ℕ) → In b o.prints → r < o.ranks → held_cell (held_of o) b r ≡ Some c
    → In (marks.Result b r c) (marks_of o)
unfolding marks_of
result_there o b r c printed low is =
    let f = first_place b o.prints printed in
    let m = marks.Result b r c in
    let at_rank : In m (result_mark b r (held_cell (held_of o) b r)) = subst (λ v. In m (result_mark b r v)) (sym is) (inl refl) in
    let in_buffer : In m (buffer_marks o.ranks (held_of o) b) =
    In-flat (λ q. result_mark b q (held_cell (held_of o) b q)) (from_to 0 o.ranks) r m (In-from_to 0 o.ranks r (omega arith)
    (omega (arith, low))) at_rank in
    let named : In m (cond (is_in b (take f.place o.prints)) [] (buffer_marks o.ranks (held_of o) b)) =
    subst (λ t. In m (cond t [] (buffer_marks o.ranks (held_of o) b))) (sym f.new) in_buffer in
    let in_print : In m (print_marks o (held_of o) f.place) =
    subst (λ a. In m (cond (is_in a (take f.place o.prints)) [] (buffer_marks o.ranks (held_of o) a))) (sym f.there) named in
    let place = f.low in
    In-append_left m (result_marks o (held_of o)) (barrier_marks o)
    (In-flat (print_marks o (held_of o)) (from_to 0 (length o.prints)) f.place m (In-from_to 0 (length o.prints) f.place (omega arith)
    (omega (arith, place))) in_print)

member_there : (o : Outline) (s i : ℕ) → IsPlace o s i → (m : Mark) → In m (member_marks s (first_cell o s) (group_at o s) i)
    → In m (marks_of o)
unfolding marks_of
member_there o s i at m h =
    let place = at.place in
    let step = at.step in
    let in_row : In m (row_marks s (first_cell o s) (group_at o s)) =
    In-flat (member_marks s (first_cell o s) (group_at o s)) (from_to 0 (length (group_at o s))) i m
    (In-from_to 0 (length (group_at o s)) i (omega arith) (omega (arith, place))) h in
    let in_step : In m (step_marks o s) =
    subst (λ t. In m (of_barrier t (row_marks s (first_cell o s) (group_at o s)))) (sym at.barrier) in_row in
    In-append_right m (result_marks o (held_of o)) (barrier_marks o)
    (In-flat (step_marks o) (from_to 0 (length o.steps)) s m (In-from_to 0 (length o.steps) s (omega arith) (omega (arith, step))) in_step)

pub entry_there : (o : Outline) (s i : ℕ) → IsPlace o s i → In (marks.Enter s (member_at o s i) (entry_cell o s i)) (marks_of o)
entry_there o s i at = member_there o s i at _ (inl refl)

pub exit_there : (o : Outline) (s i : ℕ) → IsPlace o s i → In (marks.Leave s (member_at o s i) (exit_cell o s i)) (marks_of o)
exit_there o s i at = member_there o s i at _ (inr (inl refl))
