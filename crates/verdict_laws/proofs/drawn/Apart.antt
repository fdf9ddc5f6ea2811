-- No two lines are for the same.
use Rattle.std.proofs.Common.{◌≡◌, ℕ, zero, suc, ◌+◌, ◌*◌, ◌<◌, inl, inr, List, [], ◌∷◌}
use Rattle.std.proofs.Common.{Bool, true, false, cond}
use Rattle.std.proofs.Common.{length, get_or, take, Option, Some, None, refl, sym, ap, subst, ◌∙◌, arith}
use Rattle.std.proofs.lemmas.Bool.{cases_lt}
use Rattle.std.specs.List.{flat_map}
use Rattle.coll_shape.proofs.Asking.{In-is_in}
use Rattle.number_lists.specs.Members.{Distinct, In}
use Rattle.number_lists.specs.Numbers.{from_to}
use Rattle.coll_shape.specs.Collectives.{is_in}
use Rattle.coll_shape.specs.Outline.{Outline, group_at, step_at}
use Rattle.coll_shape.specs.declared.types.CollStep.{CollStep}
use Rattle.coll_shape.specs.declared.types.CollStep.TheVariants.{Barrier}
use Rattle.coll_shape.specs.WellFormed.{IsWellFormed}
use Rattle.cuts.proofs.orders.Choosing.{In-flat_cases}
use Rattle.given_lines.specs.declared.given.Mark.{Mark}
use Rattle.given_lines.specs.declared.given.Mark.TheVariants as marks
use Rattle.mark_judge.specs.Due.{due_of}
use Rattle.mark_judge.specs.declared.flaw.Due.TheVariants as dues
use Rattle.marked_plans.specs.Marks.{barrier_marks, buffer_marks, first_cell, marks_of, member_marks, print_at, print_marks, result_mark}
use Rattle.marked_plans.specs.Marks.{of_barrier, result_marks, row_marks, step_marks}
use Rattle.verdict_laws.proofs.drawn.Named.{IsOf, IsPlace, entry_cell, exit_cell, member_at, of_barrier_only, of_print}
use Rattle.plan_core.specs.Draw.{held_cell}
use Rattle.plan_core.proofs.Links.{Distinct-from_to, from_to-In}
use Rattle.plan_core.proofs.Lists.{Distinct-append}
use Rattle.plan_steps.specs.Rounds.{rounds}
use Rattle.schedule_compiler.specs.shapes.Drawing.{drawing_of}

-- ---- lists of lists
distinct_flat : {X Y : Type 0} (f : X → List Y) (xs : List X) → Distinct xs → ((x : X) → Distinct (f x))
    → ((x z : X) (y : Y) → In x xs → In z xs → In y (f x) → In y (f z) → x ≡ z) → Distinct (flat_map f xs)
distinct_flat {X} {Y} f [] d each one = tt
distinct_flat {X} {Y} f (x ∷ xs) d each one =
    Distinct-append (f x) (flat_map f xs) (each x)
    (distinct_flat f xs d.1 each (λ a b y l k i j. one a b y (inr l) (inr k) i j))
    (λ y i j. let at = In-flat_cases f xs y j in
    d.0 (subst (λ v. In v xs) (sym (one x at.0 y (inl refl) (inr at.1) i at.2)) at.1))

-- ---- what each line tells of its place

result_is : (b r : ℕ) (held : Option ℕ) (m : Mark) → In m (result_mark b r held) → due_of m ≡ dues.Result b r
result_is b r None m i = absurd i
result_is b r (Some c) m (inl e) = ap due_of (sym e)
result_is b r (Some c) m (inr i) = absurd i

buffer_is : (o : Outline) (b : ℕ) (m : Mark) → In m (buffer_marks o.ranks (drawing_of o).held b) → (r : ℕ) × (due_of m ≡ dues.Result b r)
buffer_is o b m i =
    let at = In-flat_cases (λ r. result_mark b r (held_cell (drawing_of o).held b r)) (from_to 0 o.ranks) m i in
    (at.0, result_is b at.0 (held_cell (drawing_of o).held b at.0) m at.2)

-- whether a line is of a result, and the step of another one
abbrev is_result : Mark → Bool
is_result (marks.Result b r c) = true
is_result (marks.Enter s r c) = false
is_result (marks.Leave s r c) = false

abbrev step_of : Mark → ℕ
step_of (marks.Result b r c) = 0
step_of (marks.Enter s r c) = s
step_of (marks.Leave s r c) = s

by_due : (b r : ℕ) (m : Mark) → due_of m ≡ dues.Result b r → is_result m ≡ true
by_due b r (marks.Result a q c) e = refl
by_due b r (marks.Enter s q c) e = absurd (cc)
by_due b r (marks.Leave s q c) e = absurd (cc)

member_is : (s first : ℕ) (g : List ℕ) (i : ℕ) (m : Mark) → In m (member_marks s first g i) → (step_of m ≡ s) × (is_result m ≡ false)
member_is s first g i m (inl e) = (ap step_of (sym e), ap is_result (sym e))
member_is s first g i m (inr (inl e)) = (ap step_of (sym e), ap is_result (sym e))
member_is s first g i m (inr (inr none)) = absurd none

row_is : (s first : ℕ) (g : List ℕ) (m : Mark) → In m (row_marks s first g) → (step_of m ≡ s) × (is_result m ≡ false)
row_is s first g m i =
    let at = In-flat_cases (member_marks s first g) (from_to 0 (length g)) m i in member_is s first g at.0 m at.2

step_is : (o : Outline) (s : ℕ) (m : Mark) → In m (step_marks o s) → (step_of m ≡ s) × (is_result m ≡ false)
step_is o s m i =
    row_is s (first_cell o s) (group_at o s) m
    (of_barrier_only (step_at o s) (row_marks s (first_cell o s) (group_at o s)) m i).1

-- ---- results

one_result : (b r : ℕ) (held : Option ℕ) → Distinct (result_mark b r held)
one_result b r None = tt
one_result b r (Some c) = ((λ i. i), tt)

same_rank : (b r q : ℕ) (m : Mark) → due_of m ≡ dues.Result b r → due_of m ≡ dues.Result b q → r ≡ q
same_rank b r q m x y = let same : dues.Result b r ≡ dues.Result b q = sym x ∙ y in cc

same_buffer : (b a r q : ℕ) (m : Mark) → due_of m ≡ dues.Result b r → due_of m ≡ dues.Result a q → b ≡ a
same_buffer b a r q m x y = let same : dues.Result b r ≡ dues.Result a q = sym x ∙ y in cc

distinct_buffer : (o : Outline) (b : ℕ) → Distinct (buffer_marks o.ranks (drawing_of o).held b)
distinct_buffer o b =
    let h = (drawing_of o).held in
    distinct_flat (λ r. result_mark b r (held_cell h b r)) (from_to 0 o.ranks) (Distinct-from_to 0 o.ranks)
    (λ r. one_result b r (held_cell h b r))
    (λ r q m l k i j. same_rank b r q m (result_is b r (held_cell h b r) m i) (result_is b q (held_cell h b q) m j))

distinct_cond : {A : Type 0} (t : Bool) (xs : List A) → Distinct xs → Distinct (cond t [] xs)
distinct_cond true xs d = tt
distinct_cond false xs d = d

-- an earlier print names it
in_take : (xs : List ℕ) (i j : ℕ) → i < j → i < length xs → In (get_or xs i 0) (take j xs)
in_take [] i j before low = absurd (omega arith)
in_take (x ∷ xs) i zero before low = absurd (omega arith)
in_take (x ∷ xs) zero (suc j) before low = inl refl
in_take (x ∷ xs) (suc i) (suc j) before low = inr (in_take xs i j (omega arith) (omega arith))

named_before : (xs : List ℕ) (i j : ℕ) → i < j → i < length xs → is_in (get_or xs i 0) (take j xs) ≡ true
named_before xs i j before low = In-is_in (get_or xs i 0) (take j xs) (in_take xs i j before low)

not_before : (o : Outline) (i j : ℕ) → i < length o.prints → print_at o i ≡ print_at o j
    → is_in (print_at o j) (take j o.prints) ≡ false → i < j → ⊥
not_before o i j low same new before =
    let old : is_in (print_at o j) (take j o.prints) ≡ true =
    subst (λ b. is_in b (take j o.prints) ≡ true) same (named_before o.prints i j before low) in
    let clash : true ≡ false = sym old ∙ new in absurd (cc)

same_print : (o : Outline) (i j : ℕ) (m : Mark) → i < length o.prints → j < length o.prints → In m (print_marks o (drawing_of o).held i)
    → In m (print_marks o (drawing_of o).held j) → i ≡ j
same_print o i j m li lj x y =
    let a = of_print o i m x in
    let b = of_print o j m y in
    let da = buffer_is o (print_at o i) m a.1 in
    let db = buffer_is o (print_at o j) m b.1 in
    let same = same_buffer (print_at o i) (print_at o j) da.0 db.0 m da.1 db.1 in
    one_of i j (not_before o i j li same b.0) (not_before o j i lj (sym same) a.0)
  where
    one_of : (i j : ℕ) → (i < j → ⊥) → (j < i → ⊥) → i ≡ j
    one_of i j less more = elim (cases_lt i j) [
      | inl lt ↦ absurd (less lt)
      | inr le ↦ elim (cases_lt j i) [ inl lt ↦ absurd (more lt) | inr ge ↦ omega (arith, le, ge) ]
    ]

distinct_results : (o : Outline) → Distinct (result_marks o (drawing_of o).held)
distinct_results o =
    let h = (drawing_of o).held in
    let n = length o.prints in
    distinct_flat (print_marks o h) (from_to 0 n) (Distinct-from_to 0 n)
    (λ i. distinct_cond (is_in (print_at o i) (take i o.prints)) (buffer_marks o.ranks h (print_at o i)) (distinct_buffer o (print_at o i)))
    (λ i j m l k x y.
    let a = (from_to-In 0 n i l).1 in
    let b = (from_to-In 0 n j k).1 in
    same_print o i j m (omega (arith, a)) (omega (arith, b)) x y)

-- ---- barriers

one_member : (s first : ℕ) (g : List ℕ) (i : ℕ) → Distinct (member_marks s first g i)
one_member s first g i = (λ x. elim x [ inl e ↦ absurd (cc) | inr none ↦ absurd none ], ((λ x. absurd x), tt))

same_member : (s first : ℕ) (g : List ℕ) (i j : ℕ) (m : Mark) → In m (member_marks s first g i) → In m (member_marks s first g j) → i ≡ j
same_member s first g i j m (inl e) (inl f) =
    let same : first + i ≡ first + j = cells (e ∙ sym f) in omega (arith, same)
  where
    cells : {s r q c d : ℕ} → marks.Enter s r c ≡ marks.Enter s q d → c ≡ d
    cells k = cc
same_member s first g i j m (inl e) (inr (inl f)) = let clash = e ∙ sym f in absurd (cc)
same_member s first g i j m (inl e) (inr (inr none)) = absurd none
same_member s first g i j m (inr (inl e)) (inl f) = let clash = e ∙ sym f in absurd (cc)
same_member s first g i j m (inr (inl e)) (inr (inl f)) =
    let n = rounds (length g) * length g in
    let same : first + (n + i) ≡ first + (n + j) = cells (e ∙ sym f) in omega (arith, same)
  where
    cells : {s r q c d : ℕ} → marks.Leave s r c ≡ marks.Leave s q d → c ≡ d
    cells k = cc
same_member s first g i j m (inr (inl e)) (inr (inr none)) = absurd none
same_member s first g i j m (inr (inr none)) y = absurd none

distinct_row : (s first : ℕ) (g : List ℕ) → Distinct (row_marks s first g)
distinct_row s first g =
    distinct_flat (member_marks s first g) (from_to 0 (length g)) (Distinct-from_to 0 (length g)) (one_member s first g)
    (λ i j m l k x y. same_member s first g i j m x y)

distinct_of_barrier : (t : CollStep) (ms : List Mark) → Distinct ms → Distinct (of_barrier t ms)
distinct_of_barrier Barrier ms d = d
distinct_of_barrier _ ms d = tt

distinct_barriers : (o : Outline) → Distinct (barrier_marks o)
distinct_barriers o =
    let n = length o.steps in
    distinct_flat (step_marks o) (from_to 0 n) (Distinct-from_to 0 n)
    (λ s. distinct_of_barrier (step_at o s) (row_marks s (first_cell o s) (group_at o s)) (distinct_row s (first_cell o s) (group_at o s)))
    (λ s t m l k x y. sym (step_is o s m x).0 ∙ (step_is o t m y).0)

pub distinct_marks : (o : Outline) → Distinct (marks_of o)
unfolding marks_of
distinct_marks o =
    Distinct-append (result_marks o (drawing_of o).held) (barrier_marks o) (distinct_results o) (distinct_barriers o)
    (λ m x y.
    let i = In-flat_cases (print_marks o (drawing_of o).held) (from_to 0 (length o.prints)) m x in
    let b = buffer_is o (print_at o i.0) m (of_print o i.0 m i.2).1 in
    let s = In-flat_cases (step_marks o) (from_to 0 (length o.steps)) m y in
    let clash : true ≡ false = sym (by_due (print_at o i.0) b.0 m b.1) ∙ (step_is o s.0 m s.2).1 in absurd (cc))

-- ---- lines that are for the same are the same

same_some : {a b : ℕ} → Some a ≡ Some b → a ≡ b
same_some e = cc

same_place : (o : Outline) → IsWellFormed o → (s i j : ℕ) → IsPlace o s i → IsPlace o s j → member_at o s i ≡ member_at o s j → i ≡ j
same_place o a s i j x y same = elim (cases_lt i j) [
  | inl lt ↦ absurd (let r = (a.shape.members s x.step).rising i j lt y.place in omega (arith, r, same))
  | inr le ↦ elim (cases_lt j i) [
    | inl lt ↦ absurd (let r = (a.shape.members s x.step).rising j i lt x.place in omega (arith, r, same))
    | inr ge ↦ omega (arith, le, ge)
  ]
]

pub same_mark : (o : Outline) → IsWellFormed o → (x y : Mark) → IsOf o x → IsOf o y → due_of x ≡ due_of y → x ≡ y
same_mark o a (marks.Result b r c) (marks.Result d q e) x y same = results b d r q c e same x.2 y.2
  where
    results : (b d r q c e : ℕ) → dues.Result b r ≡ dues.Result d q → held_cell (drawing_of o).held b r ≡ Some c
        → held_cell (drawing_of o).held d q ≡ Some e → marks.Result b r c ≡ marks.Result d q e
    results b d r q c e same at to =
        let bs : b ≡ d = cc in
        let rs : r ≡ q = cc in
        let held : held_cell (drawing_of o).held b r ≡ Some e = rw (bs, rs) to in
        let cs : c ≡ e = same_some (sym at ∙ held) in cc
same_mark o a (marks.Result b r c) (marks.Enter t q e) x y same = absurd (cc)
same_mark o a (marks.Result b r c) (marks.Leave t q e) x y same = absurd (cc)
same_mark o a (marks.Enter s r c) (marks.Result b q e) x y same = absurd (cc)
same_mark o a (marks.Enter s r c) (marks.Enter t q e) x y same =
    let ss : s ≡ t = cc in
    let rs : r ≡ q = cc in
    let at : IsPlace o s y.0 = subst (λ v. IsPlace o v y.0) (sym ss) y.1 in
    let there : q ≡ member_at o s y.0 = subst (λ v. q ≡ member_at o v y.0) (sym ss) y.2 in
    let is : x.0 ≡ y.0 = same_place o a s x.0 y.0 x.1 at (sym x.2 ∙ rs ∙ there) in
    let cell : e ≡ entry_cell o s y.0 = subst (λ v. e ≡ entry_cell o v y.0) (sym ss) y.3 in
    let cs : c ≡ e = x.3 ∙ ap (entry_cell o s) is ∙ sym cell in cc
same_mark o a (marks.Enter s r c) (marks.Leave t q e) x y same = absurd (cc)
same_mark o a (marks.Leave s r c) (marks.Result b q e) x y same = absurd (cc)
same_mark o a (marks.Leave s r c) (marks.Enter t q e) x y same = absurd (cc)
same_mark o a (marks.Leave s r c) (marks.Leave t q e) x y same =
    let ss : s ≡ t = cc in
    let rs : r ≡ q = cc in
    let at : IsPlace o s y.0 = subst (λ v. IsPlace o v y.0) (sym ss) y.1 in
    let there : q ≡ member_at o s y.0 = subst (λ v. q ≡ member_at o v y.0) (sym ss) y.2 in
    let is : x.0 ≡ y.0 = same_place o a s x.0 y.0 x.1 at (sym x.2 ∙ rs ∙ there) in
    let cell : e ≡ exit_cell o s y.0 = subst (λ v. e ≡ exit_cell o v y.0) (sym ss) y.3 in
    let cs : c ≡ e = x.3 ∙ ap (exit_cell o s) is ∙ sym cell in cc
