-- Sums over lists, a list with one element changed, and the numbers of a numbers_from.
use Rattle.std.proofs.Common.{◌≡◌, ◌≢◌, ℕ, zero, suc, ◌+◌, ◌≤◌, ◌⊎◌, inl, inr, ⊎_elim, List, [], ◌∷◌, ◌++◌, length, set, sym, refl, ap, ◌∙◌}
use Rattle.std.proofs.Common.{arith, append_assoc, append-nil, ◌==◌, cond}
use mathlib.Core.Option.{some, some-injective, some-ne-none}
use mathlib.Core.List.{IsPrefix}
use lib.ListN.{get_elem?}
use Rattle.std.proofs.lemmas.Bool.Decides.{nat_tests}
use Rattle.std.proofs.lemmas.List.Sums.{sum_by-append, sum_by-cons}
use Rattle.std.specs.Prelude.{sum_by}
use Rattle.turn_table.specs.Views.{adjusted, times, once_below, numbers_from}

module _ {A : Type 0} where
  pub sum_set : (f : A → ℕ) (l : List A) (j : ℕ) (v w : A) → get_elem? l j ≡ some v → sum_by f (set l j w) + f v ≡ sum_by f l + f w
  sum_set f [] j v w e = absurd (some-ne-none v (sym e))
  sum_set f (x ∷ xs) zero v w e = let is : f x ≡ f v = ap f (some-injective x v e) in let a = sum_by-cons f x xs in let b =
      sum_by-cons f w xs in omega arith
  sum_set f (x ∷ xs) (suc j) v w e = let ih = sum_set f xs j v w e in let a = sum_by-cons f x xs in let b =
      sum_by-cons f x (set xs j w) in
      omega arith

  pub set_there : (l : List A) (j : ℕ) (v w : A) → get_elem? l j ≡ some v → get_elem? (set l j w) j ≡ some w
  set_there [] j v w e = absurd (some-ne-none v (sym e))
  set_there (x ∷ xs) zero v w e = refl
  set_there (x ∷ xs) (suc j) v w e = set_there xs j v w e

  -- an element adds no more than the whole
  pub sum_at : (f : A → ℕ) (l : List A) (j : ℕ) (v : A) → get_elem? l j ≡ some v → f v ≤ sum_by f l
  sum_at f [] j v e = absurd (some-ne-none v (sym e))
  sum_at f (x ∷ xs) zero v e = let is : f x ≡ f v = ap f (some-injective x v e) in let a = sum_by-cons f x xs in omega arith
  sum_at f (x ∷ xs) (suc j) v e = let ih = sum_at f xs j v e in let a = sum_by-cons f x xs in omega arith

  pub sum_two : (f : A → ℕ) (l : List A) (i j : ℕ) (v w : A) → i ≢ j → get_elem? l i ≡ some v → get_elem? l j ≡ some w →
      f v + f w ≤ sum_by f l
  sum_two f [] i j v w n e d = absurd (some-ne-none v (sym e))
  sum_two f (x ∷ xs) zero zero v w n e d = absurd (n refl)
  sum_two f (x ∷ xs) zero (suc j) v w n e d = let is : f x ≡ f v = ap f (some-injective x v e) in let h = sum_at f xs j w d in let a =
      sum_by-cons f x xs in omega arith
  sum_two f (x ∷ xs) (suc i) zero v w n e d = let is : f x ≡ f w = ap f (some-injective x w d) in let h = sum_at f xs i v e in let a =
      sum_by-cons f x xs in omega arith
  sum_two f (x ∷ xs) (suc i) (suc j) v w n e d = let h = sum_two f xs i j v w (λ p. n (ap suc p)) e d in let a = sum_by-cons f x xs in
      omega arith

  -- where the others add nothing, one element adds the whole
  pub sum_alone : (f : A → ℕ) (l : List A) (i : ℕ) (v : A) → get_elem? l i ≡ some v →
      ((j : ℕ) (w : A) → j ≢ i → get_elem? l j ≡ some w → f w ≡ 0) → sum_by f l ≡ f v
  sum_alone f [] i v e none = absurd (some-ne-none v (sym e))
  sum_alone f (x ∷ xs) zero v e none = let is : f x ≡ f v = ap f (some-injective x v e) in let h =
      sum_none f xs (λ j w d. none (suc j) w
      (λ p. omega arith) d) in let a =
      sum_by-cons f x xs in omega arith
    where
      sum_none : (f : A → ℕ) (l : List A) → ((j : ℕ) (w : A) → get_elem? l j ≡ some w → f w ≡ 0) → sum_by f l ≡ 0
      sum_none f [] h = refl
      sum_none f (x ∷ xs) h = let a = h 0 x refl in let b = sum_none f xs (λ j w d. h (suc j) w d) in let c = sum_by-cons f x xs in
          omega arith
  sum_alone f (x ∷ xs) (suc i) v e none = let a = none 0 x (λ p. omega arith) refl in let b =
      sum_alone f xs i v e
      (λ j w n d. none (suc j) w
      (λ p. n (omega arith)) d) in let c =
      sum_by-cons f x xs in omega arith

  pub adjusted_at : (l : List A) (k j : ℕ) (f : A → A) (b : A) → get_elem? (adjusted l k f) j ≡ some b
      → ((j ≡ k) × ((a : A) × (get_elem? l j ≡ some a) × (f a ≡ b))) ⊎ ((j ≢ k) × (get_elem? l j ≡ some b))
  adjusted_at [] k j f b e = absurd (some-ne-none b (sym e))
  adjusted_at (x ∷ xs) zero zero f b e = inl (refl, (x, refl, some-injective (f x) b e))
  adjusted_at (x ∷ xs) zero (suc j) f b e = inr ((λ h. omega arith), e)
  adjusted_at (x ∷ xs) (suc k) zero f b e = inr ((λ h. omega arith), e)
  adjusted_at (x ∷ xs) (suc k) (suc j) f b e = ⊎_elim (λ (t : (j ≡ k) × ((a : A) × (get_elem? xs j ≡ some a) × (f a ≡ b))). inl
      (ap suc t.0, t.1)) (λ (t : (j ≢ k) × (get_elem? xs j ≡ some b)). let n = t.0 in inr ((λ h. n (omega arith)), t.1))
      (adjusted_at xs k j f b e)

  pub adjusted_length : (l : List A) (k : ℕ) (f : A → A) → length (adjusted l k f) ≡ length l
  adjusted_length [] k f = refl
  adjusted_length (x ∷ xs) zero f = refl
  adjusted_length (x ∷ xs) (suc k) f = ap suc (adjusted_length xs k f)

  pub prefix_refl : (xs : List A) → IsPrefix xs xs
  prefix_refl xs = ([], append-nil xs)

  pub prefix_trans : (xs ys zs : List A) → IsPrefix xs ys → IsPrefix ys zs → IsPrefix xs zs
  prefix_trans xs ys zs a b = (a.0 ++ b.0, sym (append_assoc xs a.0 b.0) ∙ (ap (λ l. l ++ b.0) a.1 ∙ b.1))

pub below_suc : (p a : ℕ) → once_below p (suc a) ≡ once_below p a + times p (a ∷ [])
below_suc p a = grind (arith, nat_tests)

pub below_zero : (p : ℕ) → once_below p 0 ≡ 0
below_zero p = grind (arith, nat_tests)

-- the numbers of a numbers_from, each once
pub times_numbers_from : (p a d : ℕ) → once_below p (a + d) ≡ once_below p a + times p (numbers_from a d)
times_numbers_from p a zero = let e : a + 0 ≡ a = omega arith in let f : once_below p (a + 0) ≡ once_below p a =
    ap (λ n. once_below p n) e in omega arith
times_numbers_from p a (suc d) = let g = sum_by-cons (λ y. cond (y == p) 1 0) a (numbers_from (suc a) d) in let h =
    times_numbers_from p
    (suc a) d in let s =
    below_suc p a in let e : a + suc d ≡ suc a + d = omega arith in
    let f : once_below p (a + suc d) ≡ once_below p (suc a + d) = ap (λ n. once_below p n) e in omega arith

pub times_append : (p : ℕ) (xs ys : List ℕ) → times p (xs ++ ys) ≡ times p xs + times p ys
times_append p xs ys = sum_by-append (λ y. cond (y == p) 1 0) xs ys
