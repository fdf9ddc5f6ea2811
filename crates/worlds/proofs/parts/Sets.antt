-- Lists of which one member is set anew, and sums of which one part changes.
use Rattle.std.proofs.Common.{ℕ, zero, suc, ◌+◌, ◌<◌, ◌≤◌, ◌≡◌, ◌∙◌, List, get_or, length, sum_by, sym, ap, subst, inl, inr, arith}
use Rattle.std.proofs.Math.ListN.{set, length-set}
use Rattle.std.proofs.lemmas.Bool.{cases_eq}
use Rattle.std.proofs.lemmas.List.{get_or-set_same, get_or-set_other}
use Rattle.std.proofs.lemmas.List.Sums.{sum_by-cons}
use Rattle.plan_core.specs.Plan.{from_to}

-- what holds of the new member where it stands, and of the others where they stand
pub at_set : {A : Type 0} (P : A → Type 0) (xs : List A) (a i : ℕ) (v d : A) → a < length xs → (i ≡ a → P v) →
    ((i ≡ a → ⊥) → P (get_or xs i d)) → P (get_or (set xs a v) i d)
at_set P xs a i v d h here there = elim (cases_eq i a) [
  | inl e ↦ subst P (sym (ap (λ j. get_or (set xs a v) j d) e ∙ get_or-set_same xs a v d h)) (here e)
  | inr n ↦ subst P (sym (get_or-set_other xs a i v d n)) (there n)
]

-- two counts set anew
pub two_marks : (f : ℕ → ℕ) (xs : List ℕ) (a b i : ℕ) → a < length xs → b < length xs → ((i ≡ a → ⊥) → (i ≡ b → ⊥) → get_or xs i 0 ≡ f i)
    → get_or (set (set xs a (f a)) b (f b)) i 0 ≡ f i
two_marks f xs a b i ha hb rest =
    let l = length-set xs a (f a) in
    at_set (λ x. x ≡ f i) (set xs a (f a)) b i (f b) 0 (omega arith) (λ e. ap f (sym e))
    (λ y. at_set (λ x. x ≡ f i) xs a i (f a) 0 ha (λ e. ap f (sym e)) (λ x. rest x y))

-- sums, part by part
pub sum_le : (f g : ℕ → ℕ) (k n : ℕ) → ((i : ℕ) → k ≤ i → i < k + n → g i ≤ f i) → sum_by g (from_to k n) ≤ sum_by f (from_to k n)
sum_le f g k zero le = omega arith
sum_le f g k (suc n) le =
    let a = sum_by-cons g k (from_to (suc k) n) in
    let b = sum_by-cons f k (from_to (suc k) n) in
    let c = sum_le f g (suc k) n (λ i low high. le i (omega arith) (omega arith)) in
    let e = le k (omega arith) (omega arith) in
    omega (arith, a, b, c, e)

-- part j changes by so much at most, and no other grows
pub sum_moves : (f g : ℕ → ℕ) (j a b k n : ℕ) → k ≤ j → j < k + n → ((i : ℕ) → (i ≡ j → ⊥) → k ≤ i → i < k + n → g i ≤ f i) →
    g j + a ≤ f j + b → sum_by g (from_to k n) + a ≤ sum_by f (from_to k n) + b
sum_moves f g j a b k zero low high le here = absurd (omega arith)
sum_moves f g j a b k (suc n) low high le here = elim (cases_eq k j) [
  | inl e ↦
      let p = sum_by-cons g k (from_to (suc k) n) in
      let q = sum_by-cons f k (from_to (suc k) n) in
      let r = sum_le f g (suc k) n (λ i l h. le i (λ x. absurd (omega arith)) (omega arith) (omega arith)) in
      let s : g k + a ≤ f k + b = subst (λ i. g i + a ≤ f i + b) (sym e) here in
      omega (arith, p, q, r, s)
  | inr apart ↦
      let p = sum_by-cons g k (from_to (suc k) n) in
      let q = sum_by-cons f k (from_to (suc k) n) in
      let r = sum_moves f g j a b (suc k) n (omega arith) (omega arith) (λ i x l h. le i x (omega arith) (omega arith)) here in
      let s = le k apart (omega arith) (omega arith) in
      omega (arith, p, q, r, s)
]

-- a part is at most the sum
pub part_le : (f : ℕ → ℕ) (j k n : ℕ) → k ≤ j → j < k + n → f j ≤ sum_by f (from_to k n)
part_le f j k n low high = let a = sum_moves f (λ i. 0) j (f j) 0 k n low high (λ i x l h. omega arith) (omega arith) in omega (arith, a)
