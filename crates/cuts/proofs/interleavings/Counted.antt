-- Sums over the ranks, and how one of them changes.
use Rattle.std.proofs.Common.{ℕ, zero, suc, ◌≡◌, ◌<◌, ◌≤◌, ◌+◌, ◌∙◌, List, [], ◌∷◌, inl, inr, refl, ap₂, sym, subst, arith, sum_by}
use Rattle.std.proofs.lemmas.Bool.{cases_eq}
use Rattle.std.proofs.lemmas.List.Sums.{sum_by-cons}
use Rattle.plan_core.specs.Plan.{from_to}

pub sum_both : {X : Type 0} (f g : X → ℕ) (xs : List X) → sum_by (λ x. f x + g x) xs ≡ sum_by f xs + sum_by g xs
sum_both f g [] = refl
sum_both f g (x ∷ xs) =
    let a = sum_by-cons (λ x. f x + g x) x xs in
    let b = sum_by-cons f x xs in
    let c = sum_by-cons g x xs in
    let d = sum_both f g xs in
    omega (arith, a, b, c, d)

-- alike at each rank
pub sum_alike : (f g : ℕ → ℕ) (k n : ℕ) → ((i : ℕ) → k ≤ i → i < k + n → g i ≡ f i) → sum_by g (from_to k n) ≡ sum_by f (from_to k n)
sum_alike f g k zero same = refl
sum_alike f g k (suc n) same =
    sum_by-cons g k (from_to (suc k) n)
    ∙ ap₂ (λ a b. a + b) (same k (omega arith) (omega arith)) (sum_alike f g (suc k) n (λ i low high. same i (omega arith) (omega arith)))
    ∙ sym (sum_by-cons f k (from_to (suc k) n))

-- at most as much at each rank
pub sum_within : (f g : ℕ → ℕ) (k n : ℕ) → ((i : ℕ) → k ≤ i → i < k + n → g i ≤ f i) → sum_by g (from_to k n) ≤ sum_by f (from_to k n)
sum_within f g k zero at_most = omega arith
sum_within f g k (suc n) at_most =
    let a = sum_by-cons g k (from_to (suc k) n) in
    let b = sum_by-cons f k (from_to (suc k) n) in
    let c = at_most k (omega arith) (omega arith) in
    let d = sum_within f g (suc k) n (λ i low high. at_most i (omega arith) (omega arith)) in
    omega (arith, a, b, c, d)

-- alike at each rank but one
pub sum_but_one : (f g : ℕ → ℕ) (j a b k n : ℕ) → k ≤ j → j < k + n → ((i : ℕ) → (i ≡ j → ⊥) → k ≤ i → i < k + n → g i ≡ f i)
    → g j + a ≡ f j + b
    → sum_by g (from_to k n) + a ≡ sum_by f (from_to k n) + b
sum_but_one f g j a b k zero low high same one = absurd (omega arith)
sum_but_one f g j a b k (suc n) low high same one = elim (cases_eq k j) [
  | inl e ↦
      let x = sum_by-cons g k (from_to (suc k) n) in
      let y = sum_by-cons f k (from_to (suc k) n) in
      let z = sum_alike f g (suc k) n (λ i l h. same i (λ q. absurd (omega arith)) (omega arith) (omega arith)) in
      let d : g k + a ≡ f k + b = subst (λ i. g i + a ≡ f i + b) (sym e) one in
      omega (arith, x, y, z, d)
  | inr apart ↦
      let x = sum_by-cons g k (from_to (suc k) n) in
      let y = sum_by-cons f k (from_to (suc k) n) in
      let z = sum_but_one f g j a b (suc k) n (omega arith) (omega arith) (λ i q l h. same i q (omega arith) (omega arith)) one in
      let d = same k apart (omega arith) (omega arith) in
      omega (arith, x, y, z, d)
]
