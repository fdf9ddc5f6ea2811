-- Sums over numbers as one term of them changes.
use Rattle.std.proofs.Common.{ℕ, zero, suc, ◌≡◌, ◌<◌, ◌≤◌, ◌+◌, ◌⊎◌, inl, inr, ◌∷◌, sum_by, arith, refl, ◌∙◌, ap}
use Rattle.std.proofs.lemmas.List.Sums.{sum_by-cons}
use Rattle.plan_core.specs.Plan.{from_to}
use Rattle.plan_core.proofs.Drawing.{from_to-more}
use Rattle.plan_tables.proofs.Sums.{sum-one, sum-prefix}
use Rattle.plan_costs.proofs.Ports.{same_or_not}

pub same_sum : (f g : ℕ → ℕ) (k n : ℕ) → ((j : ℕ) → k ≤ j → j < k + n → g j ≡ f j) → sum_by g (from_to k n) ≡ sum_by f (from_to k n)
same_sum f g k zero h = refl
same_sum f g k (suc n) h =
    let a = sum_by-cons f k (from_to (suc k) n) in
    let b = sum_by-cons g k (from_to (suc k) n) in
    let r = same_sum f g (suc k) n (λ j u v. h j (omega (arith, u)) (omega (arith, v))) in
    let e = h k (omega arith) (omega arith) in
    omega (arith, a, b, r, e)

-- the term of x changes
pub changed_sum : (f g : ℕ → ℕ) (k n x : ℕ) → k ≤ x → x < k + n → ((j : ℕ) → j < k + n → (j ≡ x → ⊥) → g j ≡ f j)
    → sum_by g (from_to k n) + f x ≡ sum_by f (from_to k n) + g x
changed_sum f g k zero x low high h = absurd (omega (arith, low, high))
changed_sum f g k (suc n) x low high h =
    at (same_or_not k x) (λ ne. changed_sum f g (suc k) n x (omega (arith, low, ne)) (omega (arith, high)) (λ j u v. h j (omega (arith, u))
    v))
  where
    a : sum_by f (k ∷ from_to (suc k) n) ≡ f k + sum_by f (from_to (suc k) n)
    a = sum_by-cons f k (from_to (suc k) n)

    b : sum_by g (k ∷ from_to (suc k) n) ≡ g k + sum_by g (from_to (suc k) n)
    b = sum_by-cons g k (from_to (suc k) n)

    at : (k ≡ x) ⊎ (k ≡ x → ⊥) → ((k ≡ x → ⊥) → sum_by g (from_to (suc k) n) + f x ≡ sum_by f (from_to (suc k) n) + g x)
        → sum_by g (k ∷ from_to (suc k) n) + f x ≡ sum_by f (k ∷ from_to (suc k) n) + g x
    at (inl e) _ =
        let r = same_sum f g (suc k) n (λ j u v. h j (omega (arith, v)) (λ z. omega (arith, z, u, e))) in
        let p = ap f e in let q = ap g e in
        omega (arith, a, b, r, p, q)
    at (inr ne) more =
        let r = more ne in
        let e = h k (omega arith) ne in
        omega (arith, a, b, r, e)

-- a term is at most the sum
pub term_within : (f : ℕ → ℕ) (k n x : ℕ) → k ≤ x → x < k + n → f x ≤ sum_by f (from_to k n)
term_within f k zero x low high = absurd (omega (arith, low, high))
term_within f k (suc n) x low high =
    at (same_or_not k x) (λ ne. term_within f (suc k) n x (omega (arith, low, ne)) (omega (arith, high)))
  where
    a : sum_by f (k ∷ from_to (suc k) n) ≡ f k + sum_by f (from_to (suc k) n)
    a = sum_by-cons f k (from_to (suc k) n)

    at : (k ≡ x) ⊎ (k ≡ x → ⊥) → ((k ≡ x → ⊥) → f x ≤ sum_by f (from_to (suc k) n)) → f x ≤ sum_by f (k ∷ from_to (suc k) n)
    at (inl e) _ = let p = ap f e in omega (arith, a, p)
    at (inr ne) more = let r = more ne in omega (arith, a, r)

-- a sum of nothing
pub no_sum : (f : ℕ → ℕ) (k n : ℕ) → ((j : ℕ) → k ≤ j → j < k + n → f j ≡ 0) → sum_by f (from_to k n) ≡ 0
no_sum f k zero h = refl
no_sum f k (suc n) h =
    let a = sum_by-cons f k (from_to (suc k) n) in
    let r = no_sum f (suc k) n (λ j u v. h j (omega (arith, u)) (omega (arith, v))) in
    let e = h k (omega arith) (omega arith) in
    omega (arith, a, r, e)

-- the numbers up to k, one more
pub one_more : (f : ℕ → ℕ) (k : ℕ) → sum_by f (from_to 0 (k + 1)) ≡ sum_by f (from_to 0 k) + f k
one_more f k =
    ap (λ v. sum_by f (from_to 0 v)) (let z : k + 1 ≡ suc k = omega arith in z)
    ∙ ap (sum_by f) (from_to-more 0 k)
    ∙ sum-one f (from_to 0 k) (0 + k)
    ∙ ap (λ v. sum_by f (from_to 0 k) + f v) (let z : 0 + k ≡ k = omega arith in z)

pub sum_within : (f : ℕ → ℕ) (k n : ℕ) → k < n → sum_by f (from_to 0 k) + f k ≤ sum_by f (from_to 0 n)
sum_within f k n h =
    let a = one_more f k in
    let b = sum-prefix f (k + 1) n (omega (arith, h)) in
    omega (arith, a, b)
