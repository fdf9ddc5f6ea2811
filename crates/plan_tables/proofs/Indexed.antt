-- What stands in the lists of the tables.
use Rattle.std.proofs.Common.{ℕ, zero, suc, Bool, true, false, cond, ◌+◌, ◌≡◌, ◌≤◌, ◌<◌, List, [], ◌∷◌, refl, length, filter, get_or, ap}
use Rattle.std.proofs.Common.{◌∙◌, subst, arith, le_of_suc-le-suc}
use Rattle.plan_core.specs.Plan.{from_to}

-- at place i of the numbers from a on, n of them, that pass a test
pub record Passes (t : ℕ → Bool) (a n v : ℕ) : Type 0 where
  pub passes : t v ≡ true
  pub least : a ≤ v
  pub most : v < a + n

filter-at : (t : ℕ → Bool) (a n i : ℕ) → i < length (filter t (from_to a n)) → Passes t a n (get_or (filter t (from_to a n)) i 0)
filter-at t a zero i h = absurd (omega arith)
filter-at t a (suc n) i h = at (t a) refl i h (λ j l. filter-at t (suc a) n j l)
  where
    later : (v : ℕ) → Passes t (suc a) n v → Passes t a (suc n) v
    later v r = let l = r.least in let m = r.most in record { passes = r.passes; least = omega (arith, l); most = omega (arith, m) }

    at : (b : Bool) → t a ≡ b → (i : ℕ) → i < length (cond b (a ∷ filter t (from_to (suc a) n)) (filter t (from_to (suc a) n)))
        → ((j : ℕ) → j < length (filter t (from_to (suc a) n)) → Passes t (suc a) n (get_or (filter t (from_to (suc a) n)) j 0))
        → Passes t a (suc n) (get_or (cond b (a ∷ filter t (from_to (suc a) n)) (filter t (from_to (suc a) n))) i 0)
    at true e zero h rest = record { passes = e; least = omega arith; most = omega arith }
    at true e (suc i) h rest = later (get_or (filter t (from_to (suc a) n)) i 0) (rest i (le_of_suc-le-suc h))
    at false e i h rest = later (get_or (filter t (from_to (suc a) n)) i 0) (rest i h)

length-numbers : (a n : ℕ) → length (from_to a n) ≡ n
length-numbers a zero = refl
length-numbers a (suc n) = let e = length-numbers (suc a) n in omega (arith, e)

filter-shorter : (t : ℕ → Bool) (xs : List ℕ) → length (filter t xs) ≤ length xs
filter-shorter t [] = omega arith
filter-shorter t (x ∷ xs) = at (t x) (filter-shorter t xs)
  where
    at : (b : Bool) → length (filter t xs) ≤ length xs → length (cond b (x ∷ filter t xs) (filter t xs)) ≤ suc (length xs)
    at true h = omega arith
    at false h = omega arith

pub at_most-filtered : (t : ℕ → Bool) (n : ℕ) → length (filter t (from_to 0 n)) ≤ n
at_most-filtered t n = let a = filter-shorter t (from_to 0 n) in let b = length-numbers 0 n in omega (arith, a, b)

pub all-below : (t : ℕ → Bool) (n : ℕ) (xs : List ℕ) → xs ≡ filter t (from_to 0 n) → (i : ℕ) → i < length xs → get_or xs i 0 < n
all-below t n xs e i h = let m = (filter-at t 0 n i (subst (λ v. i < length v) e h)).most in let g = ap (λ v. get_or v i 0) e in
    omega (arith, m, g)

pub all-pass : (t : ℕ → Bool) (n : ℕ) (xs : List ℕ) → xs ≡ filter t (from_to 0 n) → (i : ℕ) → i < length xs → t (get_or xs i 0) ≡ true
all-pass t n xs e i h = ap (λ v. t (get_or v i 0)) e ∙ (filter-at t 0 n i (subst (λ v. i < length v) e h)).passes

pub at_most-listed : (t : ℕ → Bool) (n : ℕ) (xs : List ℕ) → xs ≡ filter t (from_to 0 n) → length xs ≤ n
at_most-listed t n xs e = let f = at_most-filtered t n in let g = ap length e in omega (arith, f, g)
