-- The first hand and the others.
use Rattle.std.proofs.Common.{◌≡◌, ◌∷◌, ◌+◌, ◌∙◌, ℕ, zero, suc, List, ap₂, sym, arith}
use Rattle.std.specs.Prelude.{All, sum_by}
use Rattle.std.proofs.lemmas.List.Sums.{sum_by-cons}

pub all-cons : {A : Type 0} (P : A → Type 0) (x : A) (xs : List A) → P x → All P xs → All P (x ∷ xs)
all-cons P x xs p ps zero d low = p
all-cons P x xs p ps (suc k) d low = ps k d (omega (arith, low))

pub all-first : {A : Type 0} (P : A → Type 0) (x : A) (xs : List A) → All P (x ∷ xs) → P x
all-first P x xs ps = ps 0 x (omega arith)

pub all-rest : {A : Type 0} (P : A → Type 0) (x : A) (xs : List A) → All P (x ∷ xs) → All P xs
all-rest P x xs ps k d low = ps (suc k) d (omega (arith, low))

pub sum-cons : {A : Type 0} (f : A → ℕ) (x y : A) (xs ys : List A) → f y ≡ f x → sum_by f ys ≡ sum_by f xs
    → sum_by f (y ∷ ys) ≡ sum_by f (x ∷ xs)
sum-cons f x y xs ys e h = sum_by-cons f y ys ∙ (ap₂ (λ a b. a + b) e h ∙ sym (sum_by-cons f x xs))
