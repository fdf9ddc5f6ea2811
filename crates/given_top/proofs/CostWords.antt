-- Words that ask for no times.
use Rattle.std.proofs.Common.{◌≡◌, ◌<◌, ◌≤◌, ℕ, List, [], ◌∷◌, length, map, None, refl, arith}
use Rattle.given_top.specs.Words.{cost_of}

pub few_words : (A : Type 0) (f : A → List ℕ) (words : List A) → length words < 5 → None ≡ cost_of (map f words)
few_words A f [] few = refl
few_words A f (a ∷ []) few = refl
few_words A f (a ∷ b ∷ []) few = refl
few_words A f (a ∷ b ∷ c ∷ []) few = refl
few_words A f (a ∷ b ∷ c ∷ d ∷ []) few = refl
few_words A f (a ∷ b ∷ c ∷ d ∷ e ∷ rest) few = absurd (omega (arith, few))

pub many_words : (A : Type 0) (f : A → List ℕ) (words : List A) → 7 ≤ length words → None ≡ cost_of (map f words)
many_words A f [] many = absurd (omega (arith, many))
many_words A f (a ∷ []) many = absurd (omega (arith, many))
many_words A f (a ∷ b ∷ []) many = absurd (omega (arith, many))
many_words A f (a ∷ b ∷ c ∷ []) many = absurd (omega (arith, many))
many_words A f (a ∷ b ∷ c ∷ d ∷ []) many = absurd (omega (arith, many))
many_words A f (a ∷ b ∷ c ∷ d ∷ e ∷ []) many = absurd (omega (arith, many))
many_words A f (a ∷ b ∷ c ∷ d ∷ e ∷ g ∷ []) many = absurd (omega (arith, many))
many_words A f (a ∷ b ∷ c ∷ d ∷ e ∷ g ∷ h ∷ rest) many = refl
