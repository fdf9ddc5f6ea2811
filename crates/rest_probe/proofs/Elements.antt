-- Lists read element by element.
use Rattle.std.proofs.Common.{◌≡◌, ◌<◌, ◌+◌, ◌⊎◌, ◌∙◌, ◌++◌, ⊎_elim, ℕ, zero, suc, List, [], ◌∷◌, length, map, ap, ap₂, arith, inl, inr}
use Rattle.std.proofs.Common.{refl, sym, subst}
use Rattle.std.proofs.lemmas.Bool.{cases_eq}
use mathlib.Core.Option.{some, some-injective, some-ne-none}
use lib.ListN.{get_elem?}

pub within : {A : Type 0} (l : List A) (i : ℕ) (a : A) → get_elem? l i ≡ some a → i < length l
within [] i a e = absurd (some-ne-none a (sym e))
within (x ∷ xs) zero a e = omega arith
within (x ∷ xs) (suc i) a e = let k = within xs i a e in omega arith

pub same-at : {A : Type 0} (l : List A) (i : ℕ) (a b : A) → get_elem? l i ≡ some a → get_elem? l i ≡ some b → a ≡ b
same-at l i a b e f = some-injective a b (sym e ∙ f)

-- a list that is as long, and whose elements are those of f
pub mapped : {A B : Type 0} (f : A → B) (xs : List A) (ys : List B) → length ys ≡ length xs →
    ((i : ℕ) (x : A) (y : B) → get_elem? xs i ≡ some x → get_elem? ys i ≡ some y → y ≡ f x) → ys ≡ map f xs
mapped f [] [] e h = refl
mapped f [] (y ∷ ys) e h = absurd (omega (arith, e))
mapped f (x ∷ xs) [] e h = absurd (omega (arith, e))
mapped f (x ∷ xs) (y ∷ ys) e h = ap₂ (λ a b. a ∷ b) (h zero x y refl refl) (mapped f xs ys (omega (arith, e)) (λ i. h (suc i)))

snoc-at : {A : Type 0} (ys : List A) (b : A) (k : ℕ) (a : A) → get_elem? (ys ++ b ∷ []) k ≡ some a →
    (get_elem? ys k ≡ some a) ⊎ ((k ≡ length ys) × (b ≡ a))
snoc-at [] b zero a e = inr (refl, some-injective b a e)
snoc-at [] b (suc k) a e = absurd (some-ne-none a (sym e))
snoc-at (y ∷ ys) b zero a e = inl e
snoc-at (y ∷ ys) b (suc k) a e = ⊎_elim (λ h. inl h) (λ h. inr (ap suc h.0, h.1)) (snoc-at ys b k a e)

-- one element more
pub all-more : {A : Type 0} (P : ℕ → A → Type 0) (xs : List A) (x : A) → ((i : ℕ) (y : A) → get_elem? xs i ≡ some y → P i y) →
    P (length xs) x → (i : ℕ) (y : A) → get_elem? (xs ++ x ∷ []) i ≡ some y → P i y
all-more P xs x h here i y e = ⊎_elim (λ at. h i y at) (λ (is : (i ≡ length xs) × (x ≡ y)). subst (λ (z : ℕ × _). P z.0 z.1)
    (λ k. (sym is.0 k, is.1 k)) here) (snoc-at xs x i y e)

pub at_map_back : {A B : Type 0} (f : A → B) (l : List A) (i : ℕ) (b : B) → get_elem? (map f l) i ≡ some b → (a : A) ×
    (get_elem? l i ≡ some a) × (f a ≡ b)
at_map_back f [] i b e = absurd (some-ne-none b (sym e))
at_map_back f (x ∷ xs) zero b e = (x, refl, some-injective (f x) b e)
at_map_back f (x ∷ xs) (suc i) b e = at_map_back f xs i b e

-- what holds of each element below n, and of that at n
pub below-next : {A : Type 0} (P : A → Type 0) (l : List A) (n : ℕ) (a : A) → ((i : ℕ) (x : A) → i < n → get_elem? l i ≡ some x → P x) →
    get_elem? l n ≡ some a → P a
    → (i : ℕ) (x : A) → i < n + 1 → get_elem? l i ≡ some x → P x
below-next P l n a h there here i x low at = ⊎_elim
    (λ (is : i ≡ n). subst P (same-at l n a x there (ap (get_elem? l) (sym is) ∙ at)) here)
    (λ (apart : i ≡ n → ⊥). h i x (omega (arith, low, apart)) at) (cases_eq i n)
