-- What becomes of a list element by element.
use Rattle.std.proofs.Common.{◌≡◌, ◌≢◌, ℕ, zero, suc, ◌<◌, List, [], ◌∷◌, length, map, set, sym, refl, ap, ◌∙◌, subst, arith, ⊎_elim}
use Rattle.std.proofs.Common.{length-set}
use mathlib.Core.Option.{some, some-injective, some-ne-none}
use lib.ListN.{get_elem?}
use Rattle.atomic_table.proofs.Lists.{at_set}
use Rattle.rank_slots.specs.Lists.{Each, Pairwise}

pub within : {A : Type 0} (l : List A) (i : ℕ) (a : A) → get_elem? l i ≡ some a → i < length l
within [] i a e = absurd (some-ne-none a (sym e))
within (x ∷ xs) zero a e = omega arith
within (x ∷ xs) (suc i) a e = let k = within xs i a e in omega arith

pub exists_at : {A : Type 0} (l : List A) (i : ℕ) → i < length l → (a : A) × (get_elem? l i ≡ some a)
exists_at [] i h = absurd (omega arith)
exists_at (x ∷ xs) zero h = (x, refl)
exists_at (x ∷ xs) (suc i) h = exists_at xs i (omega arith)

pub same_at : {A : Type 0} (l : List A) (i : ℕ) (a b : A) → get_elem? l i ≡ some a → get_elem? l i ≡ some b → a ≡ b
same_at l i a b e f = some-injective a b (sym e ∙ f)

pub at_map_back : {A B : Type 0} (f : A → B) (l : List A) (i : ℕ) (b : B) → get_elem? (map f l) i ≡ some b → (a : A) ×
    (get_elem? l i ≡ some a) × (f a ≡ b)
at_map_back f [] i b e = absurd (some-ne-none b (sym e))
at_map_back f (x ∷ xs) zero b e = (x, refl, some-injective (f x) b e)
at_map_back f (x ∷ xs) (suc i) b e = at_map_back f xs i b e

-- ---- each
pub each_set : {A : Type 0} (P : A → Type 0) (xs : List A) (i : ℕ) (y : A) → P y →
    ((j : ℕ) (z : A) → j ≢ i → get_elem? xs j ≡ some z → P z) → Each P (set xs i y)
each_set P xs i y here others j z e = ⊎_elim (λ (is : (j ≡ i) × (y ≡ z)). subst P is.1 here)
    (λ (is : (j ≢ i) × (get_elem? xs j ≡ some z)). others j z is.0 is.1) (at_set xs i j y z e)

-- what holds of each element of a mapped list holds of each that it was mapped from
pub each_map : {A B : Type 0} (P : B → Type 0) (f : A → B) (xs ys : List A) → map f ys ≡ map f xs → Each P (map f xs) → Each P (map f ys)
each_map P f xs ys e h = subst (Each P) (sym e) h

-- ---- pairs
pub pairs_same : {A : Type 0} (R : A → A → Type 0) (xs : List A) → ((x : A) → R x x) → Pairwise R xs xs
pairs_same R xs same = record { many = refl; each = λ i x y e f. subst (R x) (same_at xs i x y e f) (same x) }

pub pairs_set : {A : Type 0} (R : A → A → Type 0) (xs : List A) (i : ℕ) (x y : A) → get_elem? xs i ≡ some x → R x y →
    ((j : ℕ) (z : A) → j ≢ i → get_elem? xs j ≡ some z → R z z) → Pairwise R xs (set xs i y)
pairs_set R xs i x y at here others = record {
  many = length-set xs i y;
  each = λ j a b e f. ⊎_elim
      (λ (is : (j ≡ i) × (y ≡ b)). subst (R a) is.1 (subst (λ z. R z y) (same_at xs j x a (ap (get_elem? xs) is.0 ∙ at) e) here))
      (λ (is : (j ≢ i) × (get_elem? xs j ≡ some b)). subst (R a) (same_at xs j a b e is.1) (others j a is.0 e)) (at_set xs i j y b f);
}

-- by way of a list between
pub pairs_after : {A : Type 0} (P Q R : A → A → Type 0) (xs ys zs : List A) → ((x y z : A) → P x y → Q y z → R x z) → Pairwise P xs ys →
    Pairwise Q ys zs → Pairwise R xs zs
pairs_after P Q R xs ys zs join p q = record {
  many = q.many ∙ p.many;
  each = λ i x z e f. let y = exists_at ys i (let k = within xs i x e in let m = p.many in omega arith) in
      join x y.0 z (p.each i x y.0 e y.1) (q.each i y.0 z y.1 f);
}

pub pairs_weaker : {A : Type 0} (P Q : A → A → Type 0) (xs ys : List A) → ((x y : A) → P x y → Q x y) → Pairwise P xs ys → Pairwise Q xs ys
pairs_weaker P Q xs ys f p = record { many = p.many; each = λ i x y a b. f x y (p.each i x y a b) }

-- what no pair changes
pub pairs_map : {A B : Type 0} (R : A → A → Type 0) (f : A → B) (xs ys : List A) → ((x y : A) → R x y → f y ≡ f x) → Pairwise R xs ys →
    map f ys ≡ map f xs
pairs_map R f [] [] same p = refl
pairs_map R f [] (y ∷ ys) same p = absurd (let m = p.many in omega arith)
pairs_map R f (x ∷ xs) [] same p = absurd (let m = p.many in omega arith)
pairs_map R f (x ∷ xs) (y ∷ ys) same p = λ i. same x y (p.each 0 x y refl refl) i ∷ pairs_map R f xs ys same
    (record { many = (let m = p.many in omega arith); each = λ j a b e g. p.each (suc j) a b e g }) i
