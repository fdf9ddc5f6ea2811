-- Lists that grow and shrink at their end.
use Rattle.std.proofs.Common.{◌≡◌, ℕ, zero, suc, ◌<◌, Bool, true, false, List, [], ◌∷◌, ◌++◌, length, map, take, get_or, sym, refl, ap}
use Rattle.std.proofs.Common.{ap₂, ◌∙◌, subst, arith, length-append, append-nil, Some, ◌⊎◌, ⊎_elim, inl, inr, if◌then◌else◌}
use mathlib.Core.Option.{some, some-injective, some-ne-none}
use lib.ListN.{get_elem?}
use Rattle.std.specs.Prelude.{Option}
use Rattle.std.specs.Option.{option_to_list}
use Rattle.rank_slots.specs.Lists.{Each}
use Rattle.rank_slots.proofs.Pairs.{within}

pub last_at : {A : Type 0} (ys : List A) (a : A) → get_elem? (ys ++ a ∷ []) (length ys) ≡ some a
last_at [] a = refl
last_at (y ∷ ys) a = last_at ys a

pub front_at : {A : Type 0} (ys m : List A) (k : ℕ) → k < length ys → get_elem? (ys ++ m) k ≡ get_elem? ys k
front_at [] m k h = absurd (omega arith)
front_at (y ∷ ys) m zero h = refl
front_at (y ∷ ys) m (suc k) h = front_at ys m k (omega arith)

pub front_some : {A : Type 0} (ys m : List A) (k : ℕ) (a : A) → get_elem? ys k ≡ some a → get_elem? (ys ++ m) k ≡ some a
front_some ys m k a e = front_at ys m k (within ys k a e) ∙ e

-- an element of a longer list is one of the list, or the new one
pub snoc_at : {A : Type 0} (ys : List A) (b : A) (k : ℕ) (a : A) → get_elem? (ys ++ b ∷ []) k ≡ some a →
    (get_elem? ys k ≡ some a) ⊎ ((k ≡ length ys) × (b ≡ a))
snoc_at [] b zero a e = inr (refl, some-injective b a e)
snoc_at [] b (suc k) a e = absurd (some-ne-none a (sym e))
snoc_at (y ∷ ys) b zero a e = inl e
snoc_at (y ∷ ys) b (suc k) a e = ⊎_elim (λ h. inl h) (λ h. inr (ap suc h.0, h.1)) (snoc_at ys b k a e)

pub snoc_injective : {A : Type 0} (xs ys : List A) (x y : A) → xs ++ x ∷ [] ≡ ys ++ y ∷ [] → (xs ≡ ys) × (x ≡ y)
snoc_injective [] [] x y e = (refl, some-injective x y (ap (λ l. get_elem? l 0) e))
snoc_injective [] (b ∷ ys) x y e = let q = length-append ys (y ∷ []) in absurd (omega (arith, q, ap (λ (l : List _). length l) e))
snoc_injective (a ∷ xs) [] x y e = let q = length-append xs (x ∷ []) in absurd (omega (arith, q, ap (λ (l : List _). length l) e))
snoc_injective (a ∷ xs) (b ∷ ys) x y e = let r = snoc_injective xs ys x y (ap tail_of e) in
    (ap₂ (λ u l. u ∷ l) (some-injective a b (ap (λ l. get_elem? l 0) e)) r.0, r.1)
  where
    tail_of : {A : Type 0} → List A → List A
    tail_of [] = []
    tail_of (z ∷ zs) = zs

pub map_snoc : {A B : Type 0} (f : A → B) (xs : List A) (x : A) → map f (xs ++ x ∷ []) ≡ map f xs ++ f x ∷ []
map_snoc f [] x = refl
map_snoc f (y ∷ ys) x = ap (λ l. f y ∷ l) (map_snoc f ys x)

pub map_if : {A B : Type 0} (f : A → B) (xs : List A) (x : A) (c : Bool) → map f (xs ++ (if c then x ∷ [] else [])) ≡ map f xs ++
    (if c then f x ∷ [] else [])
map_if f xs x true = map_snoc f xs x
map_if f xs x false = ap (map f) (append-nil xs) ∙ sym (append-nil (map f xs))

pub length_map : {A B : Type 0} (f : A → B) (xs : List A) → length (map f xs) ≡ length xs
length_map f [] = refl
length_map f (x ∷ xs) = ap suc (length_map f xs)

-- ---- something of each element
pub each_nil : {A : Type 0} (P : A → Type 0) → Each P []
each_nil P i x e = absurd (some-ne-none x (sym e))

pub each_snoc : {A : Type 0} (P : A → Type 0) (xs : List A) (x : A) → Each P xs → P x → Each P (xs ++ x ∷ [])
each_snoc P xs x h p i y e = ⊎_elim (λ at. h i y at) (λ is. subst P is.1 p) (snoc_at xs x i y e)

pub each_front : {A : Type 0} (P : A → Type 0) (xs ys : List A) → Each P (xs ++ ys) → Each P xs
each_front P xs ys h i x e = h i x (front_some xs ys i x e)

pub each_last : {A : Type 0} (P : A → Type 0) (xs : List A) (x : A) → Each P (xs ++ x ∷ []) → P x
each_last P xs x h = h (length xs) x (last_at xs x)

-- a list whose last element was taken off
pub popped : {A : Type 0} (xs ys : List A) (r : Option A) (a : A) → xs ≡ ys ++ option_to_list r → r ≡ Some a → xs ≡ ys ++ a ∷ []
popped xs ys r a e is = e ∙ ap (λ r. ys ++ option_to_list r) is

pub take_more : {A : Type 0} (xs : List A) (n : ℕ) (a : A) → get_elem? xs n ≡ some a → take (suc n) xs ≡ take n xs ++ a ∷ []
take_more [] n a e = absurd (some-ne-none a (sym e))
take_more (x ∷ xs) zero a e = ap (λ y. y ∷ []) (some-injective x a e)
take_more (x ∷ xs) (suc n) a e = ap (λ l. x ∷ l) (take_more xs n a e)

pub take_all : {A : Type 0} (xs : List A) → take (length xs) xs ≡ xs
take_all [] = refl
take_all (x ∷ xs) = ap (λ l. x ∷ l) (take_all xs)

pub take_at : {A : Type 0} (xs : List A) (n k : ℕ) (a : A) → get_elem? (take n xs) k ≡ some a → get_elem? xs k ≡ some a
take_at [] n k a e = absurd (nothing n k a e)
  where
    nothing : {A : Type 0} (n k : ℕ) (a : A) → get_elem? (take n []) k ≡ some a → ⊥
    nothing zero k a e = some-ne-none a (sym e)
    nothing (suc n) k a e = some-ne-none a (sym e)
take_at (x ∷ xs) zero k a e = absurd (some-ne-none a (sym e))
take_at (x ∷ xs) (suc n) zero a e = e
take_at (x ∷ xs) (suc n) (suc k) a e = take_at xs n k a e

-- a vector whose slice was changed
take_front : {A : Type 0} (xs ys : List A) → take (length xs) (xs ++ ys) ≡ xs
take_front [] ys = refl
take_front (x ∷ xs) ys = ap (λ l. x ∷ l) (take_front xs ys)

pub written : {A : Type 0} (n : ℕ) (xs ys : List A) → n ≡ length xs → take n (xs ++ ys) ≡ xs
written n xs ys e = ap (λ k. take k (xs ++ ys)) e ∙ take_front xs ys

-- what is read at a place
pub read : {A : Type 0} (l : List A) (i : ℕ) (a d : A) → get_elem? l i ≡ some a → get_or l i d ≡ a
read [] i a d e = absurd (some-ne-none a (sym e))
read (x ∷ xs) zero a d e = some-injective x a e
read (x ∷ xs) (suc i) a d e = read xs i a d e
