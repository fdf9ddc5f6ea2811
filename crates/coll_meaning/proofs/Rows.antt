-- Rows of numbers, and what is made of each.
use Rattle.std.proofs.Common.{◌≡◌, ℕ, zero, suc, ◌+◌, ◌-◌, ◌<◌, List, [], ◌∷◌, ◌++◌, length, get_or, map, refl, ap, ◌∙◌, arith}
use Rattle.std.specs.List.{flat_map}
use Rattle.std.proofs.lemmas.List.{map-append, append-nil}
use Rattle.std.proofs.lemmas.Grind.{flat_map-append}
use Rattle.ptl_types.specs.declared.elements.AtomicOp.{AtomicOp}
use Rattle.ptl_types.specs.declared.elements.ElemType.{ElemType}
use Rattle.coll_shape.specs.Folding.{reduced, before_place}
use Rattle.number_lists.specs.Numbers.{from_to}

pub from_to_more : (k n : ℕ) → from_to k (suc n) ≡ from_to k n ++ (k + n) ∷ []
from_to_more k zero = ap (λ v. v ∷ []) (let e : k ≡ k + 0 = omega arith in e)
from_to_more k (suc n) = ap (λ v. k ∷ v) (from_to_more (suc k) n ∙ ap (λ v. from_to (suc k) n ++ v ∷ []) (let e : suc k + n ≡ k + suc n =
    omega arith in e))

pub row_more : {X : Type 0} (f : ℕ → X) (i : ℕ) → map f (from_to 0 (i + 1)) ≡ map f (from_to 0 i) ++ f i ∷ []
row_more f i =
    ap (λ v. map f (from_to 0 v)) (let e : i + 1 ≡ suc i = omega arith in e)
    ∙ ap (map f) (from_to_more 0 i)
    ∙ map-append f (from_to 0 i) ((0 + i) ∷ [])
    ∙ ap (λ v. map f (from_to 0 i) ++ f v ∷ []) (let e : 0 + i ≡ i = omega arith in e)

flat_one : {X : Type 0} (f : ℕ → List X) (i : ℕ) → flat_map f (i ∷ []) ≡ f i
flat_one f i = append-nil (f i)

pub flat_more : {X : Type 0} (f : ℕ → List X) (i : ℕ) → flat_map f (from_to 0 (i + 1)) ≡ flat_map f (from_to 0 i) ++ f i
flat_more f i =
    ap (λ v. flat_map f (from_to 0 v)) (let e : i + 1 ≡ suc i = omega arith in e)
    ∙ ap (flat_map f) (from_to_more 0 i)
    ∙ flat_map-append f (from_to 0 i) ((0 + i) ∷ [])
    ∙ ap (λ v. flat_map f (from_to 0 i) ++ v) (flat_one f (0 + i) ∙ ap f (let e : 0 + i ≡ i = omega arith in e))

pub length_row : {X : Type 0} (f : ℕ → X) (k n : ℕ) → length (map f (from_to k n)) ≡ n
length_row f k zero = refl
length_row f k (suc n) = ap suc (length_row f (suc k) n)

pub row_at : {X : Type 0} (f : ℕ → X) (d : X) (k n i : ℕ) → i < n → get_or (map f (from_to k n)) i d ≡ f (k + i)
row_at f d k zero i h = absurd (omega arith)
row_at f d k (suc n) zero h = ap f (let e : k ≡ k + 0 = omega arith in e)
row_at f d k (suc n) (suc i) h = row_at f d (suc k) n i (omega arith) ∙ ap f (let e : suc k + i ≡ k + suc i = omega arith in e)

pub row_same : {X : Type 0} (f g : ℕ → X) (k n : ℕ) → ((i : ℕ) → i < k + n → f i ≡ g i) → map f (from_to k n) ≡ map g (from_to k n)
row_same f g k zero h = refl
row_same f g k (suc n) h =
    ap (λ v. v ∷ map f (from_to (suc k) n)) (h k (omega arith))
    ∙ ap (λ v. g k ∷ v) (row_same f g (suc k) n (λ i l. h i (omega arith)))

pub flat_same : {X : Type 0} (f g : ℕ → List X) (k n : ℕ) → ((i : ℕ) → i < k + n → f i ≡ g i) →
    flat_map f (from_to k n) ≡ flat_map g (from_to k n)
flat_same f g k zero h = refl
flat_same f g k (suc n) h =
    ap (λ v. v ++ flat_map f (from_to (suc k) n)) (h k (omega arith))
    ∙ ap (λ v. g k ++ v) (flat_same f g (suc k) n (λ i l. h i (omega arith)))

pub row_get : {X : Type 0} (f : ℕ → X) (d : X) (n i : ℕ) → i < n → get_or (map f (from_to 0 n)) i d ≡ f i
row_get f d n i l = row_at f d 0 n i l ∙ ap f (let e : 0 + i ≡ i = omega arith in e)

-- what is made of the places before one's own
pub before_get : (o : AtomicOp) (ty : ElemType) (xs : List (List ℕ)) (i : ℕ) → i < length xs →
    get_or ([] ∷ map (λ i. reduced o ty (suc i) xs) (from_to 0 (length xs - 1))) i [] ≡ before_place o ty xs i
before_get o ty xs zero l = refl
before_get o ty xs (suc i) l = row_get (λ i. reduced o ty (suc i) xs) [] (length xs - 1) i (omega arith)

pub numbers_more : (i : ℕ) → from_to 0 (i + 1) ≡ from_to 0 i ++ i ∷ []
numbers_more i =
    ap (from_to 0) (let e : i + 1 ≡ suc i = omega arith in e) ∙ from_to_more 0 i
    ∙ ap (λ v. from_to 0 i ++ v ∷ []) (let e : 0 + i ≡ i = omega arith in e)
