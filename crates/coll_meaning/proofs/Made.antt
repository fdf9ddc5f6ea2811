-- The lists of a form at the places of a group are those that a step makes.
use Rattle.std.proofs.Common.{◌≡◌, ℕ, zero, suc, ◌+◌, ◌<◌, Bool, true, false, cond, List, [], ◌∷◌, Option, Some, length, map, refl, ap, ◌∙◌}
use Rattle.std.proofs.Common.{arith}
use Rattle.std.specs.Prelude.{◌==◌}
use Rattle.ptl_types.specs.declared.elements.ElemType.{ElemType}
use Rattle.number_lists.specs.Numbers.{from_to}
use Rattle.coll_shape.specs.declared.types.CollStep.{CollStep}
use Rattle.coll_shape.specs.Collectives.{list_after}
use Rattle.coll_shape.specs.Folding.{at}
use Rattle.coll_shape.specs.Meaning.{at_place, place_from, taken, made_lists}
use Rattle.coll_meaning.specs.declared.lists.Form.{Form}
use Rattle.coll_meaning.specs.Forms.{form_list, rank_lists}

at_places : (f h : ℕ → List ℕ) (k : ℕ) (g : List ℕ) (r : ℕ) → ((i : ℕ) → i < k + length g → f i ≡ h i) →
    at_place f [] (place_from k g r) ≡ at_place h [] (place_from k g r)
at_places f h k [] r e = refl
at_places f h k (m ∷ ms) r e = of (m == r) (e k (omega arith)) (at_places f h (suc k) ms r (λ i l. e i (omega arith)))
  where
    of : (b : Bool) → f k ≡ h k → at_place f [] (place_from (suc k) ms r) ≡ at_place h [] (place_from (suc k) ms r)
        → at_place f [] (cond b (Some k) (place_from (suc k) ms r)) ≡ at_place h [] (cond b (Some k) (place_from (suc k) ms r))
    of true here later = here
    of false here later = later

at_ranks : (f h : ℕ → List ℕ) (g : List ℕ) (k n : ℕ) → ((i : ℕ) → i < length g → f i ≡ h i)
    → map (at_place f []) (map (place_from 0 g) (from_to k n)) ≡ map (λ r. at_place h [] (place_from 0 g r)) (from_to k n)
at_ranks f h g k zero e = refl
at_ranks f h g k (suc n) e =
    ap (λ v. v ∷ map (at_place f []) (map (place_from 0 g) (from_to (suc k) n))) (at_places f h 0 g k (λ i l. e i (omega arith)))
    ∙ ap (λ v. at_place h [] (place_from 0 g k) ∷ v) (at_ranks f h g (suc k) n e)

pub length_map : (f : ℕ → List ℕ) (g : List ℕ) → length (map f g) ≡ length g
length_map f [] = refl
length_map f (r ∷ rs) = ap suc (length_map f rs)

pub made_same : (form : Form) (places : List (Option ℕ)) (n : ℕ) (g : List ℕ) (ty : ElemType) (step : CollStep) (lists xs : List (List ℕ))
    → xs ≡ taken g lists → ((i : ℕ) → i < length xs → form_list form i ≡ list_after ty step xs i) →
    places ≡ map (place_from 0 g) (from_to 0 n)
    → rank_lists form places ≡ made_lists n g ty step lists
made_same form places n g ty step lists xs x e is =
    ap (rank_lists form) is
    ∙ at_ranks (form_list form) (list_after ty step xs) g 0 n
    (λ i l. e i (let m = ap length x ∙ length_map (at lists) g in omega (arith, l, m)))
    ∙ ap (λ v. map (λ r. at_place (list_after ty step v) [] (place_from 0 g r)) (from_to 0 n)) x
