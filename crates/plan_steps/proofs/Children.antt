-- The children of a place, one tried after the other.
use Rattle.std.proofs.Common.{ℕ, suc, Bool, true, false, cond, ◌+◌, ◌-◌, ◌<◌, ◌≡◌, ◌==◌, List, [], ◌∷◌, ◌++◌, refl, map, filter, ap, ◌∙◌}
use Rattle.std.proofs.Common.{sym, arith}
use Rattle.std.proofs.lemmas.List.{map-append}
use Rattle.std.proofs.lemmas.List.Elements.{filter-append}
use Rattle.plan_core.specs.Plan.{from_to}
use Rattle.plan_core.proofs.Drawing.{from_to-more}
use Rattle.plan_steps.specs.Trees.{children, parent}

children-more : (v w : ℕ) → v < w → children v (suc v) (w + 1 - suc v) ≡ children v (suc v) (w - suc v) ++ cond (parent w == v) (w ∷ []) []
children-more v w h =
    ap (λ n. filter (λ k. parent k == v) (from_to (suc v) n)) (let e : w + 1 - suc v ≡ suc (w - suc v) = omega arith in e)
    ∙ ap (filter (λ k. parent k == v)) (from_to-more (suc v) (w - suc v))
    ∙ filter-append (λ k. parent k == v) (from_to (suc v) (w - suc v)) ((suc v + (w - suc v)) ∷ [])
    ∙ ap (λ k. filter (λ k. parent k == v) (from_to (suc v) (w - suc v)) ++ cond (parent k == v) (k ∷ []) [])
    (let e : suc v + (w - suc v) ≡ w = omega arith in e)

-- and what is made of each
pub made-more : {X : Type 0} (f : ℕ → X) (v w : ℕ) → v < w → map f (children v (suc v) (w + 1 - suc v)) ≡ map f
    (children v (suc v) (w - suc v)) ++ cond (parent w == v) (f w ∷ []) []
made-more f v w h =
    ap (map f) (children-more v w h)
    ∙ map-append f (children v (suc v) (w - suc v)) (cond (parent w == v) (w ∷ []) [])
    ∙ ap (λ x. map f (children v (suc v) (w - suc v)) ++ x) (at (parent w == v))
  where
    at : (b : Bool) → map f (cond b (w ∷ []) []) ≡ cond b (f w ∷ []) []
    at true = refl
    at false = refl

pub map-map : {X Y Z : Type 0} (f : Y → Z) (g : X → Y) (xs : List X) → map f (map g xs) ≡ map (λ x. f (g x)) xs
map-map f g [] = refl
map-map f g (x ∷ xs) = ap (λ v. f (g x) ∷ v) (map-map f g xs)

pub links-more : {X : Type 0} (g : ℕ → ℕ) (h : ℕ → X) (e v w : ℕ) → v < w
    → map h (e ∷ map g (children v (suc v) (w + 1 - suc v))) ≡ map h (e ∷ map g (children v (suc v) (w - suc v))) ++ cond (parent w == v)
    (h (g w) ∷ []) []
links-more g h e v w l =
    ap (λ x. h e ∷ x)
    (map-map h g (children v (suc v) (w + 1 - suc v))
    ∙ made-more (λ x. h (g x)) v w l
    ∙ ap (λ x. x ++ cond (parent w == v) (h (g w) ∷ []) []) (sym (map-map h g (children v (suc v) (w - suc v)))))

pub first-link : {X : Type 0} (g : ℕ → ℕ) (h : ℕ → X) (e v : ℕ) → map h (e ∷ map g (children v (suc v) (v + 1 - suc v))) ≡ h e ∷ []
first-link g h e v = ap (λ n. map h (e ∷ map g (children v (suc v) n))) (let z : v + 1 - suc v ≡ 0 = omega arith in z)
