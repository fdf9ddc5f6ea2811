-- The parts that the first of some links write: one link more.
use Rattle.std.proofs.Common.{ℕ, Bool, true, false, cond, ◌≡◌, ◌+◌, ◌<◌, List, [], ◌∷◌, ◌++◌, refl, length, map, filter, take, get_or, ap}
use Rattle.std.proofs.Common.{◌∙◌, append-nil}
use Rattle.std.proofs.lemmas.List.{map-append}
use Rattle.std.proofs.lemmas.List.Elements.{filter_more}
use Rattle.plan_core.specs.declared.Link.{Link}
use Rattle.plan_core.specs.Plan.{Plan, link}
use Rattle.plan_judge.specs.Causes.{is_put, part_of, put_parts}

map-cond : {X Y : Type 0} (f : X → Y) (b : Bool) (x : X) → map f (cond b (x ∷ []) []) ≡ cond b (f x ∷ []) []
map-cond f true x = refl
map-cond f false x = refl

-- the link at a place
abbrev nth : Plan → List ℕ → ℕ → Link
nth p links i = link p (get_or links i 0)

parts-more : (p : Plan) (links : List ℕ) (i : ℕ) → i < length links
    → put_parts p (take (i + 1) links)
    ≡ put_parts p (take i links) ++ cond (is_put (nth p links i).kind) (part_of (nth p links i) ∷ []) []
parts-more p links i h =
    ap (map (λ l. part_of (link p l))) (filter_more (λ l. is_put (link p l).kind) links i 0 h)
    ∙ map-append (λ l. part_of (link p l)) (filter (λ l. is_put (link p l).kind) (take i links))
    (cond (is_put (nth p links i).kind) (get_or links i 0 ∷ []) [])
    ∙ ap (λ v. put_parts p (take i links) ++ v) (map-cond (λ l. part_of (link p l)) (is_put (nth p links i).kind) (get_or links i 0))

pub parts-in : (p : Plan) (links : List ℕ) (i : ℕ) → i < length links → is_put (link p (get_or links i 0)).kind ≡ true
    → put_parts p (take (i + 1) links) ≡ put_parts p (take i links) ++ part_of (link p (get_or links i 0)) ∷ []
parts-in p links i h t =
    parts-more p links i h ∙ ap (λ b. put_parts p (take i links) ++ cond b (part_of (nth p links i) ∷ []) []) t

pub parts-out : (p : Plan) (links : List ℕ) (i : ℕ) → i < length links → is_put (link p (get_or links i 0)).kind ≡ false
    → put_parts p (take (i + 1) links) ≡ put_parts p (take i links)
parts-out p links i h t =
    parts-more p links i h
    ∙ ap (λ b. put_parts p (take i links) ++ cond b (part_of (nth p links i) ∷ []) []) t
    ∙ append-nil (put_parts p (take i links))
