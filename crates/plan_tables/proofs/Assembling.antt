-- The calls of a rank, joined from their parts.
use Rattle.std.proofs.Common.{ℕ, ◌+◌, ◌*◌, ◌≡◌, ◌≤◌, List, [], ◌∷◌, ◌++◌, refl, length, map, max, ap, ap₂, ◌∙◌, sym, arith, length-append}
use Rattle.std.proofs.Common.{append_assoc}
use Rattle.std.proofs.lemmas.List.{length-map, map-append}
use Rattle.ptl_types.specs.declared.steps.Call.{Call}
use Rattle.ptl_types.specs.declared.steps.Call.TheVariants.{PtAlloc, CtDone, CtCell, MdBind}
use Rattle.plan_core.specs.Plan.{Plan, link, own, out_links}
use Rattle.plan_core.specs.calls.RankOps.{rank_ops}
use Rattle.plan_core.specs.calls.RankOps.RankOp.{ForLink, ForDone}
use Rattle.plan_core.specs.calls.Areas.{areas_length, classes, has_class, links_to, longest, region_length}
use Rattle.plan_core.specs.calls.Calls.{area_call, prepare_calls, trigger}
use Rattle.plan_tables.proofs.Indexed.{at_most-filtered}

map-twice : {X Y Z : Type 0} (g : Y → Z) (f : X → Y) (xs : List X) → map g (map f xs) ≡ map (λ x. g (f x)) xs
map-twice g f [] = refl
map-twice g f (x ∷ xs) = ap (λ v. g (f x) ∷ v) (map-twice g f xs)

-- the operations of a rank are those of its links, then those of its cells
pub rank_ops-apart : (p : Plan) (r : ℕ) → map (trigger p) (rank_ops p r) ≡ map (λ l. trigger p (ForLink l)) (out_links p r) ++ map
    (λ c. trigger p (ForDone c)) (own p r)
rank_ops-apart p r = map-append (trigger p) (map ForLink (out_links p r)) (map ForDone (own p r))
    ∙ ap₂ (λ a b. a ++ b) (map-twice (trigger p) ForLink (out_links p r)) (map-twice (trigger p) ForDone (own p r))

-- seven parts, appended one after the other
pub joined : (x y z : Call) (a b c d : List Call) → ((((((([] ++ x ∷ []) ++ a) ++ y ∷ []) ++ b) ++ z ∷ []) ++ c) ++ d) ≡ x
    ∷ (a ++ (y ∷ (b ++ (z ∷ (c ++ d)))))
joined x y z a b c d =
    append_assoc (((((x ∷ []) ++ a) ++ y ∷ []) ++ b) ++ z ∷ []) c d
    ∙ append_assoc ((((x ∷ []) ++ a) ++ y ∷ []) ++ b) (z ∷ []) (c ++ d)
    ∙ append_assoc (((x ∷ []) ++ a) ++ y ∷ []) b (z ∷ (c ++ d))
    ∙ append_assoc ((x ∷ []) ++ a) (y ∷ []) (b ++ (z ∷ (c ++ d)))
    ∙ append_assoc (x ∷ []) a (y ∷ (b ++ (z ∷ (c ++ d))))

pub prepared : (p : Plan) (r : ℕ) → ((((((([] ++ PtAlloc ∷ []) ++ map (area_call p r) (classes p r)) ++ CtDone ∷ []) ++ map CtCell
    (own p r)) ++ MdBind (region_length p r + areas_length p r) p.remote ∷ []) ++ map (λ l. trigger p (ForLink l)) (out_links p r)) ++ map
    (λ c. trigger p (ForDone c)) (own p r)) ≡ prepare_calls p r
prepared p r =
    joined PtAlloc CtDone (MdBind (region_length p r + areas_length p r) p.remote) (map (area_call p r) (classes p r))
    (map CtCell (own p r)) (map (λ l. trigger p (ForLink l)) (out_links p r)) (map (λ c. trigger p (ForDone c)) (own p r))
    ∙ ap (λ v. PtAlloc ∷ (map (area_call p r) (classes p r) ++
    (CtDone ∷ (map CtCell (own p r) ++ (MdBind (region_length p r + areas_length p r) p.remote ∷ v))))) (sym (rank_ops-apart p r))

-- how many calls there are
pub calls-count : (p : Plan) (r : ℕ) → length (prepare_calls p r) ≡ 3 + length (classes p r) + 2 * length (own p r) + length (out_links p r)
calls-count p r =
    let rest : List Call = MdBind (region_length p r + areas_length p r) p.remote ∷ map (trigger p) (rank_ops p r) in
    let a = length-append (map (area_call p r) (classes p r)) (CtDone ∷ (map CtCell (own p r) ++ rest)) in
    let b = length-map (classes p r) (area_call p r) in
    let c = length-append (map CtCell (own p r)) rest in
    let d = length-map (own p r) CtCell in
    let e = length-map (rank_ops p r) (trigger p) in
    let f = length-append (map ForLink (out_links p r)) (map ForDone (own p r)) in
    let g = length-map (out_links p r) ForLink in
    let h = length-map (own p r) ForDone in
    omega (arith, a, b, c, d, e, f, g, h)

pub at_most-classes : (p : Plan) (r : ℕ) → length (classes p r) ≤ 81
at_most-classes p r = at_most-filtered (λ k. has_class p k (links_to p r)) 81

-- ---- the longest of links, one more
max-joins : (a b c : ℕ) → max a (max b c) ≡ max (max a b) c
max-joins a b c = omega arith

pub longest-more : (p : Plan) (xs : List ℕ) (l : ℕ) → longest p (xs ++ l ∷ []) ≡ max (longest p xs) (link p l).length
longest-more p [] l = omega arith
longest-more p (x ∷ xs) l = ap (max (link p x).length) (longest-more p xs l) ∙ max-joins (link p x).length (longest p xs) (link p l).length
