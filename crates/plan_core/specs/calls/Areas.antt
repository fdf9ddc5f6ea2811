-- The region of a rank: its cells one after the other, and after them one area for each class of messages that come to it, where
-- those lie that come before its start.
use Rattle.std.specs.Prelude.{ℕ, Bool, false, ◌||◌, ◌&&◌, ◌==◌, ◌+◌, List, Option, Some, None, [], ◌∷◌, ◌++◌, filter, flat_map, sum_by}
use Rattle.std.specs.Prelude.{replicate, max}
use Rattle.ptl_types.specs.declared.elements.AtomicOp.{AtomicOp}
use Rattle.ptl_types.specs.declared.elements.ElemType.{ElemType}
use Rattle.ptl_types.specs.Elements.{starting}
use Rattle.plan_core.specs.Plan.{Plan, cell, link, own, all_links, from_to}
use Rattle.plan_core.specs.Places.{start_by}
use Rattle.plan_core.specs.Values.{Inputs, initial}
use Rattle.plan_core.specs.calls.RankOps.{is_message}
use Rattle.plan_core.specs.calls.Bits.{class_of, class_op, class_type}

-- ---- the messages that come to a rank

-- a message comes along the link to a cell of r
abbrev pub comes_to : Plan → ℕ → ℕ → Bool
comes_to p r l = is_message p l && ((cell p (link p l).target).rank == r)

-- the links along which messages come to r
abbrev pub links_to : Plan → ℕ → List ℕ
links_to p r = filter (comes_to p r) (all_links p)

-- the longest of these links
abbrev pub longest : Plan → List ℕ → ℕ
longest p [] = 0
longest p (l ∷ ls) = max (link p l).length (longest p ls)

-- the longest message that comes to r
abbrev pub longest_to : Plan → ℕ → ℕ
longest_to p r = longest p (links_to p r)

-- the class of a link is that of its target
abbrev pub link_class : Plan → ℕ → ℕ
link_class p l = class_of (cell p (link p l).target).op (cell p (link p l).target).ty

-- one class
abbrev pub is_class : Plan → ℕ → ℕ → Bool
is_class p k l = link_class p l == k

-- one of these links has the class
abbrev pub has_class : Plan → ℕ → List ℕ → Bool
has_class p k [] = false
has_class p k (l ∷ ls) = is_class p k l || has_class p k ls

-- the classes of the messages that come to r, rising, each once
abbrev pub classes : Plan → ℕ → List ℕ
classes p r = filter (λ k. has_class p k (links_to p r)) (from_to 0 81)

-- ---- places, in bytes of the region

-- the bytes of all cells of the rank
abbrev pub region_length : Plan → ℕ → ℕ
region_length p r = sum_by (λ c. (cell p c).length) (own p r)

-- an area is as long as the messages of its class together
abbrev pub area_length : Plan → ℕ → ℕ → ℕ
area_length p r k = sum_by (λ l. (link p l).length) (filter (is_class p k) (links_to p r))

-- the areas stand after the cells
abbrev pub area_start : Plan → ℕ → ℕ → ℕ
area_start p r k = region_length p r + start_by (area_length p r) (classes p r) k

-- all of them
abbrev pub areas_length : Plan → ℕ → ℕ
areas_length p r = sum_by (area_length p r) (classes p r)

-- ---- what the region holds at the beginning

-- zeros, or starting values where the class combines
abbrev pub blank_as : Option AtomicOp → ElemType → ℕ → List ℕ
blank_as None ty n = replicate n 0
blank_as (Some o) ty n = starting o ty n

-- the bytes that an area of n bytes begins with
abbrev pub blank_area : ℕ → ℕ → List ℕ
blank_area k n = blank_as (class_op k) (class_type k) n

-- all of them
abbrev pub blank_areas : Plan → ℕ → List ℕ
blank_areas p r = flat_map (λ k. blank_area k (area_length p r k)) (classes p r)

-- the whole region: the cells' initial bytes, then blank areas
abbrev pub initial_region : Plan → Inputs → ℕ → List ℕ
initial_region p inputs r = flat_map (initial p inputs) (own p r) ++ blank_areas p r
