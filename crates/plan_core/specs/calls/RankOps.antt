-- The triggered operations of a rank: one for each link that leaves it, and one for each of its cells.
use Rattle.std.specs.Prelude.{ℕ, Bool, not, ◌+◌, List, ◌++◌, if◌then◌else◌, length, map, count_by}
use Rattle.plan_core.specs.Plan.{Plan, link, own, out_links, is_bump}
use Rattle.plan_core.specs.Places.{place_in}

-- an operation of a rank: along a link, or the telling of a cell to the done counter
pub data RankOp : Type 0 where
  ForLink : (l : ℕ) → RankOp
  ForDone : (c : ℕ) → RankOp

-- the cell that an operation waits for
abbrev pub cell_of : Plan → RankOp → ℕ
cell_of p (ForLink l) = (link p l).source
cell_of p (ForDone c) = c

-- the operations of rank r: its links, and then the telling of its cells
abbrev pub rank_ops : Plan → ℕ → List RankOp
rank_ops p r = map ForLink (out_links p r) ++ map ForDone (own p r)

-- their numbers: the links of the rank count first, then its cells
abbrev pub number_of : Plan → ℕ → RankOp → ℕ
number_of p r (ForLink l) = place_in (out_links p r) l
number_of p r (ForDone c) = length (out_links p r) + place_in (own p r) c

-- link l sends a message
abbrev pub is_message : Plan → ℕ → Bool
is_message p l = not (is_bump (link p l).kind)

-- how many messages rank r sends
abbrev pub sends_of : Plan → ℕ → ℕ
sends_of p r = count_by (is_message p) (out_links p r)

-- where the done counter stands when all is done: one for each cell, and where the plan is remote one for each message
abbrev pub done_threshold : Plan → ℕ → ℕ
done_threshold p r = length (own p r) + (if p.remote then sends_of p r else 0)
