-- What the tables over a plan ask of it, and how its links are counted by rank and by pair of ranks.
use Rattle.std.specs.Prelude.{ℕ, ◌+◌, ◌-◌, ◌*◌, ◌<◌, ◌≤◌, ◌^◌, List, length, map, sum_by}
use Rattle.plan_core.specs.declared.LinkKind.{LinkKind}
use Rattle.plan_core.specs.declared.LinkKind.TheVariants.{Bump}
use Rattle.plan_core.specs.Plan.{Plan, cell, link, from_to}
use Rattle.plan_tables.specs.Rising.{of_key}

-- within the numbers of cells, links and bytes; every sound plan is
pub record IsTabled (p : Plan) : Type 0 where
  pub ranks : p.ranks ≤ 256
  pub ranks_known : (c : ℕ) → c < length p.cells → (cell p c).rank < p.ranks
  pub sources : (l : ℕ) → l < length p.links → (link p l).source < length p.cells
  pub targets : (l : ℕ) → l < length p.links → (link p l).target < length p.cells
  pub within : (l : ℕ) → l < length p.links → (link p l).source_offset + (link p l).length ≤ (cell p (link p l).source).length
  pub few_cells : length p.cells < 2 ^ 24
  pub few_together : length p.cells + length p.links < 2 ^ 32 - 1
  pub few_bytes : sum_by (λ k. k.length) p.cells + sum_by (λ k. k.length) p.links < 2 ^ 64

abbrev pub link_length : Plan → ℕ → ℕ
link_length p l = (link p l).length

-- the rank of a cell, and those that a link leaves and reaches
abbrev pub rank_of : Plan → ℕ → ℕ
rank_of p c = (cell p c).rank

abbrev pub from_rank : Plan → ℕ → ℕ
from_rank p l = rank_of p (link p l).source

abbrev pub to_rank : Plan → ℕ → ℕ
to_rank p l = rank_of p (link p l).target

abbrev pub all_ranks : Plan → List ℕ
all_ranks p = from_to 0 p.ranks

-- where a link is counted if it is a message, and past the end, at `none`, if it is a Bump
abbrev pub key_of : LinkKind → ℕ → ℕ → ℕ
key_of Bump message none = none
key_of _ message none = message

-- by the rank that it comes to
abbrev pub arrival_key : Plan → ℕ → ℕ
arrival_key p l = key_of (link p l).kind (to_rank p l) p.ranks

-- among all pairs of ranks, by source and then by target
abbrev pub lane_key : Plan → ℕ → ℕ
lane_key p l = key_of (link p l).kind (from_rank p l * p.ranks + to_rank p l) (p.ranks * p.ranks)

-- how many messages there are for each pair of ranks
abbrev pub lane_counts : Plan → List ℕ
lane_counts p = map (λ i. length (of_key (lane_key p) (length p.links) i)) (from_to 0 (p.ranks * p.ranks))

-- and how many bytes
abbrev pub lane_sums : Plan → List ℕ
lane_sums p = map (λ i. sum_by (link_length p) (of_key (lane_key p) (length p.links) i)) (from_to 0 (p.ranks * p.ranks))
