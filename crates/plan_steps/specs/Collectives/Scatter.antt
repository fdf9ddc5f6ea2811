-- Scatter (MPI scatter): each member gets its block of the root's list.
--
-- | Cells after the entries, in order | Incoming links of each |
-- | O(r), r rising, length m = n / M
-- |   O(ROOT): Put of m from E(ROOT) at ROOT * m. Other O(r): Bump from E(r), Put of m from E(ROOT) at r * m |
--
-- The entry has data at ROOT alone. O(r) holds B, and is the exit.
use Rattle.std.specs.Prelude.{ℕ, ◌*◌, ◌==◌, List, [], ◌∷◌, ◌++◌, map, if◌then◌else◌}
use Rattle.plan_core.specs.declared.Incoming.{Incoming}
use Rattle.plan_core.specs.Draw.{NewCell}
use Rattle.plan_steps.specs.declared.ends.StepExit.{StepExit}
use Rattle.plan_steps.specs.Steps.{giving}
use Rattle.plan_steps.specs.StepContext.{StepContext, places, rank_at, block_length, bump, put, holding, entry, further}
use Rattle.plan_steps.specs.Collectives.Broadcast.{first_cell}

-- block r of the root's list
abbrev pub scatter_put : StepContext → ℕ → ℕ → Incoming
scatter_put s root r = put (block_length s) (entry s root) (r * block_length s) 0

abbrev pub scattered : StepContext → ℕ → ℕ → NewCell
scattered s root r =
    holding s (block_length s) (rank_at s r) (if r == root then scatter_put s root r ∷ [] else bump (entry s r) ∷ scatter_put s root r ∷ [])

abbrev pub scatter_cells : StepContext → ℕ → List NewCell
scatter_cells s root = map (first_cell s root) (places s) ++ map (scattered s root) (places s)

abbrev pub scatter_end : StepContext → ℕ → StepExit
scatter_end s i = giving (further s i)
