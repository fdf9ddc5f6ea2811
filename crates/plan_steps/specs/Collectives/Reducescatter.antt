-- Reduce-scatter by equal blocks (MPI reduce_scatter_block): the lists are combined up a tree with root 0, and each member gets
-- its block of the result.
--
-- | Cells after the entries, in order | Incoming links of each |
-- | C(v), v falling, as in a reduce with root 0 | as there |
-- | O(r), r rising, length m = n / M
-- |   O(0): Put of m from C(0) at 0. O(r), r > 0: Bump from the C on its rank, Put of m from C(0) at r * m |
--
-- Every entry has data. O(r) holds B, and is the exit.
use Rattle.std.specs.Prelude.{ℕ, zero, suc, ◌+◌, ◌*◌, List, [], ◌∷◌, ◌++◌, map}
use Rattle.ptl_types.specs.declared.elements.AtomicOp.{AtomicOp}
use Rattle.plan_core.specs.declared.Incoming.{Incoming}
use Rattle.plan_core.specs.Draw.{NewCell}
use Rattle.plan_steps.specs.declared.ends.StepExit.{StepExit}
use Rattle.plan_steps.specs.Steps.{giving}
use Rattle.plan_steps.specs.StepContext.{StepContext, count, places, rank_at, bump, put, holding, entries, further, block_length}
use Rattle.plan_steps.specs.Trees.{up, up_number}

abbrev pub result_put : StepContext → ℕ → Incoming
result_put s r = put (block_length s) (up_number s 0) (r * block_length s) 0

abbrev pub result_links : StepContext → ℕ → List Incoming
result_links s zero = result_put s zero ∷ []
result_links s (suc r) = bump (up_number s (suc r)) ∷ result_put s (suc r) ∷ []

abbrev pub result_block : StepContext → ℕ → NewCell
result_block s r = holding s (block_length s) (rank_at s r) (result_links s r)

abbrev pub reducescatter_cells : StepContext → AtomicOp → List NewCell
reducescatter_cells s o = entries s ++ (up s 0 o ++ map (result_block s) (places s))

abbrev pub reducescatter_end : StepContext → ℕ → StepExit
reducescatter_end s i = giving (further s (count s + i))
