-- Allreduce (MPI allreduce): the lists are combined up a tree with root 0, and the result goes down it.
--
-- | Cells after the entries, in order | Incoming links of each |
-- | C(v), v falling, as in a reduce with root 0 | as there |
-- | O(v), v rising; A's length | O(0): Put whole from C(0). O(v), v > 0: Bump from C(v), Put whole from O(parent of v) |
--
-- Every entry has data. O holds B, and is the exit.
use Rattle.std.specs.Prelude.{ℕ, ◌+◌, List, ◌++◌, map}
use Rattle.ptl_types.specs.declared.elements.AtomicOp.{AtomicOp}
use Rattle.plan_core.specs.Draw.{NewCell}
use Rattle.plan_steps.specs.declared.ends.StepExit.{StepExit}
use Rattle.plan_steps.specs.Steps.{giving}
use Rattle.plan_steps.specs.StepContext.{StepContext, count, places, entries, further}
use Rattle.plan_steps.specs.Trees.{down_cell, up, up_number}

abbrev pub result_cell : StepContext → ℕ → NewCell
result_cell s v = down_cell s 0 (further s (count s)) (up_number s 0) (up_number s v) v

abbrev pub allreduce_cells : StepContext → AtomicOp → List NewCell
allreduce_cells s o = entries s ++ (up s 0 o ++ map (result_cell s) (places s))

abbrev pub allreduce_end : StepContext → ℕ → StepExit
allreduce_end s i = giving (further s (count s + i))
