-- Reduce (MPI reduce): the lists are combined up a tree.
--
-- | Cells after the entries, in order | Incoming links of each |
-- | C(v) at the place of v, v falling; the operation, A's length
-- |   Atomic whole from E at the place of v; then Atomic whole from C(w) for each w whose parent is v, w rising |
--
-- Every entry has data. C(0) holds B, at ROOT alone. C is the exit.
use Rattle.std.specs.Prelude.{ℕ, ◌==◌, List, ◌++◌, if◌then◌else◌}
use Rattle.ptl_types.specs.declared.elements.AtomicOp.{AtomicOp}
use Rattle.plan_core.specs.Draw.{NewCell}
use Rattle.plan_steps.specs.declared.ends.StepExit.{StepExit}
use Rattle.plan_steps.specs.Steps.{giving, passing}
use Rattle.plan_steps.specs.StepContext.{StepContext, entries}
use Rattle.plan_steps.specs.Trees.{unturned, up, up_number}

abbrev pub reduce_cells : StepContext → ℕ → AtomicOp → List NewCell
reduce_cells s root o = entries s ++ up s root o

abbrev pub reduce_end : StepContext → ℕ → ℕ → StepExit
reduce_end s root i = if i == root then giving (up_number s 0) else passing (up_number s (unturned s root i))
