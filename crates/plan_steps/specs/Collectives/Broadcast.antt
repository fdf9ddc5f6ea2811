-- Broadcast (MPI broadcast): the root's list goes down a tree.
--
-- | Cells after the entries, in order | Incoming links of each |
-- | O(v) at the place of v, v rising; A's length
-- |   v = 0: Put whole from E(ROOT). Else Bump from E at the place of v, Put whole from O(parent of v) |
--
-- The entry has data at ROOT alone. O holds B, and is the exit.
use Rattle.std.specs.Prelude.{ℕ, ◌==◌, List, ◌++◌, map, if◌then◌else◌}
use Rattle.plan_core.specs.Draw.{NewCell}
use Rattle.plan_steps.specs.declared.ends.StepExit.{StepExit}
use Rattle.plan_steps.specs.Steps.{giving}
use Rattle.plan_steps.specs.StepContext.{StepContext, places, bare_entry, full_entry, entry, further}
use Rattle.plan_steps.specs.Trees.{turned, unturned, down_cell}

abbrev pub first_cell : StepContext → ℕ → ℕ → NewCell
first_cell s root i = if i == root then full_entry s i else bare_entry s i

abbrev pub copy_cell : StepContext → ℕ → ℕ → NewCell
copy_cell s root v = down_cell s root (further s 0) (entry s root) (entry s (turned s root v)) v

abbrev pub broadcast_cells : StepContext → ℕ → List NewCell
broadcast_cells s root = map (first_cell s root) (places s) ++ map (copy_cell s root) (places s)

abbrev pub broadcast_end : StepContext → ℕ → ℕ → StepExit
broadcast_end s root i = giving (further s (unturned s root i))
