-- The cells and links of each step, where it leaves its members, and its size: one line for each collective, whose own file has the rest.
use Rattle.std.specs.Prelude.{ℕ, suc, ◌+◌, ◌-◌, ◌*◌, ◌/◌, ◌^◌, List, map, sum_by}
use Rattle.plan_core.specs.Draw.{NewCell}
use Rattle.plan_core.specs.Plan.{from_to}
use Rattle.coll_shape.specs.declared.types.CollStep.{CollStep}
use Rattle.coll_shape.specs.declared.types.CollStep.TheVariants as steps
use Rattle.plan_steps.specs.declared.ends.StepExit.{StepExit}
use Rattle.plan_steps.specs.StepContext.{StepContext, places}
use Rattle.plan_steps.specs.Rounds.{rounds}
use Rattle.plan_steps.specs.Collectives.Broadcast.{broadcast_cells, broadcast_end}
use Rattle.plan_steps.specs.Collectives.Reduce.{reduce_cells, reduce_end}
use Rattle.plan_steps.specs.Collectives.Allreduce.{allreduce_cells, allreduce_end}
use Rattle.plan_steps.specs.Collectives.Gather.{gather_cells, gather_end}
use Rattle.plan_steps.specs.Collectives.Allgather.{allgather_cells, allgather_end}
use Rattle.plan_steps.specs.Collectives.Alltoall.{alltoall_cells, alltoall_end}
use Rattle.plan_steps.specs.Collectives.Scan.{scan_cells, scan_end}
use Rattle.plan_steps.specs.Collectives.Barrier.{barrier_cells, barrier_end}
use Rattle.plan_steps.specs.Collectives.Scatter.{scatter_cells, scatter_end}
use Rattle.plan_steps.specs.Collectives.Reducescatter.{reducescatter_cells, reducescatter_end}
use Rattle.plan_steps.specs.Collectives.Exscan.{exscan_cells, exscan_end}
use Rattle.plan_steps.specs.Collectives.Gatherv.{gatherv_cells, gatherv_end}
pub mod Broadcast
pub mod Reduce
pub mod Allreduce
pub mod Gather
pub mod Allgather
pub mod Alltoall
pub mod Scan
pub mod Barrier
pub mod Scatter
pub mod Reducescatter
pub mod Exscan
pub mod Gatherv

abbrev pub cells_of : StepContext → CollStep → List NewCell
cells_of s steps.Barrier = barrier_cells s
cells_of s (steps.Broadcast root a b) = broadcast_cells s root
cells_of s (steps.Reduce root o a b) = reduce_cells s root o
cells_of s (steps.Allreduce o a b) = allreduce_cells s o
cells_of s (steps.Gather root a b) = gather_cells s root
cells_of s (steps.Allgather a b) = allgather_cells s
cells_of s (steps.Alltoall a b) = alltoall_cells s
cells_of s (steps.Scan o a b) = scan_cells s o
cells_of s (steps.Scatter root a b) = scatter_cells s root
cells_of s (steps.Reducescatter o a b) = reducescatter_cells s o
cells_of s (steps.Exscan o a b) = exscan_cells s o
cells_of s (steps.Gatherv root a b) = gatherv_cells s root

abbrev pub end_of : StepContext → CollStep → ℕ → StepExit
end_of s steps.Barrier = barrier_end s
end_of s (steps.Broadcast root a b) = broadcast_end s root
end_of s (steps.Reduce root o a b) = reduce_end s root
end_of s (steps.Allreduce o a b) = allreduce_end s
end_of s (steps.Gather root a b) = gather_end s root
end_of s (steps.Allgather a b) = allgather_end s
end_of s (steps.Alltoall a b) = alltoall_end s
end_of s (steps.Scan o a b) = scan_end s
end_of s (steps.Scatter root a b) = scatter_end s
end_of s (steps.Reducescatter o a b) = reducescatter_end s
end_of s (steps.Exscan o a b) = exscan_end s
end_of s (steps.Gatherv root a b) = gatherv_end s root

abbrev pub ends_of : StepContext → CollStep → List StepExit
ends_of s step = map (end_of s step) (places s)

-- ---- what a step adds, in closed form: m members, of which h hold A, a list of n bytes
abbrev pub step_links : CollStep → ℕ → ℕ → ℕ
step_links steps.Barrier m h = m + 2 * (rounds m * m)
step_links (steps.Broadcast root a b) m h = m + 1 + (1 + 2 * (m - 1))
step_links (steps.Reduce root o a b) m h = 2 * m + (m + (m - 1))
step_links (steps.Allreduce o a b) m h = 2 * m + (m + (m - 1)) + (1 + 2 * (m - 1))
step_links (steps.Gather root a b) m h = 3 * m
step_links (steps.Allgather a b) m h = 2 * m + 2 * (m * m)
step_links (steps.Alltoall a b) m h = 2 * m + m * m
step_links (steps.Scan o a b) m h = 2 * m + m + sum_by (λ k. m + (m - 2 ^ k)) (from_to 0 (rounds m))
step_links (steps.Scatter root a b) m h = m + 1 + (m + (m - 1))
step_links (steps.Reducescatter o a b) m h = 2 * m + (m + (m - 1)) + (m + (m - 1))
step_links (steps.Exscan o a b) m h = 2 * m + m + sum_by (λ k. m + (m - 2 ^ k)) (from_to 0 (rounds m)) + 2 * (m - 1)
step_links (steps.Gatherv root a b) m h = m + h + 1 + h

abbrev pub step_bytes : CollStep → ℕ → ℕ → ℕ → ℕ
step_bytes steps.Barrier m h n = 0
step_bytes (steps.Broadcast root a b) m h n = n + m * n
step_bytes (steps.Reduce root o a b) m h n = 2 * (m * n)
step_bytes (steps.Allreduce o a b) m h n = 3 * (m * n)
step_bytes (steps.Gather root a b) m h n = 2 * (m * n)
step_bytes (steps.Allgather a b) m h n = m * n + 2 * (m * (m * n))
step_bytes (steps.Alltoall a b) m h n = 2 * (m * n)
step_bytes (steps.Scan o a b) m h n = m * n + suc (rounds m) * (m * n)
step_bytes (steps.Scatter root a b) m h n = n + m * (n / m)
step_bytes (steps.Reducescatter o a b) m h n = 2 * (m * n) + m * (n / m)
step_bytes (steps.Exscan o a b) m h n = m * n + suc (rounds m) * (m * n) + (m - 1) * n
step_bytes (steps.Gatherv root a b) m h n = 2 * (h * n)
