use Rattle.std.proofs.Common.{◌≡◌, map, take}
use Rattle.plan_core.specs.Plan.{own}
use Rattle.plan_core.specs.calls.Calls.{own_cell}
use Rattle.worlds.proofs.tasks.own.own_cells.Given as goal

abbrev pub invariant-loop-call : goal.invariant-loop-call
invariant-loop-call l = l.cells.items ≡ map (own_cell l.schedule.plan l.r) (take l.call-index (own l.schedule.plan l.r))
