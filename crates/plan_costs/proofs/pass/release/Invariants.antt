use Rattle.std.proofs.Common.{take}
use Rattle.plan_costs.specs.State.{Opened}
use Rattle.plan_costs.proofs.pass.release.Given as goal

abbrev pub invariant-loop-l : goal.invariant-loop-l
invariant-loop-l l = Opened l.plan (take l.l-index l.links) l.time l.initial.queue l.queue
