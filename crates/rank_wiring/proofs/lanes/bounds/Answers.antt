use Rattle.std.proofs.Common.{arith}
use Rattle.rank_wiring.proofs.UsedLanes.{at_most-messages}
use Rattle.rank_wiring.proofs.lanes.bounds.Goals as goal

pub overflow_cast-result : goal.overflow_cast-result
overflow_cast-result c =
    let o = c.args.schedule.now in let h = at_most-messages o.plan o.inputs c.plan.ensures.sound c.args.s c.args.d c.args.lane in
    let e = c.lane.ensures in record { fits = omega (arith, h, e) }
