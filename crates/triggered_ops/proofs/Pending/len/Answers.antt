use Rattle.std.proofs.Common.{arith}
use Rattle.triggered_ops.proofs.Laid.{laid-kept}
use Rattle.triggered_ops.proofs.Pending.len.Goals as goal

pub returns-clause-kept : goal.returns-clause-kept
returns-clause-kept g c = rw (← c.self.view_is) (laid-kept c.self.inside.spots c.self.inside.threads c.self.inside.stamps.items
    c.self.inside.given c.self.inside.limit c.self.invariant (omega arith))
