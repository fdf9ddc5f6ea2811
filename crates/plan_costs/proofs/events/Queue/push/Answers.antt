use Rattle.plan_costs.proofs.Order.{pushed_by}
use Rattle.plan_costs.proofs.events.Queue.push.Goals as goal

pub returns : goal.returns
returns c = pushed_by _ _ _ _ c.self.view_is c.in-Ok.ensures.keys
