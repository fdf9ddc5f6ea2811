use Rattle.plan_top.proofs.Telling.{explained}
use Rattle.given_top.proofs.top.tell_costs.Goals as goal

pub returns : goal.returns
returns g c = (
  c.read_and_cost-run.ensures.0,
  c.read_and_cost-run.ensures.1,
  c.read_and_cost-run.ensures.2,
  explained _ _ _ _ _ c.read_and_cost-run.ensures.3 c.say_beside.ensures,
)
