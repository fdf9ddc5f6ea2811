use Rattle.plan_top.proofs.Telling.{explained}
use Rattle.given_top.proofs.top.check_orders.Goals as goal

pub returns : goal.returns
returns g c = (
  c.read_and_check-run.ensures.0,
  c.read_and_check-run.ensures.1,
  c.read_and_check-run.ensures.2,
  explained _ _ _ _ _ c.read_and_check-run.ensures.3 c.say_beside.ensures,
)
