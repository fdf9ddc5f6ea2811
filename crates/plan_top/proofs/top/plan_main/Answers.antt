use Rattle.plan_top.proofs.Telling.{explained}
use Rattle.plan_top.proofs.top.plan_main.Goals as goal

pub returns : goal.returns
returns g c = (
  c.read_and_answer-status.ensures.0,
  c.read_and_answer-status.ensures.1,
  c.read_and_answer-status.ensures.2,
  explained _ _ _ _ _ c.read_and_answer-status.ensures.3 c.say_beside.ensures,
)
