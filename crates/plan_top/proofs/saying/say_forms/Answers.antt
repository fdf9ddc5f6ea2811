use Rattle.plan_top.specs.Explained.{form_lines}
use Rattle.plan_top.proofs.Telling.{stood}
use Rattle.plan_top.proofs.saying.say_forms.Goals as goal

pub returns : goal.returns
returns g c = stood _ _ form_lines _ c.write_short.ensures
