use Rattle.log_top.proofs.LinesServed.{never_served}
use Rattle.log_top.proofs.serving.serve.Goals as goal

pub returns : goal.returns
returns g c = c.serve_all.ensures c.args.any_order c.filling-judge.ensures

pub returns-in_default : goal.returns-in_default
returns-in_default g c = never_served c.args.any_order _ _ _ c.filling-judge.ensures
