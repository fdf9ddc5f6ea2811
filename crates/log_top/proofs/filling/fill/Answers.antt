use Rattle.log_top.proofs.LinesFilled.{never_begun}
use Rattle.log_top.proofs.filling.fill.Goals as goal

pub returns : goal.returns
returns g c = c.fill_all.ensures c.args.any_order c.new-filler.ensures

pub returns-in_default : goal.returns-in_default
returns-in_default g c = never_begun c.args.any_order _ _ _ c.alone.result c.alone.ensures c.new-filler.ensures
