use Rattle.std.proofs.Common.{ap}
use Rattle.log_top.specs.Reading.{Reader}
use Rattle.log_top.proofs.LinesFilled.{filled_end, filled_on, lacking_answers, never_begun, so_far_new}
use Rattle.log_top.proofs.filling.fill_all.Goals as goal

pub lines-init : goal.lines-init
lines-init g c = λ any_order new. so_far_new any_order _ _ _ _ _ (ap (λ (r : Reader). r.held) c.in-Ok.ensures) c.requires new

pub returns-in-Some : goal.returns-in-Some
returns-in-Some g c = λ any_order new.
    filled_end any_order _ _ _ _ _ _ _ (c.lines.invariant any_order new) _ _ _ _ _ c.in-Some.ended c.in-Some.ensures

pub lines-preserved : goal.lines-preserved
lines-preserved g c = λ any_order new.
    filled_on any_order _ _ _ _ _ _ _ (c.lines.invariant any_order new) _ _ _ _ _ c.in-None.ensures

pub returns-in_default : goal.returns-in_default
returns-in_default g c = λ any_order new. never_begun any_order _ _ _ c.alone.result c.alone.ensures new

pub returns : goal.returns
returns g c = λ any_order new.
    lacking_answers any_order _ _ _ _ _ _ _ (c.lines.invariant any_order new) _ c.alone-2.result c.alone-2.ensures
