use Rattle.std.proofs.Common.{ap}
use Rattle.log_top.specs.Reading.{Reader}
use Rattle.log_top.proofs.LinesServed.{lacking_served, never_served, served_end, served_on, so_far_new}
use Rattle.log_top.proofs.serving.serve_all.Goals as goal

pub lines-init : goal.lines-init
lines-init g c = record {
  nothing = c.requires;
  served = λ any_order new. so_far_new any_order _ _ _ _ (ap (λ (r : Reader). r.held) c.in-Ok.ensures) new;
}

pub returns-in-Some : goal.returns-in-Some
returns-in-Some g c = λ any_order new.
    served_end any_order _ _ _ _ _ _ (c.lines.invariant.served any_order new) _ _ _ _ c.in-Some.status c.in-Some.ensures.served

pub lines-preserved : goal.lines-preserved
lines-preserved g c = record {
  nothing = c.in-None.ensures.nothing;
  served = λ any_order new.
      served_on any_order _ _ _ _ _ _ (c.lines.invariant.served any_order new) _ _ _ _ c.in-None.ensures.served;
}

pub returns : goal.returns
returns g c = λ any_order new. lacking_served any_order _ _ _ _ _ _ (c.lines.invariant.served any_order new) _

pub returns-in_default : goal.returns-in_default
returns-in_default g c = λ any_order new. never_served any_order _ _ _ new
