-- The step, and then its counts.
use Rattle.std.proofs.Common.{◌∙◌, ap, subst, sym}
use Rattle.worlds.specs.declared.parts.traffic.Traffic.{Traffic}
use Rattle.plan_choice.specs.Acts.{IsMade, marked, with_lanes}
use Rattle.plan_choice.proofs.acts.make.Goals as goal

pub act-s-requires : goal.act-s-requires
act-s-requires c = record {
  at_most = c.requires.sized.at_most;
  seats = c.requires.sized.seats;
  lanes = c.requires.sized.lanes;
  may = c.requires.may;
}

pub refresh-requires : goal.refresh-requires
refresh-requires c = record {
  sized = record {
    at_most = c.requires.sized.at_most;
    seats = c.act-s.auto.seats ∙ c.requires.sized.seats;
    lanes = c.act-s.ensures.size ∙ c.requires.sized.lanes;
    starts = c.requires.sized.starts;
    deliveries = c.requires.sized.deliveries;
    firings = c.requires.sized.firings;
  };
  source = c.act-s.ensures.source;
  destination = c.act-s.ensures.destination;
}

pub returns : goal.returns
returns c =
    let lanes = ap (λ (t : Traffic). t.lanes) c.refresh.ensures in
    record {
      s = c.act-s.result.0;
      d = c.act-s.result.1;
      source = c.act-s.ensures.source;
      destination = c.act-s.ensures.destination;
      made = subst (λ ls. IsMade c.args.traffic.now.setting.ranks c.args.seats.now c.args.traffic.now.lanes c.args.step c.act-s.new.seats
          ls c.act-s.result.0 c.act-s.result.1) (sym lanes) c.act-s.ensures.made;
      marks = c.refresh.ensures ∙ ap (λ ls. marked c.act-s.new.seats c.act-s.result.0 c.act-s.result.1
          (with_lanes c.args.traffic.now ls)) (sym lanes);
    }
