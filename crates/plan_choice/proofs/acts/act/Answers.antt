-- By the kind of the step.
use Rattle.std.proofs.Common.{arith, refl, subst}
use Rattle.plan_choice.specs.Acts.{MayMake}
use Rattle.plan_choice.proofs.acts.act.Goals as goal

pub start-requires-clause-rank : goal.start-requires-clause-rank
start-requires-clause-rank c =
    let m = subst (MayMake c.args.ranks c.args.seats.now c.args.lanes.now) c.in-Start.is c.requires.may in
    let h = m.0 in
    let size = c.requires.seats in
    omega (arith, h, size)

pub start-requires-clause-may : goal.start-requires-clause-may
start-requires-clause-may c =
    let m = subst (MayMake c.args.ranks c.args.seats.now c.args.lanes.now) c.in-Start.is c.requires.may in
    m.1

pub deliver-requires-clause-source : goal.deliver-requires-clause-source
deliver-requires-clause-source c =
    let m = subst (MayMake c.args.ranks c.args.seats.now c.args.lanes.now) c.in-Deliver.is c.requires.may in
    m.0

pub deliver-requires-clause-destination : goal.deliver-requires-clause-destination
deliver-requires-clause-destination c =
    let m = subst (MayMake c.args.ranks c.args.seats.now c.args.lanes.now) c.in-Deliver.is c.requires.may in
    m.1

pub deliver-requires-clause-nonempty : goal.deliver-requires-clause-nonempty
deliver-requires-clause-nonempty c =
    let m = subst (MayMake c.args.ranks c.args.seats.now c.args.lanes.now) c.in-Deliver.is c.requires.may in
    m.2

pub deliver-requires-clause-may : goal.deliver-requires-clause-may
deliver-requires-clause-may c =
    let m = subst (MayMake c.args.ranks c.args.seats.now c.args.lanes.now) c.in-Deliver.is c.requires.may in
    m.3

pub fire-requires-clause-rank : goal.fire-requires-clause-rank
fire-requires-clause-rank c =
    let m = subst (MayMake c.args.ranks c.args.seats.now c.args.lanes.now) c.in-Fire.is c.requires.may in
    m.0

pub fire-requires-clause-may : goal.fire-requires-clause-may
fire-requires-clause-may c =
    let m = subst (MayMake c.args.ranks c.args.seats.now c.args.lanes.now) c.in-Fire.is c.requires.may in
    m.1

pub returns-in-Start : goal.returns-in-Start
returns-in-Start c =
    let m = subst (MayMake c.args.ranks c.args.seats.now c.args.lanes.now) c.in-Start.is c.requires.may in
    record {
      made = rw c.in-Start.is (record { seats = c.start.ensures; lanes = refl; source = refl; destination = refl });
      size = refl;
      source = m.0;
      destination = m.0;
    }

pub returns-in-Deliver : goal.returns-in-Deliver
returns-in-Deliver c =
    let m = subst (MayMake c.args.ranks c.args.seats.now c.args.lanes.now) c.in-Deliver.is c.requires.may in
    record { made = rw c.in-Deliver.is c.deliver.ensures.made; size = c.deliver.ensures.size; source = m.0; destination = m.1 }

pub returns-in-Fire : goal.returns-in-Fire
returns-in-Fire c =
    let m = subst (MayMake c.args.ranks c.args.seats.now c.args.lanes.now) c.in-Fire.is c.requires.may in
    record {
      made = rw c.in-Fire.is (record {
        seats = c.fire.ensures.seats;
        lanes = c.fire.ensures.lanes;
        source = refl;
        destination = c.fire.ensures.for_whom;
      });
      size = c.fire.ensures.size;
      source = m.0;
      destination = c.fire.ensures.destination;
    }
