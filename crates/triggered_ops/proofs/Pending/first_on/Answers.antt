use Rattle.triggered_ops.proofs.Laid.{waiting-found, waiting-none}
use Rattle.triggered_ops.proofs.Pending.first_on.Goals as goal

pub number-requires : goal.number-requires
number-requires g c = (waiting-found c.self.inside.spots c.in-Some.place c.args.ct c.self.invariant.rising c.in-Some.ensures.found).0

pub returns-in-Some-clause-found : goal.returns-in-Some-clause-found
returns-in-Some-clause-found g c = rw (← c.self.view_is, c.number.ensures)
    ((waiting-found c.self.inside.spots c.in-Some.place c.args.ct c.self.invariant.rising c.in-Some.ensures.found).1)

pub returns-in-None-clause-none : goal.returns-in-None-clause-none
returns-in-None-clause-none g c = rw (← c.self.view_is) (waiting-none c.self.inside.spots.spots c.args.ct c.in-None.ensures.none)
