use Rattle.triggered_ops.proofs.Found.{found-here}
use Rattle.triggered_ops.proofs.Pending.get.Goals as goal

pub place_of-requires : goal.place_of-requires
place_of-requires g c = c.self.invariant.rising

pub returns-in-Some-clause-found : goal.returns-in-Some-clause-found
returns-in-Some-clause-found g c = rw (
  ← c.self.view_is,
  found-here c.self.inside.spots.spots c.args.number c.in-Some.place
      c.self.invariant.rising c.in-Some.ensures.found,
) c.get.ensures.found

pub returns-in-Some-clause-none : goal.returns-in-Some-clause-none
returns-in-Some-clause-none g c = rw (
  ← c.self.view_is,
  found-here c.self.inside.spots.spots c.args.number c.in-Some.place
      c.self.invariant.rising c.in-Some.ensures.found,
) c.get.ensures.none

pub returns-in-None-clause-none : goal.returns-in-None-clause-none
returns-in-None-clause-none g c = rw (← c.self.view_is) c.in-None.ensures.none
