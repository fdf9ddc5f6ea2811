use Rattle.triggered_ops.proofs.Found.{none-between}
use Rattle.triggered_ops.proofs.spots.place_of.Goals as goal

pub returns-else-stands_at-2-clause-none : goal.returns-else-stands_at-2-clause-none
returns-else-stands_at-2-clause-none g c = none-between c.args.spots.now c.args.number c.lower_bound-place.result
    c.lower_bound-place.ensures.below c.lower_bound-place.ensures.above c.requires.rising (c.stands_at-2.ensures.no c.if-stands_at-2.false)
