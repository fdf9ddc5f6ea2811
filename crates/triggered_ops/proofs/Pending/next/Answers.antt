use Rattle.triggered_ops.specs.Layout.{operations_in}
use Rattle.triggered_ops.proofs.Rising.{from-none}
use Rattle.triggered_ops.proofs.Passing.{next-found, next-none, next-shown, next-range, next-alone, not-none}
use Rattle.triggered_ops.proofs.Pending.next.Goals as goal

pub place_from-requires : goal.place_from-requires
place_from-requires g c = c.self.invariant.rising

pub returns-in-None-clause-none : goal.returns-in-None-clause-none
returns-in-None-clause-none g c =
    let ss = c.self.inside.spots.spots in
    rw (← c.self.view_is) (from-none c.args.from (operations_in ss)
    (next-none ss c.args.from c.place_from.result c.place_from.ensures.below c.in-None.ensures.none))

pub returns-in-Some-clause-found : goal.returns-in-Some-clause-found
returns-in-Some-clause-found g c =
    let i = c.self.inside.spots.spots in
    let first = next-found i c.args.from c.place_from.result c.in-Some.place c.place_from.ensures.below c.place_from.ensures.above
    c.in-Some.ensures.some.0 c.in-Some.ensures.some.1 c.in-Some.ensures.before in
    rw (← c.self.view_is) (next-shown (λ r. (r.0, r.1.now, r.2, r.3)) i c.args.from c.in-Some.place first c.self.invariant.rising
    c.numbered.result c.numbered.ensures.found)

pub returns-in-Some-clause-range : goal.returns-in-Some-clause-range
returns-in-Some-clause-range g c =
    let i = c.self.inside.spots.spots in
    let first = next-found i c.args.from c.place_from.result c.in-Some.place c.place_from.ensures.below c.place_from.ensures.above
    c.in-Some.ensures.some.0 c.in-Some.ensures.some.1 c.in-Some.ensures.before in
    rw (← c.self.view_is) (next-range (λ r. (r.0, r.1.now, r.2, r.3)) i c.args.from c.in-Some.place first c.self.inside.given
    c.self.invariant.below c.numbered.result c.numbered.ensures.found)

pub returns-in-Some-clause-alone : goal.returns-in-Some-clause-alone
returns-in-Some-clause-alone g c =
    let i = c.self.inside.spots.spots in
    let first = next-found i c.args.from c.place_from.result c.in-Some.place c.place_from.ensures.below c.place_from.ensures.above
    c.in-Some.ensures.some.0 c.in-Some.ensures.some.1 c.in-Some.ensures.before in
    rw (← c.self.view_is) (next-alone (λ r. (r.0, r.1.now, r.2, r.3)) i c.args.from c.in-Some.place first c.self.invariant.rising
    c.numbered.result c.numbered.ensures.found)

pub returns-in-Some-clause-none : goal.returns-in-Some-clause-none
returns-in-Some-clause-none g c = not-none c.self.inside.spots.spots c.in-Some.place _ c.numbered.result c.in-Some.ensures.some.1
    c.numbered.ensures.none
