-- The counts of starts, deliveries and firings are those of the list.
use Rattle.std.proofs.Common.{ap, arith, length, subst}
use Rattle.plan_choice.specs.World.{ChoiceState, IsStanding, steps_in}
use Rattle.plan_choice.proofs.Standing.{number}
use Rattle.plan_choice.proofs.world.ChoiceWorld.enabled.Goals as goal

pub returns-clause-number : goal.returns-clause-number
returns-clause-number c =
    let s = c.self.inside in
    let e = c.total.ensures.sum in
    let f = c.total-2.ensures.sum in
    let g = c.total-3.ensures.sum in
    let k = number s.kinds.items s.seats.items s.traffic c.self.invariant in
    let v = ap (λ (w : ChoiceState). length (steps_in w)) c.self.view_is in
    omega (arith, e, f, g, k, v)

pub returns-clause-kept : goal.returns-clause-kept
returns-clause-kept c = subst IsStanding c.self.view_is c.self.invariant.standing
