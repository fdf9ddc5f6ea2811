-- The counts of starts, deliveries and firings are those of the list.
use Rattle.std.proofs.Common.{ap, arith, length, subst, sym}
use Rattle.cuts.specs.histories.Cut.{IsAtRest}
use Rattle.worlds.specs.Standing.{IsStanding}
use Rattle.worlds.specs.World.{AreSlots, WorldState, histories_in, ranks_in, state_of, steps_in}
use Rattle.worlds.proofs.Ends.{none_in, rests}
use Rattle.worlds.proofs.Standing.{number, stands}
use Rattle.worlds.proofs.world.World.enabled.Goals as goal

pub returns-clause-number : goal.returns-clause-number
returns-clause-number c = λ slots agree.
    let s = c.self.inside in
    let e = c.total.ensures.sum in
    let f = c.total-2.ensures.sum in
    let g = c.total-3.ensures.sum in
    let back = subst (λ (w : WorldState). AreSlots w slots) (sym c.self.view_is) agree in
    let k = number s.job s.nodes.items s.traffic c.self.invariant slots back in
    let v = ap (λ (w : WorldState). length (steps_in w slots)) c.self.view_is in
    omega (arith, e, f, g, k, v)

pub returns-clause-kept : goal.returns-clause-kept
returns-clause-kept c = let s = c.self.inside in subst IsStanding c.self.view_is
    (stands s.job s.nodes.items s.traffic c.self.invariant)

pub returns-clause-rest : goal.returns-clause-rest
returns-clause-rest c = λ nothing slots agree.
    let s = c.self.inside in
    let e = c.total.ensures.sum in
    let f = c.total-2.ensures.sum in
    let g = c.total-3.ensures.sum in
    let back = subst (λ (w : WorldState). AreSlots w slots) (sym c.self.view_is) agree in
    let k = number s.job s.nodes.items s.traffic c.self.invariant slots back in
    let none = none_in (steps_in (state_of s.job s.nodes.items s.traffic) slots) (omega (arith, nothing, e, f, g, k)) in
    subst (λ (w : WorldState). IsAtRest (ranks_in w slots) (histories_in w)) c.self.view_is
    (rests (state_of s.job s.nodes.items s.traffic) slots
    (stands s.job s.nodes.items s.traffic c.self.invariant) back none)
