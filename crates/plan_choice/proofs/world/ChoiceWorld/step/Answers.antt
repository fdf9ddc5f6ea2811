-- What the parts leave is a world.
use Rattle.std.proofs.Common.{◌≡◌, ap, arith, length, subst, sym}
use Rattle.std.proofs.lemmas.List.{with_items_is}
use Rattle.std.specs.Vec.{with_items}
use Rattle.plan_core.specs.Members.{In}
use Rattle.plan_choice.specs.World.{ChoiceState, IsLater, state_of, steps_in}
use Rattle.plan_choice.proofs.Running.{IsMadeBy}
use Rattle.plan_choice.proofs.Stepping.{lent_done, lent_may, lent_sized}
use Rattle.plan_choice.proofs.world.ChoiceWorld.step.Goals as goal

pub make-requires-clause-sized : goal.make-requires-clause-sized
make-requires-clause-sized c =
    let s = c.self.inside in
    lent_sized s.kinds.items s.seats.items s.traffic c.self.invariant c.deref_mut.result.now c.deref_mut.ensures.value

pub make-requires-clause-may : goal.make-requires-clause-may
make-requires-clause-may c =
    let s = c.self.inside in
    lent_may s.kinds.items s.seats.items s.traffic c.self.invariant c.deref_mut.result.now c.deref_mut.ensures.value c.args.step
    (subst (λ (w : ChoiceState). In c.args.step (steps_in w)) (sym c.self.view_is) c.requires)

pub invariant_of-self : goal.invariant_of-self
invariant_of-self c =
    let s = c.self.inside in
    let a = c.make.auto.seats in
    let x = ap length c.deref_mut.ensures.value in
    let n = s.seats.ok.0 in
    let seats = with_items_is s.seats c.make.new.seats (let h : length c.make.new.seats ≡ s.seats.len = omega (arith, a, x, n) in h) in
    let listed = subst (λ (w : ChoiceState). In c.args.step (steps_in w)) (sym c.self.view_is) c.requires in
    let done = lent_done s.kinds.items s.seats.items s.traffic c.self.invariant c.deref_mut.result.now c.deref_mut.ensures.value
    c.args.step listed c.make.new.seats (with_items s.seats c.make.new.seats).items c.make.new.traffic seats c.make.ensures in
    done.fields

pub returns-clause-made : goal.returns-clause-made
returns-clause-made c =
    let s = c.self.inside in
    let a = c.make.auto.seats in
    let x = ap length c.deref_mut.ensures.value in
    let n = s.seats.ok.0 in
    let seats = with_items_is s.seats c.make.new.seats (let h : length c.make.new.seats ≡ s.seats.len = omega (arith, a, x, n) in h) in
    let listed = subst (λ (w : ChoiceState). In c.args.step (steps_in w)) (sym c.self.view_is) c.requires in
    let done = lent_done s.kinds.items s.seats.items s.traffic c.self.invariant c.deref_mut.result.now c.deref_mut.ensures.value
    c.args.step listed c.make.new.seats (with_items s.seats c.make.new.seats).items c.make.new.traffic seats c.make.ensures in
    subst (λ (w : ChoiceState). IsMadeBy c.args.step w
    (state_of s.kinds.items (with_items s.seats c.make.new.seats).items c.make.new.traffic)) c.self.view_is done.made

pub returns-clause-kept : goal.returns-clause-kept
returns-clause-kept c =
    let s = c.self.inside in
    let a = c.make.auto.seats in
    let x = ap length c.deref_mut.ensures.value in
    let n = s.seats.ok.0 in
    let seats = with_items_is s.seats c.make.new.seats (let h : length c.make.new.seats ≡ s.seats.len = omega (arith, a, x, n) in h) in
    let listed = subst (λ (w : ChoiceState). In c.args.step (steps_in w)) (sym c.self.view_is) c.requires in
    let done = lent_done s.kinds.items s.seats.items s.traffic c.self.invariant c.deref_mut.result.now c.deref_mut.ensures.value
    c.args.step listed c.make.new.seats (with_items s.seats c.make.new.seats).items c.make.new.traffic seats c.make.ensures in
    done.fields.standing

pub returns-clause-later : goal.returns-clause-later
returns-clause-later c =
    let s = c.self.inside in
    let a = c.make.auto.seats in
    let x = ap length c.deref_mut.ensures.value in
    let n = s.seats.ok.0 in
    let seats = with_items_is s.seats c.make.new.seats (let h : length c.make.new.seats ≡ s.seats.len = omega (arith, a, x, n) in h) in
    let listed = subst (λ (w : ChoiceState). In c.args.step (steps_in w)) (sym c.self.view_is) c.requires in
    let done = lent_done s.kinds.items s.seats.items s.traffic c.self.invariant c.deref_mut.result.now c.deref_mut.ensures.value
    c.args.step listed c.make.new.seats (with_items s.seats c.make.new.seats).items c.make.new.traffic seats c.make.ensures in
    subst (λ (w : ChoiceState). IsLater w
    (state_of s.kinds.items (with_items s.seats c.make.new.seats).items c.make.new.traffic)) c.self.view_is done.later
