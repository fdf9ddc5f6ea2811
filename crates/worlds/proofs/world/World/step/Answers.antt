-- The parts' step is the world's.
use Rattle.std.proofs.Common.{◌≡◌, ◌∙◌, ap, arith, length, subst, sym}
use Rattle.std.proofs.lemmas.List.{with_items_is}
use Rattle.std.specs.Vec.{with_items}
use Rattle.worlds.specs.parts.Keeps.{IsWorld}
use Rattle.worlds.specs.Later.{IsLater}
use Rattle.worlds.specs.World.{WorldState, state_of}
use Rattle.worlds.proofs.Behind.{allowed_now, barriers_behind, fields_behind, later_behind, lent_allowed, lent_step, lent_world}
use Rattle.worlds.proofs.Behind.{made_behind, strays_behind}
use Rattle.worlds.proofs.Standing.{stands}
use Rattle.worlds.proofs.Stepping.{IsMade, MayMake}
use Rattle.worlds.proofs.world.World.step.Goals as goal

pub make-requires-clause-allowed : goal.make-requires-clause-allowed
make-requires-clause-allowed c =
    let s = c.self.inside in
    lent_allowed s.job s.nodes.items s.traffic c.self.invariant c.deref_mut.result.now c.deref_mut.ensures.value c.args.step
    (allowed_now s.job s.nodes.items s.traffic c.self.invariant c.args.step (subst (MayMake c.args.step) (sym c.self.view_is) c.requires))

pub invariant_of-self : goal.invariant_of-self
invariant_of-self c =
    let s = c.self.inside in
    let a = c.make.auto.nodes in
    let x = ap length c.deref_mut.ensures.value in
    let n = s.nodes.ok.0 in
    let nodes = with_items_is s.nodes c.make.new.nodes (let h : length c.make.new.nodes ≡ s.nodes.len = omega (arith, a, x, n) in h) in
    let nexts = (with_items s.nodes c.make.new.nodes).items in
    let old = lent_world s.job s.nodes.items s.traffic c.self.invariant c.deref_mut.result.now c.deref_mut.ensures.value in
    let step = lent_step s.job s.nodes.items s.traffic c.self.invariant c.deref_mut.result.now c.deref_mut.ensures.value c.args.step
    c.make.new.nodes nexts c.make.new.traffic nodes (c.make.ensures.step s.job.schedule.plan s.job.inputs old) in
    let world = subst (λ ns. IsWorld s.job.schedule.plan s.job.inputs ns c.make.new.traffic) (sym nodes)
    (c.make.ensures.world s.job.schedule.plan s.job.inputs old) in
    fields_behind s.job s.nodes.items s.traffic c.self.invariant c.args.step nexts c.make.new.traffic step world

pub returns-clause-made : goal.returns-clause-made
returns-clause-made c =
    let s = c.self.inside in
    let a = c.make.auto.nodes in
    let x = ap length c.deref_mut.ensures.value in
    let n = s.nodes.ok.0 in
    let nodes = with_items_is s.nodes c.make.new.nodes (let h : length c.make.new.nodes ≡ s.nodes.len = omega (arith, a, x, n) in h) in
    let nexts = (with_items s.nodes c.make.new.nodes).items in
    let old = lent_world s.job s.nodes.items s.traffic c.self.invariant c.deref_mut.result.now c.deref_mut.ensures.value in
    let step = lent_step s.job s.nodes.items s.traffic c.self.invariant c.deref_mut.result.now c.deref_mut.ensures.value c.args.step
    c.make.new.nodes nexts c.make.new.traffic nodes (c.make.ensures.step s.job.schedule.plan s.job.inputs old) in
    let world = subst (λ ns. IsWorld s.job.schedule.plan s.job.inputs ns c.make.new.traffic) (sym nodes)
    (c.make.ensures.world s.job.schedule.plan s.job.inputs old) in
    subst (λ (w : WorldState). IsMade c.args.step w (state_of s.job nexts c.make.new.traffic)) c.self.view_is
    (made_behind s.job s.nodes.items s.traffic c.self.invariant c.args.step nexts c.make.new.traffic step world)

pub returns-clause-kept : goal.returns-clause-kept
returns-clause-kept c =
    let s = c.self.inside in
    let a = c.make.auto.nodes in
    let x = ap length c.deref_mut.ensures.value in
    let n = s.nodes.ok.0 in
    let nodes = with_items_is s.nodes c.make.new.nodes (let h : length c.make.new.nodes ≡ s.nodes.len = omega (arith, a, x, n) in h) in
    let nexts = (with_items s.nodes c.make.new.nodes).items in
    let old = lent_world s.job s.nodes.items s.traffic c.self.invariant c.deref_mut.result.now c.deref_mut.ensures.value in
    let step = lent_step s.job s.nodes.items s.traffic c.self.invariant c.deref_mut.result.now c.deref_mut.ensures.value c.args.step
    c.make.new.nodes nexts c.make.new.traffic nodes (c.make.ensures.step s.job.schedule.plan s.job.inputs old) in
    let world = subst (λ ns. IsWorld s.job.schedule.plan s.job.inputs ns c.make.new.traffic) (sym nodes)
    (c.make.ensures.world s.job.schedule.plan s.job.inputs old) in
    stands s.job nexts c.make.new.traffic (fields_behind s.job s.nodes.items s.traffic c.self.invariant c.args.step nexts
    c.make.new.traffic step world)

pub returns-clause-later : goal.returns-clause-later
returns-clause-later c =
    let s = c.self.inside in
    let a = c.make.auto.nodes in
    let x = ap length c.deref_mut.ensures.value in
    let n = s.nodes.ok.0 in
    let nodes = with_items_is s.nodes c.make.new.nodes (let h : length c.make.new.nodes ≡ s.nodes.len = omega (arith, a, x, n) in h) in
    let nexts = (with_items s.nodes c.make.new.nodes).items in
    let old = lent_world s.job s.nodes.items s.traffic c.self.invariant c.deref_mut.result.now c.deref_mut.ensures.value in
    let step = lent_step s.job s.nodes.items s.traffic c.self.invariant c.deref_mut.result.now c.deref_mut.ensures.value c.args.step
    c.make.new.nodes nexts c.make.new.traffic nodes (c.make.ensures.step s.job.schedule.plan s.job.inputs old) in
    let world = subst (λ ns. IsWorld s.job.schedule.plan s.job.inputs ns c.make.new.traffic) (sym nodes)
    (c.make.ensures.world s.job.schedule.plan s.job.inputs old) in
    subst (λ (w : WorldState). IsLater w (state_of s.job nexts c.make.new.traffic)) c.self.view_is
    (later_behind s.job s.nodes.items s.traffic c.self.invariant c.args.step nexts c.make.new.traffic step world)

pub returns-clause-strays : goal.returns-clause-strays
returns-clause-strays c =
    let s = c.self.inside in
    let a = c.make.auto.nodes in
    let x = ap length c.deref_mut.ensures.value in
    let n = s.nodes.ok.0 in
    let nodes = with_items_is s.nodes c.make.new.nodes (let h : length c.make.new.nodes ≡ s.nodes.len = omega (arith, a, x, n) in h) in
    let nexts = (with_items s.nodes c.make.new.nodes).items in
    let old = lent_world s.job s.nodes.items s.traffic c.self.invariant c.deref_mut.result.now c.deref_mut.ensures.value in
    let step = lent_step s.job s.nodes.items s.traffic c.self.invariant c.deref_mut.result.now c.deref_mut.ensures.value c.args.step
    c.make.new.nodes nexts c.make.new.traffic nodes (c.make.ensures.step s.job.schedule.plan s.job.inputs old) in
    let world = subst (λ ns. IsWorld s.job.schedule.plan s.job.inputs ns c.make.new.traffic) (sym nodes)
    (c.make.ensures.world s.job.schedule.plan s.job.inputs old) in
    strays_behind s.job s.nodes.items s.traffic c.self.invariant c.args.step nexts c.make.new.traffic step world ∙ ap (λ (w : WorldState).
    w.strays) c.self.view_is

pub returns-clause-barriers : goal.returns-clause-barriers
returns-clause-barriers c =
    let s = c.self.inside in
    let a = c.make.auto.nodes in
    let x = ap length c.deref_mut.ensures.value in
    let n = s.nodes.ok.0 in
    let nodes = with_items_is s.nodes c.make.new.nodes (let h : length c.make.new.nodes ≡ s.nodes.len = omega (arith, a, x, n) in h) in
    let nexts = (with_items s.nodes c.make.new.nodes).items in
    let old = lent_world s.job s.nodes.items s.traffic c.self.invariant c.deref_mut.result.now c.deref_mut.ensures.value in
    let step = lent_step s.job s.nodes.items s.traffic c.self.invariant c.deref_mut.result.now c.deref_mut.ensures.value c.args.step
    c.make.new.nodes nexts c.make.new.traffic nodes (c.make.ensures.step s.job.schedule.plan s.job.inputs old) in
    let world = subst (λ ns. IsWorld s.job.schedule.plan s.job.inputs ns c.make.new.traffic) (sym nodes)
    (c.make.ensures.world s.job.schedule.plan s.job.inputs old) in
    barriers_behind s.job s.nodes.items s.traffic c.self.invariant c.args.step nexts c.make.new.traffic step world
