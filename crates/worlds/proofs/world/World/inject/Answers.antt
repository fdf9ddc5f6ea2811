-- The parts' injection is the world's.
use Rattle.std.proofs.Common.{true, ◌-◌, ◌≡◌, ◌∙◌, ap, arith, length, subst, sym}
use Rattle.std.proofs.lemmas.List.{with_items_is}
use Rattle.std.specs.Vec.{with_items}
use Rattle.ptl_types.specs.declared.headers.Lane.TheVariants.{Request}
use Rattle.plan_core.specs.calls.Lanes.{is_used_lane}
use Rattle.worlds.specs.parts.Keeps.{IsWorld}
use Rattle.worlds.specs.parts.Steps.{injected}
use Rattle.worlds.specs.Later.{IsLater}
use Rattle.worlds.specs.World.{WorldState, scene_in, state_of}
use Rattle.worlds.proofs.Behind.{fields_injected, later_injected, lent_put, lent_world, put_behind, strays_injected}
use Rattle.worlds.proofs.world.World.inject.Goals as goal

pub invariant_of-self : goal.invariant_of-self
invariant_of-self c =
    let s = c.self.inside in
    let a = c.inject.auto.nodes in
    let x = ap length c.deref_mut.ensures.value in
    let n = s.nodes.ok.0 in
    let nodes = with_items_is s.nodes c.inject.new.nodes (let h : length c.inject.new.nodes ≡ s.nodes.len = omega (arith, a, x, n) in h) in
    let nexts = (with_items s.nodes c.inject.new.nodes).items in
    let old = lent_world s.job s.nodes.items s.traffic c.self.invariant c.deref_mut.result.now c.deref_mut.ensures.value in
    let step = lent_put s.job s.nodes.items s.traffic c.self.invariant c.deref_mut.result.now c.deref_mut.ensures.value
    c.args.s c.args.d c.args.message c.inject.new.nodes nexts c.inject.new.traffic nodes c.inject.ensures.step in
    let used = subst (λ (w : WorldState). is_used_lane w.schedule.plan c.args.s c.args.d Request ≡ true) (sym c.self.view_is)
    c.requires.used in
    let world = subst (λ ns. IsWorld s.job.schedule.plan s.job.inputs ns c.inject.new.traffic) (sym nodes)
    (c.inject.ensures.world s.job.schedule.plan s.job.inputs old used) in
    fields_injected s.job s.nodes.items s.traffic c.self.invariant c.args.s c.args.d c.args.message nexts
    c.inject.new.traffic step world

pub returns-clause-put : goal.returns-clause-put
returns-clause-put c =
    let s = c.self.inside in
    let a = c.inject.auto.nodes in
    let x = ap length c.deref_mut.ensures.value in
    let n = s.nodes.ok.0 in
    let nodes = with_items_is s.nodes c.inject.new.nodes (let h : length c.inject.new.nodes ≡ s.nodes.len = omega (arith, a, x, n) in h) in
    let nexts = (with_items s.nodes c.inject.new.nodes).items in
    let old = lent_world s.job s.nodes.items s.traffic c.self.invariant c.deref_mut.result.now c.deref_mut.ensures.value in
    let step = lent_put s.job s.nodes.items s.traffic c.self.invariant c.deref_mut.result.now c.deref_mut.ensures.value
    c.args.s c.args.d c.args.message c.inject.new.nodes nexts c.inject.new.traffic nodes c.inject.ensures.step in
    let used = subst (λ (w : WorldState). is_used_lane w.schedule.plan c.args.s c.args.d Request ≡ true) (sym c.self.view_is)
    c.requires.used in
    let world = subst (λ ns. IsWorld s.job.schedule.plan s.job.inputs ns c.inject.new.traffic) (sym nodes)
    (c.inject.ensures.world s.job.schedule.plan s.job.inputs old used) in
    put_behind s.job s.nodes.items s.traffic c.self.invariant c.args.s c.args.d c.args.message nexts
    c.inject.new.traffic step world ∙ ap (λ (w : WorldState). injected c.args.s c.args.d c.args.message (scene_in w)) c.self.view_is

pub returns-clause-later : goal.returns-clause-later
returns-clause-later c =
    let s = c.self.inside in
    let a = c.inject.auto.nodes in
    let x = ap length c.deref_mut.ensures.value in
    let n = s.nodes.ok.0 in
    let nodes = with_items_is s.nodes c.inject.new.nodes (let h : length c.inject.new.nodes ≡ s.nodes.len = omega (arith, a, x, n) in h) in
    let nexts = (with_items s.nodes c.inject.new.nodes).items in
    let old = lent_world s.job s.nodes.items s.traffic c.self.invariant c.deref_mut.result.now c.deref_mut.ensures.value in
    let step = lent_put s.job s.nodes.items s.traffic c.self.invariant c.deref_mut.result.now c.deref_mut.ensures.value
    c.args.s c.args.d c.args.message c.inject.new.nodes nexts c.inject.new.traffic nodes c.inject.ensures.step in
    let used = subst (λ (w : WorldState). is_used_lane w.schedule.plan c.args.s c.args.d Request ≡ true) (sym c.self.view_is)
    c.requires.used in
    let world = subst (λ ns. IsWorld s.job.schedule.plan s.job.inputs ns c.inject.new.traffic) (sym nodes)
    (c.inject.ensures.world s.job.schedule.plan s.job.inputs old used) in
    subst (λ (w : WorldState). IsLater w (state_of s.job nexts c.inject.new.traffic)) c.self.view_is
    (later_injected s.job s.nodes.items s.traffic c.self.invariant c.args.s c.args.d c.args.message nexts
    c.inject.new.traffic step world)

pub returns-clause-strays : goal.returns-clause-strays
returns-clause-strays c =
    let s = c.self.inside in
    let a = c.inject.auto.nodes in
    let x = ap length c.deref_mut.ensures.value in
    let n = s.nodes.ok.0 in
    let nodes = with_items_is s.nodes c.inject.new.nodes (let h : length c.inject.new.nodes ≡ s.nodes.len = omega (arith, a, x, n) in h) in
    let nexts = (with_items s.nodes c.inject.new.nodes).items in
    let old = lent_world s.job s.nodes.items s.traffic c.self.invariant c.deref_mut.result.now c.deref_mut.ensures.value in
    let step = lent_put s.job s.nodes.items s.traffic c.self.invariant c.deref_mut.result.now c.deref_mut.ensures.value
    c.args.s c.args.d c.args.message c.inject.new.nodes nexts c.inject.new.traffic nodes c.inject.ensures.step in
    let used = subst (λ (w : WorldState). is_used_lane w.schedule.plan c.args.s c.args.d Request ≡ true) (sym c.self.view_is)
    c.requires.used in
    let world = subst (λ ns. IsWorld s.job.schedule.plan s.job.inputs ns c.inject.new.traffic) (sym nodes)
    (c.inject.ensures.world s.job.schedule.plan s.job.inputs old used) in
    strays_injected s.job s.nodes.items s.traffic c.self.invariant c.args.s c.args.d c.args.message nexts
    c.inject.new.traffic step world ∙ ap (λ (w : WorldState). w.strays - 1) c.self.view_is
