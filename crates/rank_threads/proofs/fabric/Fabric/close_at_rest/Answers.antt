use Rattle.std.proofs.Common.{ℕ, ap, sym, subst, arith}
use Rattle.cuts.specs.view.Slots.{Slots}
use Rattle.cuts.specs.histories.Plans.{system_of}
use Rattle.cuts.specs.histories.Wave.{IsWave}
use Rattle.schedule_compiler.specs.Jobs.{JobOf}
use Rattle.worlds.specs.World.{histories_in, ranks_in}
use Rattle.worlds.specs.parts.Layout.{node_at}
use Rattle.rank_node.specs.Handles.{slots_of}
use Rattle.rank_threads.specs.Fabrics.{FabricState}
use Rattle.rank_slots.specs.Sound.{IsSound}
use Rattle.rank_threads.proofs.Rested.{is-wave, job-of, no-stray, rest-same, some-slots}
use Rattle.rank_threads.proofs.fabric.Fabric.close_at_rest.Goals as goal

pub returns-clause-rest : goal.returns-clause-rest
returns-clause-rest g c = λ k agree. let f = c.args.self in let w = c.close_keeping.result.0 in let e = c.close_keeping.ensures in
    let fronts = c.requires.noted in
    let sound : IsSound f.job = subst (λ (f : FabricState). IsSound f.job) c.self.view_is c.recall_soundness.ensures in
    let job = job-of f c.args.hands.items w e.world in
    let fit = subst IsSound job sound in
    let wave = subst (λ (j : JobOf). IsWave (system_of j.schedule.plan j.inputs k) fronts.0 (histories_in w)) job
    (is-wave f sound c.args.hands.items w e.world c.args.wave c.requires.lanes c.requires.answer fronts.0 fronts.1 k agree) in
    let cut = (e.kept.moment k agree).cut in
    let clean = no-stray w k e.kept e.world.spare in
    rest-same (ranks_in w k) fronts.0 (histories_in w)
    (λ r low. c.one_wave.ensures.whole w.schedule.plan w.inputs k fronts.0 (histories_in w) fit.plan fit.inputs cut clean wave r low)
    (c.one_wave.ensures.rest w.schedule.plan w.inputs k fronts.0 (histories_in w) fit.plan fit.inputs cut clean wave)

pub returns-clause-whole : goal.returns-clause-whole
returns-clause-whole g c = λ fronts seen r low. let f = c.args.self in let w = c.close_keeping.result.0 in let e =
    c.close_keeping.ensures in
    let k : ℕ → Slots = λ r. slots_of (node_at w.nodes r).kept in let agree = some-slots w e.kept in
    let sound : IsSound f.job = subst (λ (f : FabricState). IsSound f.job) c.self.view_is c.recall_soundness.ensures in
    let job = job-of f c.args.hands.items w e.world in
    let fit = subst IsSound job sound in
    let wave = subst (λ (j : JobOf). IsWave (system_of j.schedule.plan j.inputs k) fronts (histories_in w)) job
    (is-wave f sound c.args.hands.items w e.world c.args.wave c.requires.lanes c.requires.answer fronts seen k agree) in
    let cut = (e.kept.moment k agree).cut in
    let clean = no-stray w k e.kept e.world.spare in
    sym (c.one_wave.ensures.whole w.schedule.plan w.inputs k fronts (histories_in w) fit.plan fit.inputs cut clean wave r
    (let b = ap (λ (j : JobOf). j.schedule.plan.ranks) job in omega (arith, low, b)))
