use Rattle.std.proofs.Common.{arith}
use Rattle.plan_core.specs.Sound.{SoundPlan}
use Rattle.verdict_laws.specs.Flawless.{IsFlawless}
use Rattle.given_top.proofs.costing.recall_timed.Goals as goal

pub returns-clause-timed : goal.returns-clause-timed
returns-clause-timed c =
    let t = c.args.found.now in
    let known = c.requires in
    let is : IsFlawless t.given.plan t.description.shape t.given.done t.given.marks =
    record { ranks = known.ranks; plan = known.plan; lines = known.marks } in
    let sound : SoundPlan t.given.plan t.description.shape.inputs = c.flawless_plans_can_run.ensures.sound _ _ _ _ is in
    c.sound_plans_are_timed.ensures t.given.plan t.description.shape.inputs sound

pub returns-clause-some : goal.returns-clause-some
returns-clause-some c =
    let t = c.args.found.now in
    let known = c.requires in
    let is : IsFlawless t.given.plan t.description.shape t.given.done t.given.marks =
    record { ranks = known.ranks; plan = known.plan; lines = known.marks } in
    let sound : SoundPlan t.given.plan t.description.shape.inputs = c.flawless_plans_can_run.ensures.sound _ _ _ _ is in
    let a = sound.some_rank in
    let b = sound.all_go in
    omega (arith, a, b)
