use Rattle.std.proofs.Common.{[], get_or}
use Rattle.std.proofs.lemmas.List.Elements.{All-get_or}
use Rattle.plan_core.specs.Plan.{link}
use Rattle.plan_core.specs.Values.{carried_of}
use Rattle.plan_judge.specs.values.Given.{IsReady}
use Rattle.plan_judge.proofs.values.Landed.{ends, goes_on}
use Rattle.plan_judge.proofs.values.landing.land_all.Goals as goal

pub land-requires-clause-ready : goal.land-requires-clause-ready
land-requires-clause-ready c =
    All-get_or (IsReady c.args.plan.now c.args.before.now c.args.c) c.args.links.now c.loop-l.l-index 0 c.loop-l-test.true c.requires.ready

pub loop-l-preserved : goal.loop-l-preserved
loop-l-preserved c =
    goes_on c.args.plan.now (λ k. carried_of c.args.plan.now (get_or c.args.before.now (link c.args.plan.now k).source []) k)
    c.args.links.now c.loop-l.bytes _ _ c.loop-l.l-index c.loop-l-test.true c.loop-l.invariant c.land.ensures

pub returns : goal.returns
returns c =
    ends c.args.plan.now (λ k. carried_of c.args.plan.now (get_or c.args.before.now (link c.args.plan.now k).source []) k)
    c.args.links.now c.loop-l.bytes _ c.loop-l.l-index c.loop-l-test.false c.loop-l.invariant
