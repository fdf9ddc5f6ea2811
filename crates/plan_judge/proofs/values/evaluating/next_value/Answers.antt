use Rattle.std.proofs.Common.{ap, ◌∙◌, length}
use Rattle.plan_core.proofs.Values.{length-initial}
use Rattle.plan_judge.proofs.values.CellByCell.{all_ready}
use Rattle.plan_judge.proofs.values.evaluating.next_value.Goals as goal

pub land_all-requires-clause-ready : goal.land_all-requires-clause-ready
land_all-requires-clause-ready c =
    all_ready c.args.given.plan.now c.args.given.inputs.now c.args.c c.args.before.now c.args.links.now c.requires.given c.requires.before
    c.requires.many c.requires.links

pub land_all-requires-clause-whole : goal.land_all-requires-clause-whole
land_all-requires-clause-whole c = c.requires.given.sound.whole c.args.c c.requires.cell

pub land_all-requires-clause-long : goal.land_all-requires-clause-long
land_all-requires-clause-long c =
    ap length c.deref_mut.ensures.value
    ∙ ap length c.in_ok-bytes.ensures
    ∙ length-initial c.args.given.plan.now c.args.given.inputs.now c.requires.given.sound c.requires.given.fits c.args.c c.requires.cell
