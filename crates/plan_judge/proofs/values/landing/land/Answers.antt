use Rattle.std.proofs.Common.{arith}
use Rattle.plan_judge.proofs.values.Landed.{fits, landed}
use Rattle.plan_judge.proofs.values.landing.land.Goals as goal

pub carried-list-requires-clause-cell : goal.carried-list-requires-clause-cell
carried-list-requires-clause-cell c = rw c.link_at-link.ensures c.requires.ready.source

pub carried-list-requires-clause-within : goal.carried-list-requires-clause-within
carried-list-requires-clause-within c =
    let s = c.requires.ready.sound.within_source in
    let n = c.requires.ready.carries in
    rw c.link_at-link.ensures (omega (arith, s, n))

pub land_as-requires-clause-within : goal.land_as-requires-clause-within
land_as-requires-clause-within c =
    let k = c.link_at-link.ensures in
    rw k
    (fits c.args.plan.now c.args.before.now c.args.c c.args.l c.carried-list.result.now c.args.bytes.now c.requires.ready
    (rw k at c.carried-list.ensures) c.requires.long).within

pub land_as-requires-clause-begins : goal.land_as-requires-clause-begins
land_as-requires-clause-begins c =
    let k = c.link_at-link.ensures in
    rw k
    (fits c.args.plan.now c.args.before.now c.args.c c.args.l c.carried-list.result.now c.args.bytes.now c.requires.ready
    (rw k at c.carried-list.ensures) c.requires.long).begins

pub land_as-requires-clause-same : goal.land_as-requires-clause-same
land_as-requires-clause-same c =
    let k = c.link_at-link.ensures in
    rw k
    (fits c.args.plan.now c.args.before.now c.args.c c.args.l c.carried-list.result.now c.args.bytes.now c.requires.ready
    (rw k at c.carried-list.ensures) c.requires.long).same

pub land_as-requires-clause-whole : goal.land_as-requires-clause-whole
land_as-requires-clause-whole c = rw (c.cell_at.ensures, c.requires.long) c.requires.whole

pub returns : goal.returns
returns c =
    landed c.args.plan.now c.args.before.now c.args.c c.args.l c.link_at-link.result c.cell_at.result c.carried-list.result.now
    c.args.bytes.now _ c.requires.ready c.link_at-link.ensures c.cell_at.ensures c.carried-list.ensures c.land_as.ensures
