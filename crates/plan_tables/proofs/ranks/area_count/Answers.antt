-- The calls are counted.
use Rattle.std.proofs.Common.{length, ap, arith}
use Rattle.plan_tables.proofs.Assembling.{calls-count, at_most-classes}
use Rattle.plan_tables.proofs.ranks.area_count.Goals as goal

pub overflow_cast-result : goal.overflow_cast-result
overflow_cast-result c =
    let e = ap length c.requires.calls in
    let n = calls-count c.args.plan.now c.args.r in
    let o = ap length c.requires.own in
    let u = ap length c.requires.out in
    let f = at_most-classes c.args.plan.now c.args.r in
    omega (arith, e, n, o, u, f)

pub returns-clause-value : goal.returns-clause-value
returns-clause-value c =
    let e = ap length c.requires.calls in
    let n = calls-count c.args.plan.now c.args.r in
    let o = ap length c.requires.own in
    let u = ap length c.requires.out in
    omega (arith, e, n, o, u)

pub returns-clause-at_most : goal.returns-clause-at_most
returns-clause-at_most c =
    let e = ap length c.requires.calls in
    let n = calls-count c.args.plan.now c.args.r in
    let o = ap length c.requires.own in
    let u = ap length c.requires.out in
    let f = at_most-classes c.args.plan.now c.args.r in
    omega (arith, e, n, o, u, f)
