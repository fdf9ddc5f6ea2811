use Rattle.std.proofs.Common.{arith}
use Rattle.plan_costs.proofs.Spending.{ends_fit, link_fits}
use Rattle.plan_costs.proofs.spent.spent_between.Goals as goal

pub spans_of-spans-requires-clause-fits : goal.spans_of-spans-requires-clause-fits
spans_of-spans-requires-clause-fits c =
    link_fits c.args.timed.now.numbers.now c.args.timed.now.plan.now c.args.timed.now.times.now c.args.l c.requires.costed c.requires.link

pub overflow_add-result : goal.overflow_add-result
overflow_add-result c =
    let a = ends_fit c.args.timed.now.numbers.now c.args.timed.now.plan.now c.args.timed.now.times.now c.args.l c.requires.costed
    c.requires.link c.requires.between in
    omega (arith, a)
