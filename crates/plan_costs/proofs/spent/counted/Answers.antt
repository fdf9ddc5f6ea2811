use Rattle.plan_costs.proofs.Spending.{link_fits}
use Rattle.plan_costs.proofs.spent.counted.Goals as goal

pub spans_of-requires-clause-fits : goal.spans_of-requires-clause-fits
spans_of-requires-clause-fits c =
    link_fits c.args.timed.now.numbers.now c.args.timed.now.plan.now c.args.timed.now.times.now c.args.l c.requires.costed c.requires.link
