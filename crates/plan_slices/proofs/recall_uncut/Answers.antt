-- Cell by cell and link by link.
use Rattle.plan_slices.proofs.Uncut.{are_uncut, uncut}
use Rattle.plan_slices.proofs.recall_uncut.Goals as goal

pub returns-clause-cuts : goal.returns-clause-cuts
returns-clause-cuts c = are_uncut c.args.plan.now

pub returns-clause-sliced : goal.returns-clause-sliced
returns-clause-sliced c = uncut c.args.plan.now
