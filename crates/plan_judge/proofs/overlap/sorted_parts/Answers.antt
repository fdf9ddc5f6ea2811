-- The same parts in another order.
use Rattle.std.proofs.Common.{◌∙◌, ap}
use Rattle.plan_judge.specs.Causes.{overlap}
use Rattle.plan_judge.proofs.Overlaps.{permuted_overlap}
use Rattle.plan_judge.proofs.overlap.sorted_parts.Goals as goal

pub returns-clause-same : goal.returns-clause-same
returns-clause-same c = permuted_overlap _ _ c.in_ok-sort.ensures.permutation ∙ ap overlap c.in_ok-parts.ensures
