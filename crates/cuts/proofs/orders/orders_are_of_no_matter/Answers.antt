use Rattle.cuts.proofs.orders.Taken.{same_taken}
use Rattle.cuts.proofs.orders.Verdicts.{one_verdict}
use Rattle.cuts.proofs.orders.orders_are_of_no_matter.Goals as goal

pub returns-clause-taken : goal.returns-clause-taken
returns-clause-taken c = λ ranks lists one other a b r. same_taken ranks lists one other a b r

pub returns-clause-verdict : goal.returns-clause-verdict
returns-clause-verdict c = λ ranks lists one other a b. one_verdict ranks lists one other a b
