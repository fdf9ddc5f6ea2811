use Rattle.std.proofs.Common.{arith}
use Rattle.plan_words.proofs.Sums.{few-messages}
use Rattle.plan_words.proofs.takes.to_other.Goals as goal

pub returns-else-s-d-clause-at_most : goal.returns-else-s-d-clause-at_most
returns-else-s-d-clause-at_most c =
    let few = few-messages c.args.schedule.now.plan c.args.s c.args.d in
    let links = c.plan.ensures.at_most in
    let is = c.lane.ensures in
    omega (arith, few, links, is)
