use Rattle.std.proofs.Common.{length}
use Rattle.plan_terms.proofs.terms.members.+settled.Given as goal

abbrev pub decreases-settled : goal.decreases-settled
decreases-settled l = length l.list.now
