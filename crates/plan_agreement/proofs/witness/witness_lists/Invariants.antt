use Rattle.plan_agreement.proofs.Lists.{AreFirst}
use Rattle.plan_agreement.proofs.witness.witness_lists.Given as goal

abbrev pub invariant-loop-i : goal.invariant-loop-i
invariant-loop-i l = AreFirst l.shape l.lists.items l.i
