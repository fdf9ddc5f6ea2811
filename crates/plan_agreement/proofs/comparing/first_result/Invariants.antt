use Rattle.plan_agreement.specs.Agreement.{AreNoResultsTo}
use Rattle.plan_agreement.proofs.comparing.first_result.Given as goal

abbrev pub invariant-loop-i : goal.invariant-loop-i
invariant-loop-i l = AreNoResultsTo l.marks l.i
