use Rattle.plan_agreement.specs.Agreement.{AreAlikeTo}
use Rattle.plan_agreement.proofs.comparing.first_unlike.Given as goal

abbrev pub invariant-loop-i : goal.invariant-loop-i
invariant-loop-i l = AreAlikeTo l.plan l.shape l.given l.own l.marks l.i
