use Rattle.std.proofs.Common.{length}
use Rattle.log_cases.proofs.verdicts.verdict.Given as goal

abbrev pub decreases-loop-line : goal.decreases-loop-line
decreases-loop-line g l = length l.rest
