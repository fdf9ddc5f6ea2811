use Rattle.std.proofs.Common.{length}
use Rattle.order_lines.proofs.Ends.{IsLeft}
use Rattle.order_lines.proofs.checking.first_end.Given as goal

abbrev pub invariant-loop-line : goal.invariant-loop-line
invariant-loop-line l = IsLeft l.bytes l.rest l.number

abbrev pub decreases-loop-line : goal.decreases-loop-line
decreases-loop-line l = length l.rest
