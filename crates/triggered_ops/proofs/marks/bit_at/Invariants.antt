-- The bits before are counted, and what is left has its lowest bit next.
use Rattle.std.proofs.Common.{◌-◌}
use Rattle.triggered_ops.proofs.marks.Words.{IsSearch}
use Rattle.triggered_ops.proofs.marks.bit_at.Given as goal

abbrev pub invariant-loop-rest : goal.invariant-loop-rest
invariant-loop-rest l = IsSearch 64 l.word l.i l.rest l.left l.bit

abbrev pub decreases-loop-rest : goal.decreases-loop-rest
decreases-loop-rest l = 64 - l.bit
