-- The place lies between the two.
use Rattle.std.proofs.Common.{◌-◌}
use Rattle.triggered_ops.specs.Layout.{numbers_of}
use Rattle.triggered_ops.proofs.Found.{IsBetween}
use Rattle.triggered_ops.proofs.spots.lower_bound.Given as goal

abbrev pub invariant-loop-low : goal.invariant-loop-low
invariant-loop-low g l = IsBetween (numbers_of l.spots) l.number l.low l.high

abbrev pub decreases-loop-low : goal.decreases-loop-low
decreases-loop-low g l = l.high - l.low
