use Rattle.std.specs.Prelude.{vec_capacity}
use Rattle.std.proofs.Common.{arith}
use Rattle.triggered_ops.specs.marks.Bits.{rounded}
use Rattle.triggered_ops.proofs.Spotting.{spotted-none}
use Rattle.triggered_ops.proofs.spots.Spots.open.Goals as goal

pub invariant_of-result : goal.invariant_of-result
invariant_of-result g c = rw c.in_ok-spots.ensures.items (spotted-none c.in_ok-marks.marks (rounded c.args.room) c.args.room
    (vec_capacity c.in_ok-spots.spots) c.in_ok-marks.ensures (omega arith) c.in_ok-spots.ensures.capacity c.requires)
