use Rattle.pair_wires.proofs.Moves.{announces}
use Rattle.pair_wires.proofs.wire.Wire.announce.Goals as goal

pub another-requires-clause-rule : goal.another-requires-clause-rule
another-requires-clause-rule c = announces _ _ c.end.invariant.pushes
