use Rattle.pair_wires.proofs.Moves.{tells}
use Rattle.pair_wires.proofs.wire.Wire.tell.Goals as goal

pub another-requires-clause-rule : goal.another-requires-clause-rule
another-requires-clause-rule c = tells _ _ c.end.invariant.pops
