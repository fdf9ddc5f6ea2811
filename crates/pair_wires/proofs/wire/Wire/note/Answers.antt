use Rattle.pair_wires.proofs.Moves.{notes}
use Rattle.pair_wires.proofs.wire.Wire.note.Goals as goal

pub absorb-requires-clause-rule : goal.absorb-requires-clause-rule
absorb-requires-clause-rule c = notes _ _ _ _
