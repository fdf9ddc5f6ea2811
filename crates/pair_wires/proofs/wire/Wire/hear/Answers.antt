use Rattle.pair_wires.proofs.Moves.{hears}
use Rattle.pair_wires.proofs.wire.Wire.hear.Goals as goal

pub absorb-requires-clause-rule : goal.absorb-requires-clause-rule
absorb-requires-clause-rule c = hears _ _ _ _
