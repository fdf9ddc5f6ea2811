-- A script with one more turn at its end is a script.
use Rattle.std.proofs.Common.{List, [], ◌∷◌, ◌++◌}
use Rattle.port_io.specs.declared.turns.IoTurn.{IoTurn}
use Rattle.port_io.specs.Turns.{IsTurn, AreTurns}

pub AreTurns-push : (turns : List IoTurn) (turn : IoTurn) → AreTurns turns → IsTurn turn → AreTurns (turns ++ turn ∷ [])
AreTurns-push [] turn are is = (is, tt)
AreTurns-push (first ∷ turns) turn are is = (are.0, AreTurns-push turns turn are.1 is)
