-- Scripts of what the calls of a source or a sink in memory do.
use Rattle.std.specs.Prelude.{ℕ, ◌<◌, List, [], ◌∷◌, Option, Some, None, min}
use Rattle.port_io.specs.declared.turns.IoTurn.{IoTurn}
use Rattle.port_io.specs.declared.turns.IoTurn.TheVariants.{Take, Fail}

-- a turn that takes bytes takes at least one
abbrev pub IsTurn : IoTurn → Type 0
IsTurn (Take most) = 0 < most
IsTurn Fail = Unit {0}

abbrev pub AreTurns : List IoTurn → Type 0
AreTurns [] = Unit {0}
AreTurns (turn ∷ turns) = IsTurn turn × AreTurns turns

-- Of so many bytes, how many the turn lets through. None: the call fails.
abbrev pub let_through : IoTurn → ℕ → Option ℕ
let_through (Take most) bytes = Some (min most bytes)
let_through Fail bytes = None

-- the same of the next turn. Once the turns are used up, all go through.
abbrev pub passing : List IoTurn → ℕ → Option ℕ
passing [] bytes = Some bytes
passing (turn ∷ turns) bytes = let_through turn bytes
