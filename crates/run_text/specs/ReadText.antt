-- A text as it comes from a source.
use Rattle.std.specs.Prelude.{◌+◌, ◌≤◌, ℕ, List, length}
use Rattle.port_io.specs.Ends.{Inflow, GivesFront, IsAtEnd}

-- What was read is the front of what was left: all of it, or one byte more than the longest text.
pub record IsReadText (longest : ℕ) (old new : Inflow) (text : List ℕ) : Type 0 where
  pub front : GivesFront old.left new.left text
  pub short : length text ≤ longest + 1
  pub whole : length text ≤ longest → IsAtEnd new.left
  pub faults : old.faults ≤ new.faults
