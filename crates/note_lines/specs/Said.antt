-- What a sink took of lines for a person.
use Rattle.std.specs.Prelude.{ℕ, ◌≡◌, List, ◌++◌, Result, Ok, Err}
use Rattle.port_io.specs.declared.ends.Failed.{Failed}
use Rattle.port_io.specs.Ends.{Appends, Outflow}
use Rattle.text_notes.specs.notes.Shown.{AreNotes}

-- The sink took a beginning of the text.
pub record Begins (old new : Outflow) (text : List ℕ) : Type 0 where
  pub out : List ℕ
  pub rest : List ℕ
  pub whole : text ≡ out ++ rest
  pub appended : Appends old.taken new.taken out

-- The sink took a beginning of lines of notes.
pub record BeginsNotes (old new : Outflow) : Type 0 where
  pub text : List ℕ
  pub notes : AreNotes text
  pub begun : Begins old new text

-- The sink took lines of notes.
pub record TakesNotes (old new : Outflow) : Type 0 where
  pub text : List ℕ
  pub notes : AreNotes text
  pub appended : Appends old.taken new.taken text

-- all of them; a beginning, where the sink failed
abbrev pub SaysAll : Outflow → Outflow → Result (Unit {0}) Failed → Type 0
SaysAll old new (Ok done) = TakesNotes old new
SaysAll old new (Err failed) = BeginsNotes old new
