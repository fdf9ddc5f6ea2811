-- What becomes of a text that is handed to a sink in pieces.
use Rattle.std.specs.Prelude.{ℕ, ◌≡◌, ◌≤◌, List, ◌++◌, Result, Ok, Err}
use Rattle.port_io.specs.declared.ends.Failed.{Failed}
use Rattle.ptl_types.specs.Handles.{one_more}
use Rattle.port_io.specs.Counts.{Rose}
use Rattle.port_io.specs.Ends.{Outflow, Appends}

-- Of the text the sink took all but the rest. It wasn't finished.
pub record Takes (old new : Outflow) (text rest : List ℕ) : Type 0 where
  pub out : List ℕ
  pub whole : text ≡ out ++ rest
  pub appended : Appends old.taken new.taken out
  pub faults : old.faults ≤ new.faults
  pub finishes : new.finishes ≡ old.finishes

-- The sink's count of faults rose, and a beginning of the text stands.
pub record FailsWithin (old new : Outflow) (text : List ℕ) : Type 0 where
  pub rest : List ℕ
  pub begun : Takes old new text rest
  pub rose : Rose old.faults new.faults

-- A list comes to what was held back: the sink takes all of it but what is held back now, or it fails.
abbrev pub Puts : Outflow → Outflow → List ℕ → List ℕ → List ℕ → Result (Unit {0}) Failed → Type 0
Puts old new before held list (Ok done) = Takes old new (before ++ list) held
Puts old new before held list (Err failed) = FailsWithin old new (before ++ list)

-- The sink took all of the text and was finished.
pub record Ends (old new : Outflow) (text : List ℕ) : Type 0 where
  pub appended : Appends old.taken new.taken text
  pub faults : old.faults ≤ new.faults
  pub finishes : new.finishes ≡ one_more old.finishes

-- The text is to end: it is whole and finished, or the sink fails.
abbrev pub EndsWith : Outflow → Outflow → List ℕ → Result (Unit {0}) Failed → Type 0
EndsWith old new text (Ok done) = Ends old new text
EndsWith old new text (Err failed) = FailsWithin old new text
