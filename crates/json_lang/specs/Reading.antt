-- What JSON bytes describe.
use Rattle.std.specs.Prelude.{ℕ, List, length, Option, Some, None, Result, Ok, Err, nat_lt, if◌then◌else◌}
use Rattle.std.specs.Str.{is_utf8}
use Rattle.serde_json.specs.Data.{Data}
use Rattle.serde_json.specs.Read as json
use Rattle.coll_lang.specs.Program.{Program}
use Rattle.coll_lang.specs.Language.{read}
use Rattle.coll_lang.specs.declared.whole.TheConstants.{LONGEST_TEXT}
use Rattle.coll_lang.specs.declared.fault.Refusal.{Refusal}
use Rattle.coll_lang.specs.declared.fault.Refusal.TheVariants.{TooLong}
use Rattle.json_lang.specs.Form.{is_form}
use Rattle.json_lang.specs.LineText.{line_text}
use Rattle.json_lang.specs.declared.fault.JsonRefusal.{JsonRefusal}
use Rattle.json_lang.specs.declared.fault.JsonRefusal.TheVariants.{BadJson, BadForm, Refused}

-- the value that the bytes hold: none where they aren't UTF-8, or where `serde_json` reads none
abbrev pub value_in : List ℕ → Option Data
value_in bytes = if is_utf8 bytes then json.read bytes else None

-- the same answer; a refusal of the line text keeps its line
abbrev pub as_refused : Result Program (ℕ × Refusal) → Result Program JsonRefusal
as_refused (Ok d) = Ok d
as_refused (Err e) = Err (Refused e.0 e.1)

-- what a value describes: what its line text describes, where it is of the form
unfoldable pub described : Data → Result Program JsonRefusal
described value = if is_form value then as_refused (read (line_text value)) else Err BadForm

abbrev pub described_by : Option Data → Result Program JsonRefusal
described_by None = Err BadJson
described_by (Some value) = described value

-- what JSON bytes describe, or why they are refused: first too long, then no JSON, then not of the form, then by a line
unfoldable pub read_json : List ℕ → Result Program JsonRefusal
read_json bytes = if nat_lt LONGEST_TEXT (length bytes) then Err (Refused 0 TooLong) else described_by (value_in bytes)
