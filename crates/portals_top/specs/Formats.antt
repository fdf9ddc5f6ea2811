-- What bytes describe, as a text of the description language or in JSON.
use Rattle.std.specs.Prelude.{ℕ, List, Result, Ok, Err}
use Rattle.coll_lang.specs.declared.fault.Refusal.{Refusal}
use Rattle.coll_lang.specs.declared.fault.Refusal.TheVariants as names
use Rattle.coll_lang.specs.Language.{read}
use Rattle.coll_lang.specs.Program.{Program}
use Rattle.json_lang.specs.declared.fault.JsonRefusal.{JsonRefusal}
use Rattle.json_lang.specs.declared.fault.JsonRefusal.TheVariants.{BadJson, BadForm, Refused, NoMemory}
use Rattle.json_lang.specs.Reading.{read_json}
use Rattle.portals_top.specs.declared.words.Format.{Format}
use Rattle.portals_top.specs.declared.words.Format.TheVariants.{Text, Json}

-- The line and the name that are written where JSON is refused. What is read never lacks memory.
abbrev pub json_refusal : JsonRefusal → ℕ × Refusal
json_refusal BadJson = (0, names.BadJson)
json_refusal BadForm = (0, names.BadForm)
json_refusal (Refused line name) = (line, name)
json_refusal NoMemory = (0, names.BadJson)

abbrev pub with_line : Result Program JsonRefusal → Result Program (ℕ × Refusal)
with_line (Ok d) = Ok d
with_line (Err fault) = Err (json_refusal fault)

-- a description, or the first refusal with its line
abbrev pub read_as : Format → List ℕ → Result Program (ℕ × Refusal)
read_as Text bytes = read bytes
read_as Json bytes = with_line (read_json bytes)
