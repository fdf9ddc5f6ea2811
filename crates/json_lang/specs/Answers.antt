-- What the calls answer.
use Rattle.std.specs.Prelude.{◌≡◌, ℕ, Option, Some, None, Result, Ok, Err}
use Rattle.serde_json.specs.Data.{Data}
use Rattle.serde_json.specs.View.{view}
use Rattle.serde_json.specs.declared.value.Value.{Value}
use Rattle.coll_lang.specs.Program.{Program}
use Rattle.coll_lang.specs.declared.fault.Refusal.{Refusal}
use Rattle.coll_lang.specs.declared.fault.Refusal.TheVariants as names
use Rattle.json_lang.specs.declared.fault.JsonRefusal.{JsonRefusal}
use Rattle.json_lang.specs.declared.fault.JsonRefusal.TheVariants.{BadJson, BadForm, Refused, NoMemory}

-- the line and the name that are written for it; none where there was no memory
abbrev pub refusal_of : JsonRefusal → Option (ℕ × Refusal)
refusal_of BadJson = Some (0, names.BadJson)
refusal_of BadForm = Some (0, names.BadForm)
refusal_of (Refused line name) = Some (line, name)
refusal_of NoMemory = None

abbrev pub Fails : JsonRefusal → Result Program JsonRefusal → Type 0
Fails NoMemory read = Unit {0}
Fails BadJson read = read ≡ Err BadJson
Fails BadForm read = read ≡ Err BadForm
Fails (Refused line name) read = read ≡ Err (Refused line name)

-- Unless memory runs out, it is what reading gives, both ways.
abbrev pub Reads : Result Program JsonRefusal → Result Program JsonRefusal → Type 0
Reads (Ok d) read = read ≡ Ok d
Reads (Err e) read = Fails e read

abbrev pub HoldsNone : JsonRefusal → Option Data → Type 0
HoldsNone NoMemory held = Unit {0}
HoldsNone BadJson held = held ≡ None
HoldsNone BadForm held = ⊥
HoldsNone (Refused line name) held = ⊥

-- Unless memory runs out, it is the value that bytes hold.
abbrev pub Holds : Result Value JsonRefusal → Option Data → Type 0
Holds (Ok value) held = held ≡ Some (view value)
Holds (Err e) held = HoldsNone e held
