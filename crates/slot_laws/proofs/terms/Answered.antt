-- What a call leaves and answers, with each handle renamed.
use Rattle.std.specs.Prelude.{Result, option_map}
use Rattle.std.specs.Result.{result_map_both}
use Rattle.ni_model.specs.Append.{Appends, Searched}
use Rattle.ni_model.specs.Calls.{Done}
use Rattle.slot_laws.specs.Renaming.{Renaming}
use Rattle.slot_laws.specs.Renamed.{renamed, renamed_appended, renamed_parts, renamed_unexpected}

-- after an append
abbrev pub renamed_appends : Renaming → Appends → Appends
renamed_appends r a = record {
  parts = renamed_parts r a.parts;
  appended = renamed_appended r a.appended;
  counted = option_map r.ct a.counted;
}

-- after a search
abbrev pub renamed_searched : Renaming → Searched → Searched
renamed_searched r x = record { parts = renamed_parts r x.parts; found = option_map (renamed_unexpected r) x.found }

-- after a call whose answer is renamed so; a fault names nothing
abbrev pub renamed_done : {A : Type 0} → Renaming → (A → A) → Done A → Done A
renamed_done r f d = record { state = renamed r d.state; answer = f d.answer }

-- an answer, where there is one
abbrev pub renamed_result : {A E : Type 0} → (A → A) → Result A E → Result A E
renamed_result f x = result_map_both f (λ fault. fault) x
