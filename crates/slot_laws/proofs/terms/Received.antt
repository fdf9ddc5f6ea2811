-- What becomes of a request, with each handle renamed.
use Rattle.std.specs.Prelude.{option_map}
use Rattle.ni_model.specs.declared.Arrived.{Arrived}
use Rattle.ni_model.specs.declared.Found.{Found}
use Rattle.ni_model.specs.Arrive.{Received, received}
use Rattle.slot_laws.specs.Renaming.{Renaming}
use Rattle.slot_laws.specs.Renamed.{renamed_linked, renamed_message, renamed_parts}

-- the match entry that takes a request
abbrev pub renamed_found : Renaming → Found → Found
renamed_found r f = record f { linked = renamed_linked r f.linked }

-- its answer, and the counting event that it counts on
abbrev pub renamed_arrived : Renaming → Arrived → Arrived
renamed_arrived r a = record a { answer = option_map (renamed_message r) a.answer; counted = option_map r.ct a.counted }

-- all that it leaves
abbrev pub renamed_received : Renaming → Received → Received
renamed_received r x = received (renamed_parts r x.parts) (renamed_arrived r x.arrived)
