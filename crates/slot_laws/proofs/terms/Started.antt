-- What starts, answers that come home and firings leave, with each handle renamed.
use Rattle.std.specs.Prelude.{ℕ, option_map}
use Rattle.ni_model.specs.Answers.{Returned}
use Rattle.ni_model.specs.Starts.{Started}
use Rattle.ni_model.specs.Ready.{Fires}
use Rattle.slot_laws.specs.Renaming.{Renaming}
use Rattle.slot_laws.specs.Renamed.{renamed, renamed_home, renamed_message}

-- after a start at a rank
abbrev pub renamed_started : Renaming → ℕ → Started → Started
renamed_started r rank s = record {
  home = renamed_home r rank s.home;
  message = option_map (renamed_message r) s.message;
  counted = option_map r.ct s.counted;
}

-- after an answer that came home to a rank
abbrev pub renamed_returned : Renaming → ℕ → Returned → Returned
renamed_returned r rank a =
    record { home = renamed_home r rank a.home; outcome = a.outcome; counted = option_map r.ct a.counted }

-- after a firing
abbrev pub renamed_fires : Renaming → Fires → Fires
renamed_fires r x = record { state = renamed r x.state; message = option_map (renamed_message r) x.message }
