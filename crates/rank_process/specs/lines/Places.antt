-- Where a rank's lists lie.
use Rattle.std.specs.Prelude.{ℕ, List, Option, map, option_map}
use Rattle.number_lists.specs.Numbers.{from_to}
use Rattle.plan_core.specs.Draw.{held_cell}
use Rattle.schedule_compiler.specs.declared.schedule.Place.{Place}
use Rattle.schedule_compiler.specs.Answers.{place_of}
use Rattle.schedule_compiler.specs.Schedules.{ScheduleOf}

-- rank r's list of buffer b
abbrev pub place_held : ScheduleOf → ℕ → ℕ → Option Place
place_held s r b = option_map (place_of s.plan) (held_cell s.held b r)

-- of each buffer
abbrev pub places_in : ScheduleOf → ℕ → List (Option Place)
places_in s r = map (place_held s r) (from_to 0 s.held.buffers)
