-- Event queues: the events that wait, oldest first, and whether one was lost since the last get: this profile's own.
use Rattle.std.specs.Prelude.{ℕ, Bool, true, false, List, [], ◌∷◌, ◌++◌, length, nat_lt, Option, Some, None, if◌then◌else◌}
use Rattle.ptl_types.specs.declared.handles.Handle.{Handle}
use Rattle.ptl_types.specs.declared.events.Event.{Event}
use Rattle.ptl_types.specs.declared.calls.EqGot.{EqGot}
use Rattle.ptl_types.specs.declared.calls.EqGot.TheVariants.{Got, Empty, Dropped as Lost}
use Rattle.ni_model.specs.Tables.{Table, changed}

-- the room, the events that wait, and whether one was lost
pub record Waiting : Type 0 where
  pub room : ℕ
  pub events : List Event
  pub lost : Bool

-- the three together
abbrev pub queue : ℕ → List Event → Bool → Waiting
queue room events lost = record { room = room; events = events; lost = lost }

-- the event that finds its queue full is the one that is lost
abbrev pub add_event : Event → Waiting → Waiting
add_event e q = if nat_lt (length q.events) q.room then record q { events = q.events ++ e ∷ [] } else record q { lost = true }

-- the oldest event, unless one was lost: then it tells so, and gives none
abbrev pub first_event : List Event → EqGot
first_event [] = Empty
first_event (e ∷ es) = Got e

-- the events after the oldest
abbrev pub later_events : List Event → List Event
later_events [] = []
later_events (e ∷ es) = es

-- what a get answers
abbrev pub taken_from : Waiting → EqGot
taken_from q = if q.lost then Lost else first_event q.events

-- the queue after a get
abbrev pub after_take : Waiting → Waiting
after_take q = if q.lost then record q { lost = false } else record q { events = later_events q.events }

-- the queue that is named, if any, gets one event
abbrev pub raised : Option Handle → Event → Table Waiting → Table Waiting
raised None e t = t
raised (Some h) e t = changed h (add_event e) t
