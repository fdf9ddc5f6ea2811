-- Messages arrive and operations fire where a log tells neither, in a fixed order.
use Rattle.std.specs.Prelude.{ℕ, ◌≡◌, Bool, true, false, [], ◌∷◌, Option, Some, None, is_some, if◌then◌else◌}
use Rattle.std.specs.List.{slice_get}
use Rattle.ni_model.specs.Ready.{ready_numbers}
use Rattle.log_answers.specs.names.Keys.{Numbers}
use Rattle.log_answers.specs.names.Flights.{flight_at}
use Rattle.log_answers.specs.declared.names.flights.Flight.{Flight}
use Rattle.log_seats.specs.Answers.{arrived, fires_at}
use Rattle.log_verdict.specs.Answering.{others_of, with_answer, without_flight}
use Rattle.log_verdict.specs.Scenes.{seat_at}
use Rattle.log_verdict.specs.declared.scenes.Scene.{Scene}
use Rattle.log_seats.specs.declared.seats.Seat.{Seat}

-- the oldest message whose target is open: its number, and that rank
abbrev pub next_arrival : Numbers Flight → Scene → Option (ℕ × ℕ)
next_arrival [] s = None
next_arrival (e ∷ es) s =
    if is_some (seat_at e.1.message.header.target s) then Some (e.0, e.1.message.header.target) else next_arrival es s

-- the lowest rank that has a ready operation, and the number of the first there
abbrev pub ready_or : Option ℕ → ℕ → Option (ℕ × ℕ) → Option (ℕ × ℕ)
ready_or (Some t) rank later = Some (rank, t)
ready_or None rank later = later

abbrev pub next_ready : Numbers Seat → Option (ℕ × ℕ)
next_ready [] = None
next_ready (e ∷ es) = ready_or (slice_get (ready_numbers e.1.nic) 0) e.1.nic.rank (next_ready es)

-- the message of a number arrives at its target, and an operation fires; what is sent then has no word
pub record ArrivesAs (age target : ℕ) (s t : Scene) : Type 0 where
  pub seat : Seat
  pub flight : Flight
  pub is_there : seat_at target s ≡ Some seat
  pub is_sent : flight_at age s.flights ≡ Some flight
  pub after : t ≡ with_answer (arrived flight.message seat) None (others_of target (without_flight age s))

pub record FiresAs (rank number : ℕ) (s t : Scene) : Type 0 where
  pub seat : Seat
  pub is_there : seat_at rank s ≡ Some seat
  pub after : t ≡ with_answer (fires_at (Some number) seat) None (others_of rank s)

-- the first ready operation fires, or there is none
pub record Fires (s t : Scene) : Type 0 where
  pub rank : ℕ
  pub number : ℕ
  pub is_next : next_ready s.seats ≡ Some (rank, number)
  pub fires : FiresAs rank number s t

abbrev pub FiredOrRests : Bool → Scene → Scene → Type 0
FiredOrRests true s t = Fires s t
FiredOrRests false s t = (next_ready s.seats ≡ None) × (t ≡ s)

-- one message arrives, or where none can, one operation fires
pub data Moves (s t : Scene) : Type 0 where
  Arrival : (age target : ℕ) → next_arrival s.flights.messages s ≡ Some (age, target) → ArrivesAs age target s t → Moves s t
  Firing : next_arrival s.flights.messages s ≡ None → Fires s t → Moves s t

-- there is neither
pub record Rests (s : Scene) : Type 0 where
  pub no_arrival : next_arrival s.flights.messages s ≡ None
  pub no_firing : next_ready s.seats ≡ None

abbrev pub MovedOrRests : Bool → Scene → Scene → Type 0
MovedOrRests true s t = Moves s t
MovedOrRests false s t = Rests s × (t ≡ s)

-- some such moves, one after another
pub data Reaches (s : Scene) : Scene → Type 0 where
  Here : Reaches s s
  Further : (t u : Scene) → Reaches s t → Moves t u → Reaches s u

-- until there is neither
pub record Settles (s t : Scene) : Type 0 where
  pub reached : Reaches s t
  pub rests : Rests t
