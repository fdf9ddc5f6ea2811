-- What comes of a message that arrives, and of moves one after another, from what their parts did.
use Rattle.std.proofs.Common.{◌≡◌, ℕ, Bool, true, false, Option, Some, None, refl, sym, ap, ◌∙◌}
use Rattle.std.specs.Option.{option_map}
use Rattle.ptl_types.specs.Messages.{Sent}
use Rattle.log_words.specs.Words.{Rest}
use Rattle.log_answers.specs.names.Flights.{flight_at}
use Rattle.log_answers.specs.declared.names.flights.Flight.{Flight}
use Rattle.log_verdict.specs.Answering.{Came, answered, others_of, with_answer, without_flight}
use Rattle.log_seats.specs.Answers.{After, arrived}
use Rattle.log_verdict.specs.Scenes.{seat_at}
use Rattle.log_verdict.specs.Settling.{ArrivesAs, MovedOrRests, Reaches}
use Rattle.log_verdict.specs.Settling.Reaches.{Further}
use Rattle.log_verdict.specs.Steps.{ArrivesAt}
use Rattle.log_verdict.specs.declared.scenes.Scene.{Scene}
use Rattle.log_seats.specs.declared.seats.Seat.{Seat}

-- the message of a flight
pub record IsOf (o : Option Flight) (m : Sent) : Type 0 where
  pub flight : Flight
  pub is : o ≡ Some flight
  pub same : m ≡ flight.message

pub is_of : (o : Option Flight) (m : Sent) → Some m ≡ option_map (λ (f : Flight). f.message) o → IsOf o m
is_of None m e = absurd cc
is_of (Some f) m e = record { flight = f; is = refl; same = cc }

module _ (s t : Scene) (seat : Seat) (x : After) (age rank : ℕ) (m : Sent) (here : Some seat ≡ seat_at rank s)
    (flies : Some m ≡ option_map (λ (f : Flight). f.message) (flight_at age s.flights)) (is : x ≡ arrived m seat)
    (others : t ≡ others_of rank (without_flight age s)) where
  -- its answer is judged or written
  pub arrived_at : (said : Option Rest) (c : Came) → c ≡ answered x said t → ArrivesAt age rank said s c
  arrived_at said c e =
      let h = is_of (flight_at age s.flights) m flies in
      record {
        seat = seat;
        flight = h.flight;
        is_there = sym here;
        is_sent = h.is;
        came = e ∙ ap (λ (u : Scene). answered x said u) others
            ∙ ap (λ (y : After). answered y said (others_of rank (without_flight age s))) (is ∙ ap (λ (q : Sent). arrived q seat) h.same);
      }

  -- and where the log tells none
  pub arrived_as : (u : Scene) → u ≡ with_answer x None t → ArrivesAs age rank s u
  arrived_as u e =
      let h = is_of (flight_at age s.flights) m flies in
      record {
        seat = seat;
        flight = h.flight;
        is_there = sym here;
        is_sent = h.is;
        after = e ∙ ap (λ (v : Scene). with_answer x None v) others
            ∙ ap (λ (y : After). with_answer y None (others_of rank (without_flight age s)))
            (is ∙ ap (λ (q : Sent). arrived q seat) h.same);
      }

-- one move more
pub moved_on : (s t u : Scene) (moved : Bool) → Reaches s t → MovedOrRests moved t u → moved ≡ true → Reaches s u
moved_on s t u true r m e = Further t u r m
moved_on s t u false r m e = absurd cc
