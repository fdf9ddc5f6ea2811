-- A message is delivered, in two runs: the same one, and what comes of it is the same.
use Rattle.std.proofs.Common.{◌≡◌, ℕ, ◌+◌, ◌==◌, true, false, ◌||◌, ◌∷◌, Option, Some, None, refl, ap, ap₂, sym, subst, ◌∙◌, cond}
use Rattle.std.proofs.Common.{option_map, unwrap_or, codes, arith}
use Rattle.guarded_ni.specs.declared.faults.Misuse.TheVariants.{Elsewhere}
use Rattle.log_words.specs.Words.{Rest, Word}
use Rattle.log_words.specs.Reading.{flaw_at}
use Rattle.log_words.specs.declared.faults.Flaw.TheVariants.{UnknownMessage}
use Rattle.log_answers.specs.declared.owed.Sort.{Sort}
use Rattle.log_answers.specs.declared.names.flights.Flight.{Flight}
use Rattle.log_answers.specs.names.Flights.{age_of, flight_at, word_in}
use Rattle.log_seats.specs.Answers.{After, after as told, arrived, misuse_word, says}
use Rattle.log_seats.specs.declared.seats.Seat.{Seat}
use Rattle.log_verdict.specs.Answering.{Came, answered, came, others_of, without_flight}
use Rattle.log_verdict.specs.Scenes.{seat_at}
use Rattle.log_verdict.specs.Steps.{ArrivesAt, Delivers, DeliversAged, DeliversInTurn, StaysAt, is_elsewhere, older, oldest_like}
use Rattle.log_verdict.specs.Steps.{other_than, word_at}
use Rattle.log_verdict.specs.declared.answering.Step.TheVariants as steps
use Rattle.log_verdict.specs.declared.scenes.Scene.{Scene}
use Rattle.slot_laws.specs.Naming.{renamed_flight, renamed_flights}
use Rattle.slot_laws.specs.Alike.{AftersAlike, IsConsistentAfter, SeatsAlike}
use Rattle.slot_laws.proofs.terms.Counting.{Counts, made}
use Rattle.slot_laws.proofs.terms.Scenes.{AgreeBelow, AreRenamings, CamesAlike, Renamings, ScenesAlike, at, given_at}
use Rattle.slot_laws.proofs.terms.Kin.{GoesOn, Kin, KinCame}
use Rattle.slot_laws.proofs.Answering.{answered_alike}
use Rattle.slot_laws.proofs.Asking.{others_removed, seats_alike}
use Rattle.slot_laws.proofs.CallCounts.{arrived_counts}
use Rattle.slot_laws.proofs.SeatOrder.{arrived_ordered}
use Rattle.slot_laws.proofs.Calls.{arrived_alike, arrived_makes, stayed_alike, stayed_counts}
use Rattle.slot_laws.proofs.Calls.{stayed_ordered}
use Rattle.slot_laws.proofs.Given.{call_given}
use Rattle.slot_laws.proofs.Lines.{flight_alike, one_flight, stays_kin, without_alike}
use Rattle.slot_laws.proofs.Named.{rising_here, rising_there}
use Rattle.slot_laws.proofs.Numbered.{oldest_renamed, word_in_renamed}
use Rattle.slot_laws.proofs.Rows.{lookup_ordered, remove_ordered}
use Rattle.slot_laws.proofs.Stepping.{answered_ordered, came_kin, kin_alike, plain_kin}

-- ---- what an interface does that makes nothing

pub seat_kin : (g : Renamings) (s t : Scene) (rank : ℕ) (said : Option Rest) (a b : Seat) (x y : After) → Kin g s t →
    seat_at rank s ≡ Some a → seat_at rank t ≡ Some b →
    ((h : Renamings) → AreRenamings h → AgreeBelow s.seats g h → SeatsAlike (at h rank) a b → AftersAlike (at h rank) x y) →
    IsConsistentAfter x → IsConsistentAfter y → Counts a x → ((sort : Sort) → made sort x.owed ≡ 0) →
    KinCame (answered x said (others_of rank s)) (answered y said (others_of rank t))
seat_kin g s t rank said a b x y kin here there alike after after' counts none =
    let both : (a.nic.rank ≡ rank) × SeatsAlike (at g rank) a b = seats_alike g s t rank a b (kin_alike g s t kin) here there in
    let afters : AftersAlike (at g rank) x y = alike g kin.are (λ k sort z below. refl) both.1 in
    let came : (h : Renamings) → AreRenamings h → AgreeBelow s.seats g h → ScenesAlike h s t →
    CamesAlike h (answered x said (others_of rank s)) (answered y said (others_of rank t)) =
    λ h are before scenes. answered_alike h are (others_of rank s) (others_of rank t) (others_removed h s t rank scenes) rank x y
    (alike h are before (seats_alike h s t rank a b scenes here there).1) after after' (counts.rank ∙ both.0) said in
    plain_kin g s t (answered x said (others_of rank s)) (answered y said (others_of rank t)) kin came
    (λ goes k sort. call_given rank a x s said here (counts.rank ∙ both.0) counts goes k sort
    ∙ ap (λ n. cond (k == rank) (given_at s.seats k sort + n) (given_at s.seats k sort)) (none sort)
    ∙ elim (k == rank) as (λ c. cond c (given_at s.seats k sort + 0) (given_at s.seats k sort) ≡ given_at s.seats k sort) [
      | true ↦ omega arith
      | false ↦ refl
    ])
    (λ goes. (
      answered_ordered x (others_of rank s) said (rising_here (at g rank) x.seat y.seat afters.near) after
          (remove_ordered rank s.seats kin.here) goes,
      answered_ordered y (others_of rank t) said (rising_there (at g rank) x.seat y.seat afters.near) after'
          (remove_ordered rank t.seats kin.there)
          (subst GoesOn (sym (came g kin.are (λ k sort z below. refl) (kin_alike g s t kin)).step) goes),
    ))

-- ---- which message is meant

module _ (g : Renamings) (s t : Scene) (alike : ScenesAlike g s t) where
  elsewhere_by : (rank : ℕ) (o : Option Flight) → is_elsewhere rank (option_map (renamed_flight (at g 0)) o) ≡ is_elsewhere rank o
  elsewhere_by rank None = refl
  elsewhere_by rank (Some f) = refl

  elsewhere_alike : (rank age : ℕ) → is_elsewhere rank (flight_at age t.flights) ≡ is_elsewhere rank (flight_at age s.flights)
  elsewhere_alike rank age = ap (is_elsewhere rank) (flight_alike g s t alike age) ∙ elsewhere_by rank (flight_at age s.flights)

  oldest_by : (o : Option Flight) → oldest_like (option_map (renamed_flight (at g 0)) o) (renamed_flights (at g 0) s.flights)
      ≡ oldest_like o s.flights
  oldest_by None = refl
  oldest_by (Some f) = oldest_renamed (at g 0) f.message.header s.flights

  oldest_alike : (age : ℕ) → oldest_like (flight_at age t.flights) t.flights ≡ oldest_like (flight_at age s.flights) s.flights
  oldest_alike age =
      ap₂ oldest_like (flight_alike g s t alike age) alike.flights ∙ oldest_by (flight_at age s.flights)

  older_alike : (rank age : ℕ) → older rank age t ≡ older rank age s
  older_alike rank age =
      ap₂ (λ b c. cond (b || c) None (other_than age (oldest_like (flight_at age t.flights) t.flights))) alike.any_order
      (elsewhere_alike rank age)
      ∙ ap (λ o. cond (s.any_order || is_elsewhere rank (flight_at age s.flights)) None (other_than age o)) (oldest_alike age)

  word_alike : (age : ℕ) → word_at age t ≡ word_at age s
  word_alike age = ap (λ o. unwrap_or o (codes "?"))
      (ap word_in (flight_alike g s t alike age) ∙ word_in_renamed (at g 0) (flight_at age s.flights))

-- ---- it arrives, or not

module _ (g : Renamings) (s t : Scene) (kin : Kin g s t) where
  without_kin : (age : ℕ) → Kin g (without_flight age s) (without_flight age t)
  without_kin age = record {
    are = kin.are;
    alike = λ h are agree. without_alike h are s t (kin.alike h are agree) age;
    here = kin.here;
    there = kin.there;
  }

  stays_at : (rank : ℕ) (said : Option Rest) (c d : Came) → StaysAt rank said s c → StaysAt rank said t d → KinCame c d
  stays_at rank said c d at_s at_t =
      came_kin at_s.came at_t.came (seat_kin g s t rank said at_s.seat at_t.seat (told at_s.seat (says (misuse_word Elsewhere)))
      (told at_t.seat (says (misuse_word Elsewhere))) kin
      at_s.is_there at_t.is_there (λ h are before alike. stayed_alike (at h rank) at_s.seat at_t.seat (misuse_word Elsewhere) alike)
      (stayed_ordered at_s.seat (misuse_word Elsewhere) (lookup_ordered rank s.seats at_s.seat kin.here at_s.is_there))
      (stayed_ordered at_t.seat (misuse_word Elsewhere) (lookup_ordered rank t.seats at_t.seat kin.there at_t.is_there))
      (stayed_counts at_s.seat (misuse_word Elsewhere)) (λ sort. refl))

  arrives_at : (age rank : ℕ) (said : Option Rest) (c d : Came) → ArrivesAt age rank said s c → ArrivesAt age rank said t d → KinCame c d
  arrives_at age rank said c d at_s at_t =
      let x : After = arrived at_s.flight.message at_s.seat in
      let y : After = arrived at_t.flight.message at_t.seat in
      let one : (h : Renamings) → ScenesAlike h s t → at_t.flight ≡ renamed_flight (at h 0) at_s.flight =
      λ h scenes. one_flight h s t scenes age at_s.flight at_t.flight at_s.is_sent at_t.is_sent in
      came_kin at_s.came at_t.came (seat_kin g (without_flight age s) (without_flight age t) rank said at_s.seat at_t.seat x y
      (without_kin age) at_s.is_there at_t.is_there
      (λ h are before alike. subst (λ f. AftersAlike (at h rank) x (arrived f.message at_t.seat)) (sym (one h (kin.alike h are before)))
      (arrived_alike (at h rank) (are.apart rank) at_s.flight.message at_s.seat at_t.seat alike))
      (arrived_ordered at_s.flight.message at_s.seat (lookup_ordered rank s.seats at_s.seat kin.here at_s.is_there))
      (arrived_ordered at_t.flight.message at_t.seat (lookup_ordered rank t.seats at_t.seat kin.there at_t.is_there))
      (arrived_counts at_s.flight.message at_s.seat) (arrived_makes at_s.flight.message at_s.seat))

  in_turn : (age rank : ℕ) (said : Option Rest) (c d : Came) → DeliversInTurn age rank said s c → DeliversInTurn age rank said t d →
      KinCame c d
  in_turn age rank said c d (DeliversInTurn.Stays e m) (DeliversInTurn.Stays f n) = stays_at rank said c d m n
  in_turn age rank said c d (DeliversInTurn.Stays e m) (DeliversInTurn.Arrives f n) =
      let same : true ≡ false = sym e ∙ sym (elsewhere_alike g s t (kin_alike g s t kin) rank age) ∙ f in absurd (cc)
  in_turn age rank said c d (DeliversInTurn.Arrives e m) (DeliversInTurn.Stays f n) =
      let same : false ≡ true = sym e ∙ sym (elsewhere_alike g s t (kin_alike g s t kin) rank age) ∙ f in absurd (cc)
  in_turn age rank said c d (DeliversInTurn.Arrives e m) (DeliversInTurn.Arrives f n) = arrives_at age rank said c d m n

  aged : (age : ℕ) (w : Word) (rank : ℕ) (said : Option Rest) (c d : Came) → DeliversAged age w rank said s c →
      DeliversAged age w rank said t d →
      KinCame c d
  aged age w rank said c d (DeliversAged.Early first e m) (DeliversAged.Early first' f n) =
      let same : first' ≡ first = let both : Some first' ≡ Some first =
      sym f ∙ older_alike g s t (kin_alike g s t kin) rank age ∙ e in cc in
      let word : word_at first' t ≡ word_at first s = ap (λ k. word_at k t) same ∙ word_alike g s t (kin_alike g s t kin) first in
      came_kin m (n ∙ ap (λ text. came t (steps.Differs w.column (32 ∷ w.text) (32 ∷ text))) word)
      (stays_kin g s t (steps.Differs w.column (32 ∷ w.text) (32 ∷ word_at first s)) kin)
  aged age w rank said c d (DeliversAged.Early first e m) (DeliversAged.InTurn f n) =
      let same : Some first ≡ None = sym e ∙ sym (older_alike g s t (kin_alike g s t kin) rank age) ∙ f in absurd (cc)
  aged age w rank said c d (DeliversAged.InTurn e m) (DeliversAged.Early first f n) =
      let same : None ≡ Some first = sym e ∙ sym (older_alike g s t (kin_alike g s t kin) rank age) ∙ f in absurd (cc)
  aged age w rank said c d (DeliversAged.InTurn e m) (DeliversAged.InTurn f n) = in_turn age rank said c d m n

  age_alike : (w : Word) → age_of w.text t.flights ≡ age_of w.text s.flights
  age_alike w = ap (age_of w.text) (kin_alike g s t kin).flights

  delivers : (w : Word) (rank : ℕ) (said : Option Rest) (c d : Came) → Delivers w rank said s c → Delivers w rank said t d → KinCame c d
  delivers w rank said c d (Delivers.NoMessage e m) (Delivers.NoMessage f n) =
      came_kin m n (stays_kin g s t (steps.Refused (flaw_at w.column UnknownMessage)) kin)
  delivers w rank said c d (Delivers.NoMessage e m) (Delivers.Sent age f n) =
      let same : None ≡ Some age = sym e ∙ sym (age_alike w) ∙ f in absurd (cc)
  delivers w rank said c d (Delivers.Sent age e m) (Delivers.NoMessage f n) =
      let same : Some age ≡ None = sym e ∙ sym (age_alike w) ∙ f in absurd (cc)
  delivers w rank said c d (Delivers.Sent age e m) (Delivers.Sent age' f n) =
      let same : age' ≡ age = let both : Some age' ≡ Some age = sym f ∙ age_alike w ∙ e in cc in
      aged age w rank said c d m (subst (λ k. DeliversAged k w rank said t d) same n)

pub delivers_kin : (g : Renamings) (s t : Scene) → Kin g s t → (w : Word) (rank : ℕ) (said : Option Rest) (c d : Came) →
    Delivers w rank said s c → Delivers w rank said t d → KinCame c d
delivers_kin g s t kin w rank said c d m n = delivers g s t kin w rank said c d m n
