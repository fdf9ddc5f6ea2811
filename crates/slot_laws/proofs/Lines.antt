-- Lines that no interface answers, in two runs: a message is told or lost, and words are said.
use Rattle.std.proofs.Common.{◌≡◌, ℕ, true, false, List, [], Option, Some, None, refl, ap, sym, subst, ◌∙◌}
use Rattle.std.proofs.Common.{cond, option_map}
use Rattle.ptl_types.specs.declared.handles.Handle.{Handle}
use Rattle.log_words.specs.Words.{Rest, Word, is_last}
use Rattle.log_answers.specs.declared.owed.Owed.{Owed}
use Rattle.log_answers.specs.declared.owed.Owed.TheVariants as owed
use Rattle.log_answers.specs.declared.names.flights.Flight.{Flight}
use Rattle.log_answers.specs.names.Flights.{age_of, flight_at, taken}
use Rattle.log_verdict.specs.Answering.{Came, came, said_or_owed, step_of, told_step, without_flight}
use Rattle.log_verdict.specs.Steps.{goes, loses, loses_aged, tells, tells_aged, tells_flight}
use Rattle.log_verdict.specs.declared.answering.Step.{Step}
use Rattle.log_verdict.specs.declared.answering.Step.TheVariants as steps
use Rattle.log_verdict.specs.declared.scenes.Scene.{Scene}
use Rattle.slot_laws.specs.Naming.{renamed_flight}
use Rattle.slot_laws.specs.Told.{HoldsOfNamed, renamed_owed}
use Rattle.slot_laws.proofs.terms.Scenes.{AllConsistent, AreRenamings, CamesAlike, Renamings, ScenesAlike, at, given_at}
use Rattle.slot_laws.proofs.terms.Kin.{Kin, KinCame}
use Rattle.slot_laws.proofs.Answering.{compared_with_alike}
use Rattle.slot_laws.proofs.Comparing.{owed_text_alike}
use Rattle.slot_laws.proofs.Knowing.{others_alike}
use Rattle.slot_laws.proofs.Numbered.{flight_at_renamed, taken_renamed}
use Rattle.slot_laws.proofs.Stepping.{plain_kin}

-- the interfaces stay as they were
pub still_kin : (g : Renamings) (s t : Scene) (c d : Came) → Kin g s t →
    ((h : Renamings) → AreRenamings h → ScenesAlike h s t → CamesAlike h c d) → c.scene.seats ≡ s.seats → d.scene.seats ≡ t.seats →
    KinCame c d
still_kin g s t c d kin alike same same' =
    plain_kin g s t c d kin (λ h are before scenes. alike h are scenes) (λ goes rank sort. ap (λ es. given_at es rank sort) same)
    (λ goes. (subst AllConsistent (sym same) kin.here, subst AllConsistent (sym same') kin.there))

-- nothing comes but this step
pub stays_kin : (g : Renamings) (s t : Scene) (step : Step) → Kin g s t → KinCame (came s step) (came t step)
stays_kin g s t step kin =
    still_kin g s t (came s step) (came t step) kin (λ h are alike. record { step = refl; scene = alike }) refl refl

-- ---- messages under way

module _ (g : Renamings) (s t : Scene) (alike : ScenesAlike g s t) where
  pub flight_alike : (age : ℕ) → flight_at age t.flights ≡ option_map (renamed_flight (at g 0)) (flight_at age s.flights)
  flight_alike age = ap (flight_at age) alike.flights ∙ flight_at_renamed (at g 0) age s.flights

  -- of one age, where it is under way in both
  pub one_flight : (age : ℕ) (a b : Flight) → flight_at age s.flights ≡ Some a → flight_at age t.flights ≡ Some b →
      b ≡ renamed_flight (at g 0) a
  one_flight age a b here there =
      let same : Some b ≡ Some (renamed_flight (at g 0) a) =
      sym there ∙ flight_alike age ∙ ap (option_map (renamed_flight (at g 0))) here in cc

-- ---- an answer of no interface

module _ (g : Renamings) (are : AreRenamings g) (s t : Scene) (alike : ScenesAlike g s t) where
  told_alike : (bytes : List ℕ) (rank : ℕ) (o : Owed) → ((E : Handle → Type 0) → HoldsOfNamed E o) → (said : Rest) →
      told_step t bytes (renamed_owed (at g 0) rank o) said ≡ told_step s bytes o said
  told_alike bytes rank o none said =
      ap step_of (compared_with_alike (others_alike g are s t alike.seats 0 (λ h. ⊥) (λ h no. no) bytes) rank o (none (λ h. ⊥)) said)

  pub said_alike : (word : List ℕ) (said : Option Rest) → said_or_owed t (owed.Word word) said ≡ said_or_owed s (owed.Word word) said
  said_alike word None =
      ap steps.Owes (owed_text_alike (others_alike g are s t alike.seats 0 (λ h. ⊥) (λ h no. no) []) 0 (owed.Word word) tt)
  said_alike word (Some said) = told_alike [] 0 (owed.Word word) (λ E. tt) said

  tells_flight_alike : (o : Option Flight) (w : Word) (said : Rest) →
      CamesAlike g (tells_flight o w said s) (tells_flight (option_map (renamed_flight (at g 0)) o) w said t)
  tells_flight_alike None w said = record { step = refl; scene = alike }
  tells_flight_alike (Some f) w said =
      rw (told_alike f.message.bytes 0 (owed.Told f.message.header) (λ E. tt) said)
      (elim (is_last said.words) as (λ b. CamesAlike g
      (cond b (goes s) (came s (told_step s f.message.bytes (owed.Told f.message.header) said)))
      (cond b (goes t) (came t (told_step s f.message.bytes (owed.Told f.message.header) said)))) [
        | true ↦ record { step = refl; scene = alike }
        | false ↦ record { step = refl; scene = alike }
      ])

  tells_aged_alike : (o : Option ℕ) (w : Word) (said : Rest) → CamesAlike g (tells_aged o w said s) (tells_aged o w said t)
  tells_aged_alike None w said = record { step = refl; scene = alike }
  tells_aged_alike (Some age) w said =
      subst (λ o. CamesAlike g (tells_flight (flight_at age s.flights) w said s) (tells_flight o w said t))
      (sym (flight_alike g s t alike age))
      (tells_flight_alike (flight_at age s.flights) w said)

  tells_alike : (w : Word) (said : Rest) → CamesAlike g (tells w said s) (tells w said t)
  unfolding tells
  tells_alike w said =
      subst (λ o. CamesAlike g (tells_aged (age_of w.text s.flights) w said s) (tells_aged o w said t))
      (sym (ap (age_of w.text) alike.flights)) (tells_aged_alike (age_of w.text s.flights) w said)

  pub without_alike : (age : ℕ) → ScenesAlike g (without_flight age s) (without_flight age t)
  without_alike age = record {
    ranks = alike.ranks;
    any_order = alike.any_order;
    seats = alike.seats;
    flights = ap (taken age) alike.flights ∙ taken_renamed (at g 0) age s.flights;
  }

  loses_aged_alike : (o : Option ℕ) (w : Word) → CamesAlike g (loses_aged o w s) (loses_aged o w t)
  loses_aged_alike None w = record { step = refl; scene = alike }
  loses_aged_alike (Some age) w = record { step = refl; scene = without_alike age }

  loses_alike : (w : Word) → CamesAlike g (loses w s) (loses w t)
  unfolding loses
  loses_alike w =
      subst (λ o. CamesAlike g (loses_aged (age_of w.text s.flights) w s) (loses_aged o w t))
      (sym (ap (age_of w.text) alike.flights)) (loses_aged_alike (age_of w.text s.flights) w)

-- ---- they leave the interfaces

tells_flight_seats : (o : Option Flight) (w : Word) (said : Rest) (s : Scene) → (tells_flight o w said s).scene.seats ≡ s.seats
tells_flight_seats None w said s = refl
tells_flight_seats (Some f) w said s =
    elim (is_last said.words) as (λ b. (cond b (goes s)
    (came s (told_step s f.message.bytes (owed.Told f.message.header) said))).scene.seats ≡ s.seats) [
      | true ↦ refl
      | false ↦ refl
    ]

tells_aged_seats : (o : Option ℕ) (w : Word) (said : Rest) (s : Scene) → (tells_aged o w said s).scene.seats ≡ s.seats
tells_aged_seats None w said s = refl
tells_aged_seats (Some age) w said s = tells_flight_seats (flight_at age s.flights) w said s

tells_seats : (w : Word) (said : Rest) (s : Scene) → (tells w said s).scene.seats ≡ s.seats
unfolding tells
tells_seats w said s = tells_aged_seats (age_of w.text s.flights) w said s

loses_aged_seats : (o : Option ℕ) (w : Word) (s : Scene) → (loses_aged o w s).scene.seats ≡ s.seats
loses_aged_seats None w s = refl
loses_aged_seats (Some age) w s = refl

loses_seats : (w : Word) (s : Scene) → (loses w s).scene.seats ≡ s.seats
unfolding loses
loses_seats w s = loses_aged_seats (age_of w.text s.flights) w s

pub tells_kin : (g : Renamings) (s t : Scene) (w : Word) (said : Rest) → Kin g s t → KinCame (tells w said s) (tells w said t)
tells_kin g s t w said kin =
    still_kin g s t (tells w said s) (tells w said t) kin (λ h are alike. tells_alike h are s t alike w said) (tells_seats w said s)
    (tells_seats w said t)

pub loses_kin : (g : Renamings) (s t : Scene) (w : Word) → Kin g s t → KinCame (loses w s) (loses w t)
loses_kin g s t w kin =
    still_kin g s t (loses w s) (loses w t) kin (λ h are alike. loses_alike h are s t alike w) (loses_seats w s) (loses_seats w t)
