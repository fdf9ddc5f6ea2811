-- Scenes stay kin past a line that makes nothing, and each interface stays in order past an answer.
use Rattle.std.proofs.Common.{◌≡◌, ℕ, ◌<◌, true, false, List, [], Option, Some, None, refl, sym, subst, cond}
use Rattle.log_words.specs.Words.{Rest}
use Rattle.log_words.specs.declared.faults.Flaw.TheVariants.{NameTaken}
use Rattle.log_answers.specs.declared.owed.Sort.{Sort}
use Rattle.log_seats.specs.Answers.{After}
use Rattle.log_verdict.specs.Answering.{Came, answered, came, chosen_name, compared_with, flawed, is_taken, judged_as, taken_as}
use Rattle.log_verdict.specs.Answering.{with_answer, with_new}
use Rattle.log_verdict.specs.Scenes.{known_at}
use Rattle.log_verdict.specs.declared.answering.Compared.{Compared}
use Rattle.log_verdict.specs.declared.answering.Compared.TheVariants as compares
use Rattle.log_verdict.specs.declared.answering.Step.{Step}
use Rattle.log_verdict.specs.declared.answering.Step.TheVariants as steps
use Rattle.log_verdict.specs.declared.scenes.Scene.{Scene}
use Rattle.slot_laws.specs.Alike.{IsConsistentAfter}
use Rattle.slot_laws.proofs.terms.Scenes.{AgreeBelow, AllConsistent, AreRenamings, CamesAlike, Renamings, ScenesAlike, given_at}
use Rattle.slot_laws.proofs.terms.Kin.{GoesOn, Kin, KinCame}
use Rattle.slot_laws.proofs.Named.{AreRising, ordered_named}
use Rattle.slot_laws.proofs.Rows.{insert_ordered}

-- ---- scenes

pub kin_alike : (g : Renamings) (s t : Scene) → Kin g s t → ScenesAlike g s t
kin_alike g s t kin = kin.alike g kin.are (λ rank sort x below. refl)

-- what comes of two lines, said otherwise
pub came_kin : {c d c' d' : Came} → c ≡ c' → d ≡ d' → KinCame c' d' → KinCame c d
came_kin {c} {d} {c'} {d'} m n kin = subst (λ e. KinCame e d) (sym m) (subst (λ e. KinCame c' e) (sym n) kin)

-- a line that makes nothing
pub plain_kin : (g : Renamings) (s t : Scene) (c d : Came) → Kin g s t →
    ((h : Renamings) → AreRenamings h → AgreeBelow s.seats g h → ScenesAlike h s t → CamesAlike h c d) →
    (GoesOn c.step → (rank : ℕ) (sort : Sort) → given_at c.scene.seats rank sort ≡ given_at s.seats rank sort) →
    (GoesOn c.step → AllConsistent c.scene.seats × AllConsistent d.scene.seats) → KinCame c d
plain_kin g s t c d kin alike given ordered = record {
  renaming = g;
  step = (alike g kin.are (λ rank sort x below. refl) (kin_alike g s t kin)).step;
  kin = λ goes. record {
    are = kin.are;
    alike = λ h are agree.
        let before : AgreeBelow s.seats g h =
        λ rank sort x below. agree rank sort x (subst (λ n. x.stamp < n) (sym (given goes rank sort)) below) in
        (alike h are before (kin.alike h are before)).scene;
    here = (ordered goes).0;
    there = (ordered goes).1;
  };
}

-- ---- each keeps its order

module _ (x : After) (others : Scene) (rising : AreRising x.seat) (after : IsConsistentAfter x) (ordered : AllConsistent others.seats) where
  pub seated_ordered : (word : Option (List ℕ)) → AllConsistent (with_answer x word others).seats
  unfolding with_answer
  seated_ordered word =
      insert_ordered (with_new x.owed word x.seat).nic.rank (with_new x.owed word x.seat)
      (ordered_named x word rising after) others.seats ordered

  OrderedAfter : Came → Type 0
  OrderedAfter c = GoesOn c.step → AllConsistent c.scene.seats

  taken_ordered : (word : Option (List ℕ)) (column : ℕ) (step : Step) → OrderedAfter (taken_as x word column step others)
  unfolding OrderedAfter
  taken_ordered word column step =
      elim (is_taken x.sent word others.flights) as
      (λ b. GoesOn (cond b (flawed column NameTaken others) (came (with_answer x word others) step)).step →
      AllConsistent (cond b (flawed column NameTaken others) (came (with_answer x word others) step)).scene.seats) [
        | true ↦ λ goes. absurd goes
        | false ↦ λ goes. seated_ordered word
      ]

  judged_ordered : (c : Compared) → OrderedAfter (judged_as c x others)
  unfolding OrderedAfter
  judged_ordered (compares.Agrees None) = taken_ordered None 1 steps.Goes
  judged_ordered (compares.Agrees (Some w)) = taken_ordered (Some w.text) w.column steps.Goes
  judged_ordered (compares.Differs column said o) = λ goes. absurd goes

  answered_in : (said : Option Rest) → OrderedAfter (answered x said others)
  unfolding answered OrderedAfter
  answered_in None = λ goes. seated_ordered (chosen_name others.flights x.seat x.owed)
  answered_in (Some said) = judged_ordered (compared_with (known_at (Some x.seat) [] others) x.owed said)

pub answered_ordered : (x : After) (others : Scene) (said : Option Rest) → AreRising x.seat → IsConsistentAfter x →
    AllConsistent others.seats →
    GoesOn (answered x said others).step → AllConsistent (answered x said others).scene.seats
unfolding OrderedAfter
answered_ordered x others said rising after ordered goes = answered_in x others rising after ordered said goes
