-- A line of a log, in two runs: the same comes of it, and the scenes stay kin.
use Rattle.std.proofs.Common.{◌≡◌, ℕ, Bool, true, false, Option, Some, None, refl, ap, sym, ◌∙◌, cond, is_some}
use Rattle.log_words.specs.Words.{Rest, Word}
use Rattle.log_words.specs.Reading.{flaw_at}
use Rattle.log_words.specs.declared.faults.Flaw.TheVariants.{NameTaken}
use Rattle.log_lines.specs.declared.calls.Call.{Call}
use Rattle.log_lines.specs.declared.calls.Call.TheVariants as calls
use Rattle.log_lines.specs.declared.lines.Line.{Line}
use Rattle.log_lines.specs.declared.lines.Line.TheVariants as lines
use Rattle.log_answers.specs.names.Postings.{number_of}
use Rattle.log_seats.specs.declared.seats.Seat.{Seat}
use Rattle.log_verdict.specs.Answering.{Came, came, flawed}
use Rattle.log_verdict.specs.Scenes.{seat_at}
use Rattle.log_verdict.specs.Steps.{CallComes, CallsSeat, LineCame, Makes, MakesUnlessLacking, answer_flaw, call_flaw, place_flaw}
use Rattle.log_verdict.specs.Steps.{posted_name}
use Rattle.log_verdict.specs.Steps.{flaw_or, said_if, taken_by, taken_word}
use Rattle.log_verdict.specs.declared.answering.Step.TheVariants as steps
use Rattle.log_verdict.specs.declared.scenes.Scene.{Scene}
use Rattle.slot_laws.proofs.terms.Scenes.{MayBeAlike, Renamings}
use Rattle.slot_laws.proofs.terms.Kin.{Kin, KinCame}
use Rattle.slot_laws.proofs.Asking.{asks_kin}
use Rattle.slot_laws.proofs.Delivering.{delivers_kin}
use Rattle.slot_laws.proofs.Lines.{loses_kin, stays_kin, tells_kin}
use Rattle.slot_laws.proofs.Opening.{opens_kin}
use Rattle.slot_laws.proofs.Rows.{is_open_alike, lookup_alike}
use Rattle.slot_laws.proofs.Settling.{settles_kin}
use Rattle.slot_laws.proofs.Stepping.{came_kin, kin_alike}

-- ---- what stands at a rank, in both

taken_alike : (g : Renamings) (rank : ℕ) (name : Option Word) (o p : Option Seat) → MayBeAlike g rank o p →
    taken_by name p ≡ taken_by name o
taken_alike g rank None o p alike = refl
taken_alike g rank (Some w) None None alike = refl
taken_alike g rank (Some w) None (Some t) alike = absurd alike
taken_alike g rank (Some w) (Some s) None alike = absurd alike
taken_alike g rank (Some w) (Some s) (Some t) alike =
    ap (λ p. cond (is_some (number_of w.text p)) (Some w.column) None) alike.1.near.operations

module _ (g : Renamings) (s t : Scene) (kin : Kin g s t) (rank : ℕ) where
  both : MayBeAlike g rank (seat_at rank s) (seat_at rank t)
  both = lookup_alike g rank s.seats t.seats (kin_alike g s t kin).seats

  there_alike : is_some (seat_at rank t) ≡ is_some (seat_at rank s)
  there_alike = is_open_alike g rank (seat_at rank s) (seat_at rank t) both

  word_alike : (call : Call) → taken_word call (seat_at rank t) ≡ taken_word call (seat_at rank s)
  unfolding taken_word
  word_alike call = taken_alike g rank (posted_name call) (seat_at rank s) (seat_at rank t) both

  calls_seat : (call : Call) (said : Option Rest) (c d : Came) → CallsSeat call rank said s c → CallsSeat call rank said t d → KinCame c d
  calls_seat call said c d (CallsSeat.Taken column e m) (CallsSeat.Taken column' f n) =
      let same : column' ≡ column = let all : Some column' ≡ Some column = sym f ∙ word_alike call ∙ e in cc in
      came_kin m (n ∙ ap (λ k. flawed k NameTaken t) same) (stays_kin g s t (steps.Refused (flaw_at column NameTaken)) kin)
  calls_seat call said c d (CallsSeat.Taken column e m) (CallsSeat.Free f n) =
      let same : Some column ≡ None = sym e ∙ sym (word_alike call) ∙ f in absurd (cc)
  calls_seat call said c d (CallsSeat.Free e m) (CallsSeat.Taken column f n) =
      let same : None ≡ Some column = sym e ∙ sym (word_alike call) ∙ f in absurd (cc)
  calls_seat call said c d (CallsSeat.Free e m) (CallsSeat.Free f n) = asks_kin g s t kin call rank said c d m n

  -- a call that may be made: an interface is opened where there is none
  MayOpen : Call → Type 0
  MayOpen (calls.Open o) = seat_at rank s ≡ None
  MayOpen _ = Unit {0}

  makes : (call : Call) (said : Option Rest) (c d : Came) → MayOpen call → Makes call rank said s c → Makes call rank said t d → KinCame c d
  unfolding Makes MayOpen
  makes (calls.Open o) said c d may m n = opens_kin g s t kin rank o said c d may m n
  makes (calls.Deliver w) said c d may m n = delivers_kin g s t kin w rank said c d m n
  makes call said c d may m n = calls_seat call said c d m n

  unless_lacking : (fills : Bool) (call : Call) (said : Rest) (c d : Came) → MayOpen call → MakesUnlessLacking fills call rank said s c →
      MakesUnlessLacking fills call rank said t d → KinCame c d
  unless_lacking fills call said c d may (MakesUnlessLacking.Lacks e m) (MakesUnlessLacking.Lacks f n) =
      came_kin m n (stays_kin g s t steps.Goes kin)
  unless_lacking fills call said c d may (MakesUnlessLacking.Lacks e m) (MakesUnlessLacking.Has f n) = absurd (cc)
  unless_lacking fills call said c d may (MakesUnlessLacking.Has e m) (MakesUnlessLacking.Lacks f n) = absurd (cc)
  unless_lacking fills call said c d may (MakesUnlessLacking.Has e m) (MakesUnlessLacking.Has f n) =
      makes call (said_if fills said) c d may m n

  -- where no flaw is found, the rank of an interface that is to be opened has none
  not_there : (o : Option Seat) → is_some o ≡ false → o ≡ None
  not_there None e = refl
  not_there (Some x) e = cc

  may_open : (fills : Bool) (call : Call) (said : Rest) → call_flaw fills call said (is_some (seat_at rank s)) ≡ None → MayOpen call
  unfolding call_flaw MayOpen
  may_open fills (calls.Open o) said e =
      not_there (seat_at rank s) (elim (is_some (seat_at rank s)) as
      (λ b. flaw_or (place_flaw true b) (answer_flaw fills said) ≡ None → b ≡ false) [
        | true ↦ λ f. cc
        | false ↦ λ f. refl
      ] e)
  may_open fills call said e = tt

  call_comes : (fills : Bool) (call : Call) (said : Rest) (c d : Came) → CallComes fills call rank said s c →
      CallComes fills call rank said t d →
      KinCame c d
  call_comes fills call said c d (CallComes.Flawed fault e m) (CallComes.Flawed fault' f n) =
      let same : fault' ≡ fault =
      let all : Some fault' ≡ Some fault = sym f ∙ ap (call_flaw fills call said) there_alike ∙ e in cc in
      came_kin m (n ∙ ap (λ k. came t (steps.Refused k)) same) (stays_kin g s t (steps.Refused fault) kin)
  call_comes fills call said c d (CallComes.Flawed fault e m) (CallComes.Flawless f n) =
      let same : Some fault ≡ None = sym e ∙ sym (ap (call_flaw fills call said) there_alike) ∙ f in absurd (cc)
  call_comes fills call said c d (CallComes.Flawless e m) (CallComes.Flawed fault f n) =
      let same : None ≡ Some fault = sym e ∙ sym (ap (call_flaw fills call said) there_alike) ∙ f in absurd (cc)
  call_comes fills call said c d (CallComes.Flawless e m) (CallComes.Flawless f n) =
      unless_lacking fills call said c d (may_open fills call said e) m n

pub line_kin : (g : Renamings) (s t : Scene) → Kin g s t → (fills : Bool) (l : Line) (c d : Came) → LineCame fills l s c →
    LineCame fills l t d →
    KinCame c d
unfolding LineCame
line_kin g s t kin fills lines.Note c d m n =
    came_kin m n (stays_kin g s t steps.Goes kin)
line_kin g s t kin fills (lines.Tells w said) c d m n =
    came_kin m n (tells_kin g s t w said kin)
line_kin g s t kin fills (lines.Loses w) c d m n =
    came_kin m n (loses_kin g s t w kin)
line_kin g s t kin fills lines.Settles c d m n = record {
  renaming = g;
  step = n.1 ∙ sym m.1;
  kin = λ on. settles_kin g s t c.scene d.scene kin m.0 n.0;
}
line_kin g s t kin fills (lines.Calls rank call said) c d m n = call_comes g s t kin rank fills call said c d m n
