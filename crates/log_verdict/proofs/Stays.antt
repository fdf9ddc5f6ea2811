-- A line that is refused or differs leaves the log as it was, where answers are written.
use Rattle.std.proofs.Common.{◌≡◌, ℕ, List, Bool, true, false, cond, codes, Option, Some, None, refl, sym, ap, ◌∙◌, subst}
use Rattle.std.specs.Str.{bytes_eq}
use Rattle.coll_text.specs.Text.{words}
use Rattle.log_words.specs.Words.{Word, Rest, is_last}
use Rattle.log_answers.specs.names.Flights.{age_of, flight_at}
use Rattle.log_answers.specs.declared.names.flights.Flight.{Flight}
use Rattle.log_words.specs.declared.call_fields.said.Opening.{Opening}
use Rattle.log_lines.specs.declared.calls.Call.{Call}
use Rattle.log_lines.specs.declared.calls.Call.TheVariants as said
use Rattle.log_lines.specs.declared.lines.Line.{Line}
use Rattle.log_lines.specs.declared.lines.Line.TheVariants as lines
use Rattle.log_answers.specs.declared.owed.Owed.TheVariants as owed
use Rattle.log_seats.specs.Answers.{After}
use Rattle.log_verdict.specs.Answering.{Came, answered, came, told_step}
use Rattle.log_verdict.specs.Judging.{BodyTook, LineTook, ShortTook, StageTook, StepTook, Took, Unchanged, became, heads, next_line}
use Rattle.log_verdict.specs.Judging.{ranks_of, ranks_taken, too_long, took}
use Rattle.log_verdict.specs.Judging.BodyTook.{Long, Short}
use Rattle.log_verdict.specs.Judging.ShortTook.{Flawed as FlawedLine, Over, Reads}
use Rattle.log_verdict.specs.Steps.{CallComes, CallsSeat, Delivers, DeliversInTurn, LineCame, Makes, Opens, goes, loses, tells}
use Rattle.log_verdict.specs.Steps.{loses_aged, tells_aged, tells_flight}
use Rattle.log_verdict.specs.Steps.CallComes.{Flawed, Flawless}
use Rattle.log_verdict.specs.Steps.CallsSeat.{Free, Taken as TakenWord}
use Rattle.log_verdict.specs.Steps.Delivers.{NoMessage, Sent}
use Rattle.log_verdict.specs.Steps.DeliversAged.{Early, InTurn}
use Rattle.log_verdict.specs.Steps.DeliversInTurn.{Arrives, Stays}
use Rattle.log_verdict.specs.Steps.MakesUnlessLacking.{Has, Lacks}
use Rattle.log_verdict.specs.Steps.Opens.{NoFit, NoRank, Opened}
use Rattle.log_verdict.specs.declared.answering.Step.{Step}
use Rattle.log_verdict.specs.declared.answering.Step.TheVariants as steps
use Rattle.log_verdict.specs.declared.judge.Judge.{Judge}
use Rattle.log_verdict.specs.declared.judge.Stage.{Stage}
use Rattle.log_verdict.specs.declared.judge.Stage.TheVariants.{Body, Ended, Header, Ranks}
use Rattle.log_verdict.specs.declared.judge.Taken.{Taken}
use Rattle.log_verdict.specs.declared.judge.Taken.TheVariants as takes
use Rattle.log_verdict.specs.declared.judge.Verdict.{Verdict}
use Rattle.log_verdict.specs.declared.scenes.Scene.{Scene}

-- a step after which a log doesn't go on
abbrev Stops : Step → Type 0
Stops steps.Goes = ⊥
Stops (steps.Owes text) = ⊥
Stops (steps.Refused fault) = Unit {0}
Stops (steps.Differs column text due) = Unit {0}

stops_as : (c d : Came) → c ≡ d → Stops c.step → Stops d.step
stops_as c d e h = subst (λ (x : Came). Stops x.step) e h

-- it came of this scene
kept : (c : Came) (s : Scene) (step : Step) → c ≡ came s step → c.scene ≡ s
kept c s step e = ap (λ (x : Came). x.scene) e

by_test : (b : Bool) (x y : Came) (s : Scene) → x.scene ≡ s → y.scene ≡ s → (cond b x y).scene ≡ s
by_test true x y s e f = e
by_test false x y s e f = f

flight_kept : (f : Option Flight) (w : Word) (r : Rest) (s : Scene) → (tells_flight f w r s).scene ≡ s
flight_kept None w r s = refl
flight_kept (Some f) w r s =
    by_test (is_last r.words) (goes s) (came s (told_step s f.message.bytes (owed.Told f.message.header) r)) s refl refl

aged_kept : (o : Option ℕ) (w : Word) (r : Rest) (s : Scene) → (tells_aged o w r s).scene ≡ s
aged_kept None w r s = refl
aged_kept (Some age) w r s = flight_kept (flight_at age s.flights) w r s

tells_kept : (w : Word) (r : Rest) (s : Scene) → (tells w r s).scene ≡ s
unfolding tells
tells_kept w r s = aged_kept (age_of w.text s.flights) w r s

lost_kept : (o : Option ℕ) (w : Word) (s : Scene) → Stops (loses_aged o w s).step → (loses_aged o w s).scene ≡ s
lost_kept None w s h = refl
lost_kept (Some age) w s h = absurd h

loses_kept : (w : Word) (s : Scene) → Stops (loses w s).step → (loses w s).scene ≡ s
unfolding loses
loses_kept w s h = lost_kept (age_of w.text s.flights) w s h

-- an answer that is written stops nothing
writes : (a : After) (others : Scene) → Stops (answered a None others).step → ⊥
unfolding answered
writes a others h = h

open_kept : (rank : ℕ) (o : Opening) (s : Scene) (c : Came) → Opens rank o None s c → Stops c.step → c.scene ≡ s
open_kept rank o s c (Opened low fit e) h = absurd (stops_as c _ e h)
open_kept rank o s c (NoRank high e) h = kept c s _ e
open_kept rank o s c (NoFit low unfit e) h = kept c s _ e

turn_kept : (age rank : ℕ) (s : Scene) (c : Came) → DeliversInTurn age rank None s c → Stops c.step → ⊥
turn_kept age rank s c (Stays is stays) h = writes _ _ (stops_as c _ stays.came h)
turn_kept age rank s c (Arrives is arrives) h = writes _ _ (stops_as c _ arrives.came h)

deliver_kept : (w : Word) (rank : ℕ) (s : Scene) (c : Came) → Delivers w rank None s c → Stops c.step → c.scene ≡ s
deliver_kept w rank s c (NoMessage is e) h = kept c s _ e
deliver_kept w rank s c (Sent age is (Early first early e)) h = kept c s _ e
deliver_kept w rank s c (Sent age is (InTurn none turn)) h = absurd (turn_kept age rank s c turn h)

seat_kept : (call : Call) (rank : ℕ) (s : Scene) (c : Came) → CallsSeat call rank None s c → Stops c.step → c.scene ≡ s
seat_kept call rank s c (TakenWord column is e) h = kept c s _ e
seat_kept call rank s c (Free is asks) h = absurd (writes _ _ (stops_as c _ asks.came h))

make_kept : (call : Call) (rank : ℕ) (s : Scene) (c : Came) → Makes call rank None s c → Stops c.step → c.scene ≡ s
unfolding Makes
make_kept (said.Open x0) rank s c m h = open_kept rank x0 s c m h
make_kept (said.Deliver x0) rank s c m h = deliver_kept x0 rank s c m h
make_kept call rank s c m h = seat_kept call rank s c m h

call_kept : (call : Call) (rank : ℕ) (r : Rest) (s : Scene) (c : Came) → CallComes true call rank r s c → Stops c.step → c.scene ≡ s
call_kept call rank r s c (Flawed fault is e) h = kept c s _ e
call_kept call rank r s c (Flawless none (Lacks is e)) h = kept c s _ e
call_kept call rank r s c (Flawless none (Has is made)) h = make_kept call rank s c made h

line_kept : (l : Line) (s : Scene) (c : Came) → LineCame true l s c → Stops c.step → c.scene ≡ s
unfolding LineCame
line_kept lines.Note s c e h = kept c s _ e
line_kept (lines.Tells w r) s c e h = ap (λ (x : Came). x.scene) e ∙ tells_kept w r s
line_kept (lines.Loses w) s c e h = ap (λ (x : Came). x.scene) e ∙ loses_kept w s (stops_as c _ e h)
line_kept lines.Settles s c e h = absurd (subst Stops e.1 h)
line_kept (lines.Calls rank call r) s c e h = call_kept call rank r s c e h

-- ---- the judge

-- a verdict comes of such a step alone
became_kept : (step : Step) (l : Line) (j : Judge) (v : Verdict) → (became step l j).taken ≡ takes.Ends v
    → Stops step × ((became step l j).judge ≡ j)
became_kept steps.Goes l j v e = absurd cc
became_kept (steps.Owes text) l j v e = absurd cc
became_kept (steps.Refused fault) l j v e = (tt, refl)
became_kept (steps.Differs column text due) l j v e = (tt, refl)

module _ (j : Judge) (v : Verdict) where
  -- where it is a verdict, the judge is this one
  abbrev Keeps : Took → Type 0
  Keeps t = t.taken ≡ takes.Ends v → t.judge ≡ j

  on : (t u : Took) → t ≡ u → Keeps u → Keeps t
  on t u e h = subst Keeps (sym e) h

  either : (b : Bool) (x y : Took) → Keeps x → Keeps y → Keeps (cond b x y)
  either true x y h k = h
  either false x y h k = k

  heads_kept : (line : List ℕ) → Keeps (heads j line)
  heads_kept line =
      let goes : Keeps (took (record j { stage = Ranks }) takes.Goes) = λ (e : takes.Goes ≡ takes.Ends v). absurd cc in
      either (too_long line) _ _ (λ e. refl) (either (bytes_eq line (codes "ni 1")) _ _ goes (λ e. refl))

  ranks_kept : (o : Option ℕ) → Keeps (ranks_taken o j)
  ranks_kept None = λ e. refl
  ranks_kept (Some n) = λ (e : takes.Goes ≡ takes.Ends v). absurd cc

  step_kept : (l : Line) (t : Took) → j.fills ≡ true → StepTook l j t → Keeps t
  step_kept l t fills h =
      let c = h.came in
      on t _ h.is
      (λ e.
      let b = became_kept c.step l (record j { scene = c.scene }) v e in
      let same : c.scene ≡ j.scene = line_kept l j.scene c (subst (λ (f : Bool). LineCame f l j.scene c) fills h.comes) b.0 in
      b.1 ∙ ap (λ (s : Scene). record j { scene = s }) same)

  short_kept : (line : List ℕ) (t : Took) → j.fills ≡ true → ShortTook j line t → Keeps t
  short_kept line t fills (Over is e) = on t _ e (λ (e : takes.Goes ≡ takes.Ends v). absurd cc)
  short_kept line t fills (FlawedLine fault is flaw e) = on t _ e (λ e. refl)
  short_kept line t fills (Reads l is reads h) = step_kept l t fills h

  body_kept : (line : List ℕ) (t : Took) → j.fills ≡ true → BodyTook j line t → Keeps t
  body_kept line t fills (Long is e) = on t _ e (λ e. refl)
  body_kept line t fills (Short is h) = short_kept line t fills h

  stage_kept : (stage : Stage) (line : List ℕ) (t : Took) → j.fills ≡ true → StageTook stage j line t → Keeps t
  stage_kept Header line t fills h = on t _ h (heads_kept line)
  stage_kept Ranks line t fills h = on t _ h (either (too_long line) _ _ (λ e. refl) (ranks_kept (ranks_of (words line))))
  stage_kept Body line t fills h = body_kept line t fills h
  stage_kept Ended line t fills h = on t _ h (λ e. refl)

pub unchanged : (j k : Judge) (line : List ℕ) (t : Taken) → LineTook (next_line j) line (took k t) → Unchanged j t k
unfolding LineTook
unchanged j k line takes.Goes h = tt
unchanged j k line (takes.Owes text) h = tt
unchanged j k line (takes.Ends v) h = λ fills. stage_kept (next_line j) v j.stage line (took k (takes.Ends v)) fills h refl
