-- What is told beside what a form answers.
use Rattle.std.proofs.Common.{◌≡◌, ◌≢◌, ◌≤◌, ◌<◌, ℕ, true, false, List, length, take, None, Result, Ok, Err, refl, sym, subst}
use Rattle.std.proofs.Common.{inl, inr, eq-eqb}
use Rattle.std.proofs.lemmas.Bool.{le-ltb, lt-ltb, ne_eqb}
use Rattle.ptl_types.specs.declared.steps.LocalStep.{LocalStep}
use Rattle.port_io.specs.Ends.{Outflow}
use Rattle.coll_lang.specs.declared.fault.Refusal.{Refusal}
use Rattle.coll_lang.specs.Program.{Program}
use Rattle.order_lines.specs.Check.{read_check}
use Rattle.plan_core.specs.Plan.{Plan}
use Rattle.cuts.specs.declared.orders.Verdict.{Verdict}
use Rattle.given_verdicts.specs.declared.answer.FlawlessText.{FlawlessText}
use Rattle.given_verdicts.specs.declared.answer.GivenAnswer.{GivenAnswer}
use Rattle.given_verdicts.specs.declared.answer.Judged.{Judged}
use Rattle.given_verdicts.specs.declared.answer.Judged.TheVariants.{Answered, Flawless}
use Rattle.given_verdicts.specs.declared.judging.TheConstants.{LONGEST_GIVEN}
use Rattle.given_verdicts.specs.Answers.{judged_text}
use Rattle.given_verdicts.proofs.Answering.{long_judged}
use Rattle.run_text.specs.declared.status.Status.{Status}
use Rattle.run_text.specs.declared.status.Status.TheVariants.{Refused, Usage}
use Rattle.run_text.specs.Ending.{Written}
use Rattle.run_text.specs.Putting.{Ends}
use Rattle.run_text.proofs.Told.{AreAlike}
use Rattle.text_notes.specs.Places.{IsNamed}
use Rattle.plan_top.specs.Explained.{TellsOf}
use Rattle.plan_top.specs.notes.Notes.{Notes}
use Rattle.plan_top.proofs.Telling.{long_notes, refused_long, tells, tells_weaker}
use Rattle.given_top.specs.declared.checking.TheConstants.{LONGEST_PLAN_CHECK}
use Rattle.given_top.specs.declared.runs.running.GivenRun.{GivenRun}
use Rattle.given_top.specs.declared.words.Telling.TheVariants.{ExplainRank}
use Rattle.given_top.specs.Checked.{owed_verdict, plan_end}
use Rattle.given_top.specs.Usage.{owed_usage}
use Rattle.given_top.specs.Explained.{BesideCheck, BesideGiven, BesideLists, BesideLong, BesideOn, BesideOrders, BesideTelling, BesideTimes}
use Rattle.given_top.specs.Explained.{BesideVerdict, IsOrderNote, NotesVerdict, no_rank}

-- ---- a plan that is run or told of

-- of a text that has a fault, or hasn't
pub answered_tells : (P : FlawlessText → List ℕ → Type 0) (bytes : List ℕ) (answer : GivenAnswer) (status : Status) (told : List ℕ)
    → judged_text bytes ≡ Answered answer → (status ≡ Refused → Notes bytes answer told)
    → TellsOf (BesideGiven P bytes (judged_text bytes)) status told
answered_tells P bytes answer status told is notes =
    tells (BesideGiven P bytes (judged_text bytes)) status told
    (λ refused. subst (λ j. BesideGiven P bytes j told) (sym is) (notes refused))

pub flawless_tells : (P : FlawlessText → List ℕ → Type 0) (bytes : List ℕ) (t : FlawlessText) (status : Status) (told : List ℕ)
    → judged_text bytes ≡ Flawless t → TellsOf (P t) status told → TellsOf (BesideGiven P bytes (judged_text bytes)) status told
flawless_tells P bytes t status told is tells =
    tells_weaker (P t) (BesideGiven P bytes (judged_text bytes)) status told
    (λ beside. subst (λ j. BesideGiven P bytes j told) (sym is) beside) tells

-- of the text that was read, and so of the bytes of the source
alike_given : (P : FlawlessText → List ℕ → Type 0) (xs ys : List ℕ) → AreAlike LONGEST_GIVEN xs ys → (text : List ℕ)
    → BesideGiven P ys (judged_text ys) text → BesideGiven P xs (judged_text xs) text
alike_given P xs ys (inl same) text beside = subst (λ v. BesideGiven P v (judged_text v) text) (sym same) beside
alike_given P xs ys (inr long) text beside =
    subst (λ j. BesideGiven P xs j text) (sym (long_judged xs long.0))
    (long_notes xs ys text refused_long refl (subst (λ j. BesideGiven P ys j text) (long_judged ys long.1) beside))

pub given_tells : (P : FlawlessText → List ℕ → Type 0) (xs ys : List ℕ) → AreAlike LONGEST_GIVEN xs ys → (status : Status)
    (told : List ℕ) → TellsOf (BesideGiven P ys (judged_text ys)) status told → TellsOf (BesideGiven P xs (judged_text xs)) status told
given_tells P xs ys alike status told is =
    tells_weaker (BesideGiven P ys (judged_text ys)) (BesideGiven P xs (judged_text xs)) status told (alike_given P xs ys alike told) is

-- all messages of a plan take too long
pub times_tell : (t : FlawlessText) (status : Status) (told : List ℕ) → BesideTimes t told → TellsOf (BesideTimes t) status told
times_tell t status told is = tells (BesideTimes t) status told (λ refused. is)

-- nothing where nothing was read
pub unread_tells : (P : List ℕ → Type 0) (status : Status) (run : GivenRun) (told : List ℕ)
    → run ≡ record { status = status; world = None; spent = None } → TellsOf P status told → TellsOf P run.status told
unread_tells P status run told is tells = subst (λ (r : GivenRun). TellsOf P r.status told) (sym is) tells

-- what isn't refused is told nothing of
pub answer_tells : (P : List ℕ → Type 0) (status : Status) (told : List ℕ) → status ≢ Refused → TellsOf P status told
answer_tells P status told answered = tells P status told (λ refused. absurd (answered refused))

-- the plan doesn't have a rank
pub rank_tells : (r : ℕ) (p : Plan) (status : Status) (told : List ℕ) → told ≡ no_rank r p
    → TellsOf (BesideTelling (ExplainRank r) p) status told
rank_tells r p status told is = tells (BesideTelling (ExplainRank r) p) status told (λ refused. is)

-- ---- a check of orders

pub verdict_tells : (orders : List ℕ) (lines : ℕ) (verdict : Verdict) (sink sink' : Outflow) (status : Status) (told : List ℕ)
    → Ends sink sink' (owed_verdict verdict).text → NotesVerdict orders lines verdict told
    → TellsOf (BesideVerdict orders lines sink sink') status told
verdict_tells orders lines verdict sink sink' status told ends notes =
    tells (BesideVerdict orders lines sink sink') status told (λ refused. (verdict, ends, notes))

-- order lines that are refused
pub refused_tells : (orders : List ℕ) (lines ranks : ℕ) (sink sink' : Outflow) (r : Result (Program × List (List LocalStep)) (ℕ × Refusal))
    (n : ℕ) (name : Refusal) (status : Status) (told : List ℕ) → r ≡ Err (n, name)
    → IsOrderNote orders lines (λ k. k ≡ n) (IsNamed name) told → TellsOf (BesideOrders orders lines ranks sink sink' r) status told
refused_tells orders lines ranks sink sink' r n name status told is note =
    tells (BesideOrders orders lines ranks sink sink' r) status told
    (λ refused. subst (λ x. BesideOrders orders lines ranks sink sink' x told) (sym is) note)

-- order lines that were read, one a rank
pub orders_tells : (orders : List ℕ) (lines ranks : ℕ) (d : Program) (steps : List (List LocalStep)) (sink sink' : Outflow)
    (status : Status) (told : List ℕ) → read_check orders ≡ Ok (d, steps) → length steps ≡ ranks
    → TellsOf (BesideVerdict orders lines sink sink') status told
    → TellsOf (BesideOrders orders lines ranks sink sink' (read_check orders)) status told
orders_tells orders lines ranks d steps sink sink' status told read count is =
    tells_weaker (BesideVerdict orders lines sink sink') (BesideOrders orders lines ranks sink sink' (read_check orders)) status told
    (λ beside.
    subst (λ (r : Result (Program × List (List LocalStep)) (ℕ × Refusal)). BesideOrders orders lines ranks sink sink' r told) (sym read)
    (subst (λ b. BesideLists b orders lines sink sink' told) (sym (eq-eqb _ _ count)) beside)) is

-- or aren't
pub unlike_tells : (orders : List ℕ) (lines ranks : ℕ) (d : Program) (steps : List (List LocalStep)) (sink sink' : Outflow)
    (status : Status) (told : List ℕ) → read_check orders ≡ Ok (d, steps) → length steps ≢ ranks
    → BesideLists false orders lines sink sink' told
    → TellsOf (BesideOrders orders lines ranks sink sink' (read_check orders)) status told
unlike_tells orders lines ranks d steps sink sink' status told read unlike is =
    tells (BesideOrders orders lines ranks sink sink' (read_check orders)) status told
    (λ refused.
    subst (λ (r : Result (Program × List (List LocalStep)) (ℕ × Refusal)). BesideOrders orders lines ranks sink sink' r told) (sym read)
    (subst (λ b. BesideLists b orders lines sink sink' told) (sym (ne_eqb _ _ unlike)) is))

pub long_tells : (text : List ℕ) (sink sink' : Outflow) (status : Status) (told : List ℕ) → LONGEST_PLAN_CHECK < length text
    → BesideLong true text sink sink' told → TellsOf (BesideCheck text sink sink') status told
long_tells text sink sink' status told long is =
    tells (BesideCheck text sink sink') status told
    (λ refused. subst (λ b. BesideLong b text sink sink' told) (sym (lt-ltb LONGEST_PLAN_CHECK (length text) long)) is)

pub short_tells : (text : List ℕ) (j : Judged) (sink sink' : Outflow) (status : Status) (told : List ℕ)
    → length text ≤ LONGEST_PLAN_CHECK → judged_text (take (plan_end text) text) ≡ j → TellsOf (BesideOn text sink sink' j) status told
    → TellsOf (BesideCheck text sink sink') status told
short_tells text j sink sink' status told short same is =
    tells_weaker (BesideOn text sink sink' j) (BesideCheck text sink sink') status told
    (λ beside.
    subst (λ b. BesideLong b text sink sink' told) (sym (le-ltb LONGEST_PLAN_CHECK (length text) short))
    (subst (λ k. BesideOn text sink sink' k told) (sym same) beside)) is

pub part_tells : (text : List ℕ) (end : ℕ) (answer : GivenAnswer) (sink sink' : Outflow) (status : Status) (told : List ℕ)
    → end ≡ plan_end text → (status ≡ Refused → Notes (take end text) answer told)
    → TellsOf (BesideOn text sink sink' (Answered answer)) status told
part_tells text end answer sink sink' status told at notes =
    tells (BesideOn text sink sink' (Answered answer)) status told
    (λ refused. subst (λ n. Notes (take n text) answer told) at (notes refused))

alike_check : (xs ys : List ℕ) → AreAlike LONGEST_PLAN_CHECK xs ys → (sink sink' : Outflow) (text : List ℕ)
    → BesideCheck ys sink sink' text → BesideCheck xs sink sink' text
alike_check xs ys (inl same) sink sink' text beside = subst (λ v. BesideCheck v sink sink' text) (sym same) beside
alike_check xs ys (inr long) sink sink' text beside =
    subst (λ b. BesideLong b xs sink sink' text) (sym (lt-ltb LONGEST_PLAN_CHECK (length xs) long.0))
    (subst (λ b. BesideLong b ys sink sink' text) (lt-ltb LONGEST_PLAN_CHECK (length ys) long.1) beside)

pub check_tells : (xs ys : List ℕ) → AreAlike LONGEST_PLAN_CHECK xs ys → (sink sink' : Outflow) (status : Status) (told : List ℕ)
    → TellsOf (BesideCheck ys sink sink') status told → TellsOf (BesideCheck xs sink sink') status told
check_tells xs ys alike sink sink' status told is =
    tells_weaker (BesideCheck ys sink sink') (BesideCheck xs sink sink') status told (alike_check xs ys alike sink sink' told) is

-- ---- words that ask for nothing

-- are refused nothing
pub usage_tells : (sink sink' : Outflow) (status : Status) (told : List ℕ) → Written owed_usage sink sink' status
    → TellsOf (λ text. ⊥) status told
usage_tells sink sink' status told written =
    tells (λ text. ⊥) status told
    (λ is. absurd (let e : Usage ≡ Refused = (subst (Written owed_usage sink sink') is written).allowed in cc))
