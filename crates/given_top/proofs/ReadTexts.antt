-- What holds for the text that was read holds for the bytes of the source.
use Rattle.std.proofs.Common.{◌≡◌, ◌≢◌, ◌≤◌, ℕ, Bool, true, false, cond, nat_lt, List, length, Option, None, refl, sym, subst, ap, ◌∙◌, inl}
use Rattle.std.proofs.Common.{inr}
use Rattle.port_io.specs.Counts.{Rose}
use Rattle.port_io.specs.Ends.{Inflow, Outflow}
use Rattle.given_verdicts.specs.declared.answer.FlawlessText.{FlawlessText}
use Rattle.given_verdicts.specs.declared.answer.GivenAnswer.{GivenAnswer}
use Rattle.given_verdicts.specs.declared.answer.GivenAnswer.TheVariants as answers
use Rattle.given_verdicts.specs.declared.answer.Judged.{Judged}
use Rattle.given_verdicts.specs.declared.answer.Judged.TheVariants.{Answered, Flawless}
use Rattle.given_verdicts.specs.declared.judging.TheConstants.{LONGEST_GIVEN}
use Rattle.given_verdicts.specs.Answers.{judged_text}
use Rattle.given_verdicts.proofs.Answering.{long_judged}
use Rattle.run_text.specs.declared.status.Status.{Status}
use Rattle.run_text.specs.declared.status.Status.TheVariants.{Done, Usage, Refused, ReadFault, WriteFault, NoMemory}
use Rattle.run_text.specs.Ending.{IsTold, MayAnswer, Stands, Written, done, refused}
use Rattle.run_text.proofs.Ended.{leaves}
use Rattle.run_text.proofs.Told.{AreAlike, Told, short-text, told-any}
use Rattle.job_runs.specs.declared.modes.Mode.{Mode}
use Rattle.plan_core.specs.Plan.{Plan}
use Rattle.worlds.specs.World.{WorldState}
use Rattle.given_top.specs.declared.runs.running.GivenRun.{GivenRun}
use Rattle.given_top.specs.runs.GivenRuns.{IsGivenRun}
use Rattle.plan_words.specs.Words.{rank_text}
use Rattle.coll_lang.specs.declared.fault.Refusal.TheVariants.{BadNumber}
use Rattle.plan_top.specs.Owed.{owed_given, status_of}
use Rattle.given_top.specs.declared.words.Purpose.{Purpose}
use Rattle.given_top.specs.declared.words.Purpose.TheVariants.{Run, Tell}
use Rattle.given_top.specs.declared.words.Telling.{Telling}
use Rattle.given_top.specs.declared.words.Telling.TheVariants.{Limits, Explain, ExplainRank, Graph}
use Rattle.verdict_laws.specs.GivenJobs.{flawless_job}
use Rattle.given_top.specs.Ran.{RanText, RunAnswered, owed_for, owed_run, owed_telling}

-- the judgement is that of the bytes, of which only so many were read
pub same_judged : (xs ys : List ℕ) → AreAlike LONGEST_GIVEN xs ys → judged_text xs ≡ judged_text ys
same_judged xs ys (inl same) = ap judged_text same
same_judged xs ys (inr long) = long_judged xs long.0 ∙ sym (long_judged ys long.1)

pub given_owes : (answer : GivenAnswer) → status_of answer ≢ Usage
given_owes answers.Holds = λ is. absurd (cc)
given_owes (answers.Fails n cause) = λ is. absurd (cc)
given_owes (answers.Unknown n name r place) = λ is. absurd (cc)
given_owes (answers.Refused n name) = λ is. absurd (cc)

telling_owes : (telling : Telling) (k : ℕ) (p : Plan) → (owed_telling telling k p).status ≢ Usage
telling_owes Limits k p = λ is. absurd (cc)
telling_owes Explain k p = λ is. absurd (cc)
telling_owes (ExplainRank r) k p = at (nat_lt r p.ranks)
  where
    at : (b : Bool) → (cond b (done (rank_text k p r)) (refused 0 BadNumber)).status ≢ Usage
    at true = λ is. absurd (cc)
    at false = λ is. absurd (cc)
telling_owes Graph k p = λ is. absurd (cc)

for_owes : (purpose : Purpose) (t : FlawlessText) (w : Option WorldState) → (owed_for purpose t w).status ≢ Usage
for_owes (Run mode) t w = λ is. absurd (cc)
for_owes (Tell telling) t w = telling_owes telling t.line t.given.plan

run_owes : (purpose : Purpose) (judged : Judged) (w : Option WorldState) → (owed_run purpose judged w).status ≢ Usage
run_owes purpose (Answered answer) w = given_owes answer
run_owes purpose (Flawless t) w = for_owes purpose t w

-- a text for which a result is owed isn't too long
done_short : (purpose : Purpose) (text : List ℕ) (w : Option WorldState) → (owed_run purpose (judged_text text) w).status ≡ Done
    → length text ≤ LONGEST_GIVEN
done_short purpose text w done =
    short-text LONGEST_GIVEN text
    (λ long.
    let refused : Refused ≡ Done = subst (λ (j : Judged). (owed_run purpose j w).status ≡ Done) (long_judged text long) done in
    absurd (cc))

-- ---- a text that was judged, and perhaps run

pub no_memory : (purpose : Purpose) (judged : Judged) (sink : Outflow) (run : GivenRun)
    → run ≡ record { status = NoMemory; world = None; spent = None } → RanText purpose judged sink sink run
no_memory purpose judged sink run is =
    subst (λ (r : GivenRun). RanText purpose judged sink sink r) (sym is)
    (record {
      written = record { allowed = run_owes purpose judged None; no_read = λ is. absurd (cc); text = refl };
      world = λ is. absurd (cc);
      world_at_fault = λ is. absurd (cc);
      refused = λ is. refl;
      no_memory = λ is. refl;
    })

pub answered : (purpose : Purpose) (answer : GivenAnswer) (sink sink' : Outflow) (status : Status) (run : GivenRun)
    → Written (owed_given answer) sink sink' status → run ≡ record { status = status; world = None; spent = None }
    → RanText purpose (Answered answer) sink sink' run
answered purpose answer sink sink' status run written is =
    subst (λ (r : GivenRun). RanText purpose (Answered answer) sink sink' r) (sym is)
    (record {
      written = written;
      world = λ done. refl;
      world_at_fault = λ fault. refl;
      refused = λ is. refl;
      no_memory = λ is. refl;
    })

pub ran : (mode : Mode) (t : FlawlessText) (sink sink' : Outflow) (run : GivenRun)
    → IsGivenRun mode t.description.shape (flawless_job t) sink sink' run → RanText (Run mode) (Flawless t) sink sink' run
ran mode t sink sink' run is = record {
  written = is.written;
  world = is.world;
  world_at_fault = is.world_at_fault;
  refused = λ e. absurd (let a : MayAnswer Refused Done = subst (λ (s : Status). MayAnswer s Done) e is.written.allowed in cc);
  no_memory = is.no_memory;
}

pub told : (telling : Telling) (t : FlawlessText) (sink sink' : Outflow) (status : Status) (run : GivenRun)
    → Written (owed_telling telling t.line t.given.plan) sink sink' status → run ≡ record { status = status; world = None; spent = None }
    → RanText (Tell telling) (Flawless t) sink sink' run
told telling t sink sink' status run written is =
    subst (λ (r : GivenRun). RanText (Tell telling) (Flawless t) sink sink' r) (sym is)
    (record {
      written = written;
      world = λ done. refl;
      world_at_fault = λ fault. refl;
      refused = λ is. refl;
      no_memory = λ is. refl;
    })

-- ---- the whole

pub rose_at : (sink sink' : Outflow) (status : Status) (text : List ℕ) → Stands status sink sink' text → status ≡ WriteFault
    → Rose sink.faults sink'.faults
rose_at sink sink' Done text stands is = absurd (cc)
rose_at sink sink' Usage text stands is = absurd (cc)
rose_at sink sink' Refused text stands is = absurd (cc)
rose_at sink sink' ReadFault text stands is = absurd (cc)
rose_at sink sink' WriteFault text stands is = stands.rose
rose_at sink sink' NoMemory text stands is = absurd (cc)

pub answered_read : (purpose : Purpose) (text : List ℕ) (source source' : Inflow) (sink sink' : Outflow) (run : GivenRun)
    (told : Told LONGEST_GIVEN source.left source'.left text) → RanText purpose (judged_text text) sink sink' run
    → RunAnswered purpose told.bytes source source' sink sink' run
answered_read purpose text source source' sink sink' run told ran =
    made (subst (λ (j : Judged). RanText purpose j sink sink' run) (sym (same_judged told.bytes text told.alike)) ran)
  where
    made : RanText purpose (judged_text told.bytes) sink sink' run → RunAnswered purpose told.bytes source source' sink sink' run
    made r = record {
      allowed = r.written.allowed;
      text = r.written.text;
      world = r.world;
      world_at_fault = r.world_at_fault;
      refused = r.refused;
      no_memory = r.no_memory;
      read_fault = λ is. absurd (r.written.no_read is);
      write_fault = rose_at sink sink' run.status _ r.written.text;
      rest =
          leaves LONGEST_GIVEN (owed_run purpose (judged_text text) run.world).status run.status text source source' told
          (done_short purpose text run.world) ran.written.allowed;
    }

pub failed : (purpose : Purpose) (source source' : Inflow) (sink : Outflow) (run : GivenRun) → Rose source.faults source'.faults
    → run ≡ record { status = ReadFault; world = None; spent = None }
    → (bytes : List ℕ) × IsTold source.left bytes × RunAnswered purpose bytes source source' sink sink run
failed purpose source source' sink run rose is =
    let any = told-any source.left in (
      any.0,
      any.1,
      subst (λ (r : GivenRun). RunAnswered purpose any.0 source source' sink sink r) (sym is)
          (record {
            allowed = run_owes purpose (judged_text any.0) None;
            text = refl;
            world = λ is. absurd (cc);
            world_at_fault = λ is. absurd (cc);
            refused = λ is. refl;
            no_memory = λ is. refl;
            read_fault = λ is. (rose, refl);
            write_fault = λ is. absurd (cc);
            rest = tt;
          }),
    )

pub without_memory : (purpose : Purpose) (source source' : Inflow) (sink : Outflow) (run : GivenRun)
    → run ≡ record { status = NoMemory; world = None; spent = None }
    → (bytes : List ℕ) × IsTold source.left bytes × RunAnswered purpose bytes source source' sink sink run
without_memory purpose source source' sink run is =
    let any = told-any source.left in (
      any.0,
      any.1,
      subst (λ (r : GivenRun). RunAnswered purpose any.0 source source' sink sink r) (sym is)
          (record {
            allowed = run_owes purpose (judged_text any.0) None;
            text = refl;
            world = λ is. absurd (cc);
            world_at_fault = λ is. absurd (cc);
            refused = λ is. refl;
            no_memory = λ is. refl;
            read_fault = λ is. absurd (cc);
            write_fault = λ is. absurd (cc);
            rest = tt;
          }),
    )
