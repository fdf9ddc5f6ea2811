-- What holds for the text that was read holds for the bytes of the source.
use Rattle.std.proofs.Common.{◌≡◌, ◌≢◌, ℕ, ◌≤◌, ◌<◌, List, length, Option, Some, None, Result, Ok, Err, refl, sym, subst, ap, ◌∙◌}
use Rattle.std.proofs.Common.{inl, inr}
use Rattle.std.proofs.lemmas.Bool.{lt-ltb}
use Rattle.port_io.specs.Counts.{Rose}
use Rattle.port_io.specs.Ends.{Inflow, Outflow}
use Rattle.coll_shape.specs.Outline.{Outline}
use Rattle.coll_lang.specs.declared.fault.Refusal.{Refusal}
use Rattle.coll_lang.specs.declared.fault.Refusal.TheVariants.{TooLong}
use Rattle.coll_lang.specs.declared.whole.TheConstants.{LONGEST_TEXT}
use Rattle.coll_lang.specs.Language.{read}
use Rattle.coll_lang.specs.Program.{Chosen, Program}
use Rattle.schedule_compiler.specs.shapes.Footprint.{Refused as Excessive, refusal}
use Rattle.given_verdicts.specs.declared.answer.GivenAnswer.{GivenAnswer}
use Rattle.given_verdicts.specs.declared.answer.GivenAnswer.TheVariants as answers
use Rattle.given_verdicts.specs.Answers.{answer_of}
use Rattle.given_verdicts.proofs.Answering.{long_judged, long_text}
use Rattle.given_verdicts.specs.declared.answer.Judged.{Judged}
use Rattle.given_verdicts.specs.general.General.{IsAnsweredBy, IsGeneralAnswer}
use Rattle.verdict_laws.specs.Verdicts.{IsRightForAll, IsRightGiven}
use Rattle.run_text.specs.declared.status.Status.{Status}
use Rattle.run_text.specs.declared.status.Status.TheVariants.{Done, Usage, Refused, ReadFault, WriteFault, NoMemory}
use Rattle.run_text.specs.Ending.{Due, IsTold, Written}
use Rattle.run_text.proofs.Ended.{leaves}
use Rattle.run_text.proofs.Told.{AreAlike, Told, short-text, told-any}
use Rattle.plan_top.specs.declared.words.PlanRequest.{PlanRequest}
use Rattle.plan_top.specs.declared.words.PlanRequest.TheVariants.{Draw, Verify, VerifyGiven}
use Rattle.plan_top.specs.Owed.{Answers, IsAnswer, IsOwedFor, IsRight, PlanAnswered, due_described}
use Rattle.plan_top.specs.Owed.{due_plan, longest, owed_drawn, owed_given}
use Rattle.plan_top.specs.Owed.{status_of}
use Rattle.plan_top.specs.Explained.{Beside, TellsOf}

-- ---- texts that are too long

pub too_long : (text : List ℕ) → LONGEST_TEXT < length text → read text ≡ Err (0, TooLong)
unfolding read
too_long text long = rw (lt-ltb LONGEST_TEXT (length text) long) refl

-- the same is owed for all of them
long_owed : (request : PlanRequest) (xs ys : List ℕ) → longest request < length xs → longest request < length ys → (due : Due)
    → IsOwedFor request ys due → IsOwedFor request xs due
long_owed Draw xs ys long other due is = is ∙ ap owed_drawn (too_long ys other ∙ sym (too_long xs long))
long_owed Verify xs ys long other due owed =
    (owed.0, subst (λ (j : Judged). IsAnsweredBy j owed.0) (long_judged ys other ∙ sym (long_judged xs long)) owed.1, owed.2)
long_owed VerifyGiven xs ys long other due is = is ∙ ap owed_given (long_text ys other ∙ sym (long_text xs long))

same_owed : (request : PlanRequest) (xs ys : List ℕ) → AreAlike (longest request) xs ys → (due : Due) → IsOwedFor request ys due
    → IsOwedFor request xs due
same_owed request xs ys (inl same) due is = subst (λ text. IsOwedFor request text due) (sym same) is
same_owed request xs ys (inr long) due is = long_owed request xs ys long.0 long.1 due is

-- they are refused
long_refused : (request : PlanRequest) (text : List ℕ) → longest request < length text → (due : Due) → IsOwedFor request text due
    → due.status ≡ Refused
long_refused Draw text long due is = ap (λ (d : Due). d.status) is ∙ ap (λ r. (owed_drawn r).status) (too_long text long)
long_refused Verify text long due owed =
    let answered = subst (λ (j : Judged). IsAnsweredBy j owed.0) (long_judged text long) owed.1 in
    ap (λ (d : Due). d.status) owed.2 ∙ ap status_of answered
long_refused VerifyGiven text long due is = ap (λ (d : Due). d.status) is ∙ ap (λ a. (owed_given a).status) (long_text text long)

-- so a text for which a result is owed isn't
done_short : (request : PlanRequest) (text : List ℕ) (due : Due) → IsOwedFor request text due → due.status ≡ Done
    → length text ≤ longest request
done_short request text due is done =
    short-text (longest request) text
    (λ long. let refused : Refused ≡ Done = sym (long_refused request text long due is) ∙ done in absurd (cc))

-- ---- a text owes no usage line

pub plan_owes : (o : Outline) (excess : Option Excessive) → (due_plan o excess).status ≢ Usage
plan_owes o None = λ is. absurd (cc)
plan_owes o (Some r) = λ is. absurd (cc)

described_owes : (o : Outline) (choices : Option Chosen) → (due_described o choices).status ≢ Usage
described_owes o None = plan_owes o (refusal o)
described_owes o (Some choices) = λ is. absurd (cc)

pub drawn_owes : (r : Result Program (ℕ × Refusal)) → (owed_drawn r).status ≢ Usage
drawn_owes (Ok d) = described_owes d.shape d.choices
drawn_owes (Err refusal) = λ is. absurd (cc)

given_owes : (answer : GivenAnswer) → status_of answer ≢ Usage
given_owes answers.Holds = λ is. absurd (cc)
given_owes (answers.Fails n cause) = λ is. absurd (cc)
given_owes (answers.Unknown n name r place) = λ is. absurd (cc)
given_owes (answers.Refused n name) = λ is. absurd (cc)

pub given_no_memory : (answer : GivenAnswer) (sink : Outflow) → Written (owed_given answer) sink sink NoMemory
given_no_memory answer sink = record { allowed = given_owes answer; no_read = λ is. absurd (cc); text = refl }

-- ---- what is owed was written

pub written_answers : (request : PlanRequest) (text : List ℕ) (due : Due) → IsOwedFor request text due
    → (sink sink' : Outflow) (status : Status) → Written due sink sink' status → Answers request text sink sink' status
written_answers request text due is sink sink' Done written =
    record { due = due; owed = is; allowed = written.allowed; text = written.text }
written_answers request text due is sink sink' Usage written =
    record { due = due; owed = is; allowed = written.allowed; text = written.text }
written_answers request text due is sink sink' Refused written =
    record { due = due; owed = is; allowed = written.allowed; text = written.text }
written_answers request text due is sink sink' ReadFault written = absurd (written.no_read refl)
written_answers request text due is sink sink' WriteFault written =
    record { due = due; owed = is; allowed = written.allowed; text = written.text }
written_answers request text due is sink sink' NoMemory written = written.text

-- ---- what `holds` tells

-- the laws of verdicts
pub record Laws : Type 0 where
  pub given : (bytes : List ℕ) → answer_of bytes ≡ answers.Holds → IsRightGiven bytes
  pub for_all : (bytes : List ℕ) → IsGeneralAnswer bytes answers.Holds → IsRightForAll bytes

holds_done : (answer : GivenAnswer) → status_of answer ≡ Done → answer ≡ answers.Holds
holds_done answers.Holds is = refl
holds_done (answers.Fails n cause) is = absurd (cc)
holds_done (answers.Unknown n name r place) is = absurd (cc)
holds_done (answers.Refused n name) is = absurd (cc)

right_done : Laws → (request : PlanRequest) (bytes : List ℕ) (due : Due) → IsOwedFor request bytes due → due.status ≡ Done
    → IsRight request bytes
right_done laws Draw bytes due is done = tt
right_done laws Verify bytes due is done =
    laws.for_all bytes
    (subst (IsGeneralAnswer bytes) (holds_done is.0 (sym (ap (λ (d : Due). d.status) is.2) ∙ done)) is.1)
right_done laws VerifyGiven bytes due is done =
    laws.given bytes (holds_done (answer_of bytes) (sym (ap (λ (d : Due). d.status) is) ∙ done))

-- ---- the answers

for_told : (request : PlanRequest) (bytes text : List ℕ) → AreAlike (longest request) bytes text → (sink sink' : Outflow)
    (status : Status) → IsAnswer request text sink sink' status → IsAnswer request bytes sink sink' status
for_told request bytes text alike sink sink' status a =
    record { due = a.due; owed = same_owed request bytes text alike a.due a.owed; allowed = a.allowed; text = a.text }

pub answered_read : Laws → (request : PlanRequest) (text : List ℕ) (source source' : Inflow) (sink sink' : Outflow) (status : Status)
    (told : Told (longest request) source.left source'.left text) → Answers request text sink sink' status
    → status ≢ ReadFault → PlanAnswered request told.bytes source source' sink sink' status
answered_read laws request text source source' sink sink' Done told a other = record {
  answer = for_told request told.bytes text told.alike sink sink' Done a;
  right = λ is. right_done laws request told.bytes a.due (same_owed request told.bytes text told.alike a.due a.owed) a.allowed;
  read_fault = λ is. absurd (other is);
  write_fault = λ is. absurd (cc);
  rest = leaves (longest request) a.due.status Done text source source' told (done_short request text a.due a.owed) a.allowed;
}
answered_read laws request text source source' sink sink' Usage told a other = record {
  answer = for_told request told.bytes text told.alike sink sink' Usage a;
  right = λ is. absurd (cc);
  read_fault = λ is. absurd (other is);
  write_fault = λ is. absurd (cc);
  rest = leaves (longest request) a.due.status Usage text source source' told (done_short request text a.due a.owed) a.allowed;
}
answered_read laws request text source source' sink sink' Refused told a other = record {
  answer = for_told request told.bytes text told.alike sink sink' Refused a;
  right = λ is. absurd (cc);
  read_fault = λ is. absurd (other is);
  write_fault = λ is. absurd (cc);
  rest = leaves (longest request) a.due.status Refused text source source' told (done_short request text a.due a.owed) a.allowed;
}
answered_read laws request text source source' sink sink' ReadFault told a other = absurd (other refl)
answered_read laws request text source source' sink sink' WriteFault told a other = record {
  answer = for_told request told.bytes text told.alike sink sink' WriteFault a;
  right = λ is. absurd (cc);
  read_fault = λ is. absurd (other is);
  write_fault = λ is. a.text.rose;
  rest = leaves (longest request) a.due.status WriteFault text source source' told (done_short request text a.due a.owed) a.allowed;
}
answered_read laws request text source source' sink sink' NoMemory told a other = record {
  answer = a;
  right = λ is. absurd (cc);
  read_fault = λ is. absurd (other is);
  write_fault = λ is. absurd (cc);
  rest = tt;
}

pub answered_failed : (request : PlanRequest) (source source' : Inflow) (sink : Outflow) (told : List ℕ)
    → Rose source.faults source'.faults → (bytes : List ℕ) × IsTold source.left bytes
    × PlanAnswered request bytes source source' sink sink ReadFault × TellsOf (Beside request bytes sink sink) ReadFault told
answered_failed request source source' sink told rose =
    let any = told-any source.left in (
      any.0,
      any.1,
      record {
        answer = refl;
        right = λ is. absurd (cc);
        read_fault = λ is. rose;
        write_fault = λ is. absurd (cc);
        rest = tt;
      },
      tt,
    )

pub answered_no_memory : (request : PlanRequest) (source source' : Inflow) (sink : Outflow) (told : List ℕ)
    → (bytes : List ℕ) × IsTold source.left bytes × PlanAnswered request bytes source source' sink sink NoMemory
    × TellsOf (Beside request bytes sink sink) NoMemory told
answered_no_memory request source source' sink told =
    let any = told-any source.left in (
      any.0,
      any.1,
      record {
        answer = refl;
        right = λ is. absurd (cc);
        read_fault = λ is. absurd (cc);
        write_fault = λ is. absurd (cc);
        rest = tt;
      },
      tt,
    )
