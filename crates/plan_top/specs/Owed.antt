-- What is owed for a text that is drawn or judged.
use Rattle.std.specs.Prelude.{◌≡◌, ℕ, ◌+◌, List, Option, Some, None, Result, Ok, Err, drop}
use Rattle.coll_shape.specs.Outline.{Outline}
use Rattle.coll_lang.specs.declared.fault.Refusal.{Refusal}
use Rattle.coll_lang.specs.declared.fault.Refusal.TheVariants.{OneThread, TooLarge, TooMany}
use Rattle.coll_lang.specs.declared.whole.TheConstants.{LONGEST_TEXT}
use Rattle.coll_lang.specs.Language.{read}
use Rattle.coll_lang.specs.Program.{Chosen, Program}
use Rattle.port_io.specs.Counts.{Rose}
use Rattle.port_io.specs.Ends.{Inflow, Outflow}
use Rattle.schedule_compiler.specs.shapes.Footprint.{Excess, Refused as Excessive, refusal}
use Rattle.schedule_compiler.specs.shapes.Footprint.Excess.{Links, Bytes}
use Rattle.marked_plans.specs.Marks.{marked_of}
use Rattle.plan_top.specs.Texts.{marked_text}
use Rattle.given_verdicts.specs.declared.answer.GivenAnswer.{GivenAnswer}
use Rattle.given_verdicts.specs.declared.answer.GivenAnswer.TheVariants as answers
use Rattle.given_verdicts.specs.declared.judging.TheConstants.{LONGEST_GIVEN}
use Rattle.given_verdicts.specs.Answers.{answer_of}
use Rattle.given_verdicts.specs.Saying.{answer_line}
use Rattle.given_verdicts.specs.general.General.{IsGeneralAnswer}
use Rattle.run_text.specs.declared.status.Status.{Status}
use Rattle.run_text.specs.declared.status.Status.TheVariants.{Done, Usage, Refused, ReadFault, WriteFault, NoMemory}
use Rattle.run_text.specs.Ending.{Due, Leaves, MayAnswer, Stands, done, refused}
use Rattle.run_text.specs.Refused.{step_line}
use Rattle.verdict_laws.specs.Verdicts.{IsRightForAll, IsRightGiven}
use Rattle.plan_top.specs.declared.words.PlanRequest.{PlanRequest}
use Rattle.plan_top.specs.declared.words.PlanRequest.TheVariants.{Draw, Verify, VerifyGiven}

-- ---- a plan that is drawn

-- too many links, too many bytes
abbrev pub excess_name : Excess → Refusal
excess_name Links = TooMany
excess_name Bytes = TooLarge

-- the shape's own plan with the lines that name its cells, unless it is too large, from a step on
abbrev pub due_plan : Outline → Option Excessive → Due
due_plan o None = done (marked_text o.buffers (marked_of o))
due_plan o (Some r) = refused (step_line o r.step) (excess_name r.name)

-- a choice text has no plan
abbrev pub due_described : Outline → Option Chosen → Due
due_described o None = due_plan o (refusal o)
due_described o (Some choices) = refused 0 OneThread

-- of what is read as a description, or its first refusal with its line
abbrev pub owed_drawn : Result Program (ℕ × Refusal) → Due
owed_drawn (Ok d) = due_described d.shape d.choices
owed_drawn (Err refusal) = refused refusal.0 refusal.1

-- ---- a plan that is judged

-- what doesn't hold ends as a text that is refused does
abbrev pub status_of : GivenAnswer → Status
status_of answers.Holds = Done
status_of (answers.Fails n cause) = Refused
status_of (answers.Unknown n name r place) = Refused
status_of (answers.Refused n name) = Refused

abbrev pub owed_given : GivenAnswer → Due
owed_given answer = record { status = status_of answer; text = answer_line answer }

-- ---- all of it

-- this is owed for a text
abbrev pub IsOwedFor : PlanRequest → List ℕ → Due → Type 0
IsOwedFor Draw bytes due = due ≡ owed_drawn (read bytes)
IsOwedFor Verify bytes due = (answer : GivenAnswer) × IsGeneralAnswer bytes answer × (due ≡ owed_given answer)
IsOwedFor VerifyGiven bytes due = due ≡ owed_given (answer_of bytes)

-- the most bytes of a text that is read
abbrev pub longest : PlanRequest → ℕ
longest Draw = LONGEST_TEXT
longest Verify = LONGEST_GIVEN
longest VerifyGiven = LONGEST_GIVEN

-- What is owed was answered with this status: it is the status that is owed and the whole text stands, or the sink failed.
pub record IsAnswer (request : PlanRequest) (bytes : List ℕ) (sink sink' : Outflow) (status : Status) : Type 0 where
  pub due : Due
  pub owed : IsOwedFor request bytes due
  pub allowed : MayAnswer status due.status
  pub text : Stands status sink sink' due.text

-- nothing is answered where nothing could be read, or where there was no memory
abbrev pub Answers : PlanRequest → List ℕ → Outflow → Outflow → Status → Type 0
Answers request bytes sink sink' Done = IsAnswer request bytes sink sink' Done
Answers request bytes sink sink' Usage = IsAnswer request bytes sink sink' Usage
Answers request bytes sink sink' Refused = IsAnswer request bytes sink sink' Refused
Answers request bytes sink sink' ReadFault = sink' ≡ sink
Answers request bytes sink sink' WriteFault = IsAnswer request bytes sink sink' WriteFault
Answers request bytes sink sink' NoMemory = sink' ≡ sink

-- what `holds` tells of a text: that its plan is right for all inputs of its description's shape, or for those of the description
abbrev pub IsRight : PlanRequest → List ℕ → Type 0
IsRight Draw bytes = Unit {0}
IsRight Verify bytes = IsRightForAll bytes
IsRight VerifyGiven bytes = IsRightGiven bytes

-- All that holds after a call with this request, the source having these bytes: of them one more than the longest text is read.
pub record PlanAnswered (request : PlanRequest) (bytes : List ℕ) (source source' : Inflow) (sink sink' : Outflow)
    (status : Status) : Type 0 where
  pub answer : Answers request bytes sink sink' status
  pub right : status ≡ Done → IsRight request bytes
  pub read_fault : status ≡ ReadFault → Rose source.faults source'.faults
  pub write_fault : status ≡ WriteFault → Rose sink.faults sink'.faults
  pub rest : Leaves status source' (drop (longest request + 1) bytes)
