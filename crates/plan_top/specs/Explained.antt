-- What is said on standard error beside the answer.
use Rattle.std.specs.Prelude.{ℕ, ◌≡◌, ◌⊎◌, List, [], ◌∷◌, ◌++◌, Option, Some, None, Result, Ok, Err, codes}
use Rattle.std.specs.List.{flat_map}
use Rattle.coll_shape.specs.Outline.{Outline}
use Rattle.coll_lang.specs.declared.fault.Refusal.{Refusal}
use Rattle.coll_lang.specs.declared.fault.Refusal.TheVariants.{OneThread}
use Rattle.coll_lang.specs.Language.{read}
use Rattle.coll_lang.specs.Program.{Chosen, Program}
use Rattle.given_verdicts.specs.declared.answer.GivenAnswer.{GivenAnswer}
use Rattle.given_verdicts.specs.Answers.{answer_of}
use Rattle.given_verdicts.specs.Saying.{answer_line}
use Rattle.given_verdicts.specs.general.General.{IsGeneralAnswer}
use Rattle.port_io.specs.Ends.{Outflow}
use Rattle.run_text.specs.declared.status.Status.{Status}
use Rattle.run_text.specs.declared.status.Status.TheVariants.{Done, Usage, Refused, ReadFault, WriteFault, NoMemory}
use Rattle.run_text.specs.Putting.{Ends, FailsWithin}
use Rattle.run_text.specs.Refused.{step_line}
use Rattle.schedule_compiler.specs.shapes.Footprint.{Refused as Excessive, refusal}
use Rattle.text_notes.specs.notes.Shown.{IsNote, then_shown}
use Rattle.plan_top.specs.notes.Notes.{IsNoteOf, Notes}
use Rattle.plan_top.specs.declared.words.PlanRequest.{PlanRequest}
use Rattle.plan_top.specs.declared.words.PlanRequest.TheVariants.{Draw, Verify, VerifyGiven}
use Rattle.plan_top.specs.Owed.{excess_name}

-- ---- the text beside an answer that isn't a result

-- beside a plan that isn't drawn, a note of its refusal: its plan is too large from a step on, it is a choice text, or it isn't read
abbrev pub BesidePlan : List ℕ → Outline → Option Excessive → List ℕ → Type 0
BesidePlan bytes o None text = ⊥
BesidePlan bytes o (Some r) text = IsNoteOf bytes (step_line o r.step) (excess_name r.name) text

abbrev pub BesideDescribed : List ℕ → Outline → Option Chosen → List ℕ → Type 0
BesideDescribed bytes o None text = BesidePlan bytes o (refusal o) text
BesideDescribed bytes o (Some choices) text = IsNoteOf bytes 0 OneThread text

abbrev pub BesideDrawn : List ℕ → Result Program (ℕ × Refusal) → List ℕ → Type 0
BesideDrawn bytes (Ok d) text = BesideDescribed bytes d.shape d.choices text
BesideDrawn bytes (Err refusal) text = IsNoteOf bytes refusal.0 refusal.1 text

-- Of what is judged, what is told beside the answer; for all inputs, beside that whose line stands in the sink.
abbrev pub Beside : PlanRequest → List ℕ → Outflow → Outflow → List ℕ → Type 0
Beside Draw bytes sink sink' text = BesideDrawn bytes (read bytes) text
Beside Verify bytes sink sink' text =
    (answer : GivenAnswer) × IsGeneralAnswer bytes answer × Ends sink sink' (answer_line answer) × Notes bytes answer text
Beside VerifyGiven bytes sink sink' text = Notes bytes (answer_of bytes) text

-- such a text is told beside what is refused, fails or isn't known
abbrev pub TellsOf : (List ℕ → Type 0) → Status → List ℕ → Type 0
TellsOf IsText Done told = Unit {0}
TellsOf IsText Usage told = Unit {0}
TellsOf IsText Refused told = IsText told
TellsOf IsText ReadFault told = Unit {0}
TellsOf IsText WriteFault told = Unit {0}
TellsOf IsText NoMemory told = Unit {0}

-- ---- beside the usage line, a line for each form

abbrev pub form_lines : List ℕ
form_lines =
    flat_map (λ text. text ++ 10 ∷ [])
    (codes "draw: reads a description and writes its plan, with the cells of its results and barriers"
    ∷ codes "verify: reads a description and a plan, and writes whether the plan is right for all inputs"
    ∷ codes "verify given: reads a description and a plan, and writes whether the plan is right for the inputs given"
    ∷ codes "once, sim X, run W, trace W, steady W: reads a description and a plan, and runs the plan if it is sound"
    ∷ codes "check: reads a description, a plan and order lines, and writes whether these are a run of the plan"
    ∷ codes "limits: reads a description and a plan, and writes what each rank takes of an interface"
    ∷ codes "explain, explain RANK, explain --dot: says what each triggered operation of a plan is; draws it for Graphviz"
    ∷ codes "cost L o g G [O]: reads a description and a plan, and writes when each cell is reached; L, o, g in ns, G, O in ps a byte"
    ∷ codes "X: what seeds the order of steps, below 2^64; W: how many workers there are, from 1 to 16" ∷ [])

-- ---- what standard error took

-- all of it, or a beginning, where a call of standard error failed
abbrev pub Stood : Outflow → Outflow → List ℕ → Type 0
Stood old new bytes = Ends old new bytes ⊎ FailsWithin old new bytes

-- the line of this text, which is printable and of at most 200 bytes
pub record SaysText (old new : Outflow) (text : List ℕ) : Type 0 where
  pub line : IsNote text
  pub stood : Stood old new (text ++ 10 ∷ [])

abbrev pub SaysWords : Outflow → Outflow → List ℕ → Type 0
SaysWords old new words = SaysText old new (then_shown [] words)

-- where this is told
abbrev pub Says : Status → List ℕ → Outflow → Outflow → Type 0
Says Done told old new = new ≡ old
Says Usage told old new = Stood old new form_lines
Says Refused told old new = SaysText old new told
Says ReadFault told old new = SaysWords old new (codes "standard input can't be read")
Says WriteFault told old new = SaysWords old new (codes "standard output can't be written")
Says NoMemory told old new = SaysWords old new (codes "there is not enough memory")

-- Nothing beside a result; beside the usage line a line for each form; beside what is refused, fails or isn't known the line of such a
-- text; and beside a fault or want of memory which it was.
abbrev pub Explained : (List ℕ → Type 0) → Status → Outflow → Outflow → Type 0
Explained IsText Done old new = new ≡ old
Explained IsText Usage old new = Stood old new form_lines
Explained IsText Refused old new = (text : List ℕ) × IsText text × SaysText old new text
Explained IsText ReadFault old new = SaysWords old new (codes "standard input can't be read")
Explained IsText WriteFault old new = SaysWords old new (codes "standard output can't be written")
Explained IsText NoMemory old new = SaysWords old new (codes "there is not enough memory")
