-- What is owed for a description with orders, and what a check of them leaves.
use Rattle.std.specs.Prelude.{◌≡◌, ℕ, ◌+◌, List, [], ◌∷◌, Option, Some, None, Result, Ok, Err, codes, drop, IsSomeAnd}
use Rattle.port_io.specs.Counts.{Rose}
use Rattle.port_io.specs.Ends.{Inflow, Outflow}
use Rattle.ptl_types.specs.declared.steps.LocalStep.{LocalStep}
use Rattle.coll_text.specs.Text.{line}
use Rattle.coll_shape.specs.Outline.{Outline}
use Rattle.coll_shape.specs.Meaning.{Lists}
use Rattle.coll_lang.specs.declared.fault.Refusal.{Refusal}
use Rattle.coll_lang.specs.Program.{Program}
use Rattle.order_lines.specs.Check.{read_check}
use Rattle.order_lines.specs.declared.checking.TheConstants.{LONGEST_CHECK}
use Rattle.cuts.specs.view.Slots.{Slots}
use Rattle.cuts.specs.histories.Plans.{system_of}
use Rattle.cuts.specs.orders.Verdict.{IsVerdict}
use Rattle.cuts.specs.declared.orders.Verdict.{Verdict}
use Rattle.cuts.specs.declared.orders.Verdict.TheVariants.{Holds, Fails}
use Rattle.schedule_compiler.specs.shapes.Drawing.{plan_of}
use Rattle.schedule_compiler.specs.shapes.Footprint.{Refused as Excessive, refusal}
use Rattle.order_check.specs.Listing.{lists_of}
use Rattle.run_text.specs.Orders.{fails_line}
use Rattle.run_text.specs.declared.status.Status.{Status}
use Rattle.run_text.specs.declared.status.Status.TheVariants.{Done, Usage, Refused, ReadFault, WriteFault, NoMemory}
use Rattle.portals_top.specs.declared.ran.Ran.{Ran}
use Rattle.portals_top.specs.declared.words.Request.{Request}
use Rattle.portals_top.specs.declared.words.Request.TheVariants.{Do, Large, Check}
use Rattle.run_text.specs.Ending.{Due, Leaves, MayAnswer, Stands, Written, done, refused}
use Rattle.portals_top.specs.Answered.{Answered}
use Rattle.run_text.specs.Refused.{step_line}
use Rattle.portals_top.specs.Due.{excess_name}
use Rattle.portals_top.specs.Large.{Summed}
use Rattle.portals_top.specs.Left.{nothing_ran}

abbrev pub holds_line : List ℕ
holds_line = line (codes "holds" ∷ [])

-- for the verdict that was found, if any
abbrev pub due_verdict : Option Verdict → Due
due_verdict None = done []
due_verdict (Some Holds) = done holds_line
due_verdict (Some (Fails r place cause)) = record { status = Refused; text = fails_line r place cause }

-- the plan may be too large, from a step on
abbrev pub due_judged : Outline → Option Verdict → Option Excessive → Due
due_judged o found None = due_verdict found
due_judged o found (Some r) = refused (step_line o r.step) (excess_name r.name)

-- a description and the orders after it, or the first refusal with its line
abbrev pub due_checked : Option Verdict → Result (Program × List (List LocalStep)) (ℕ × Refusal) → Due
due_checked found (Ok both) = due_judged both.0.shape found (refusal both.0.shape)
due_checked found (Err refusal) = refused refusal.0 refusal.1

-- The verdict on orders of the ranks of a shape's plan, whatever slots the tables of their interfaces give out.
abbrev pub IsVerdictOn : Outline → Lists → List (List LocalStep) → Verdict → Type 0
IsVerdictOn o inputs orders verdict = (slots : ℕ → Slots) → IsVerdict (system_of (plan_of o) inputs slots) (lists_of orders) verdict

-- it is found, unless the plan is too large
abbrev pub FindsFor : Outline → Lists → List (List LocalStep) → Option Excessive → Option Verdict → Type 0
FindsFor o inputs orders None found = IsSomeAnd found (λ verdict. IsVerdictOn o inputs orders verdict)
FindsFor o inputs orders (Some r) found = found ≡ None

abbrev pub FindsIn : Result (Program × List (List LocalStep)) (ℕ × Refusal) → Option Verdict → Type 0
FindsIn (Ok both) found = FindsFor both.0.shape both.0.inputs both.1 (refusal both.0.shape) found
FindsIn (Err refusal) found = found ≡ None

-- what was found, where it or a beginning of its text was written; else nothing
abbrev pub Found : Status → (Option Verdict → Type 0) → Option Verdict → Type 0
Found Done finds found = finds found
Found Usage finds found = found ≡ None
Found Refused finds found = finds found
Found ReadFault finds found = found ≡ None
Found WriteFault finds found = finds found
Found NoMemory finds found = found ≡ None

-- what the part of a check that writes leaves
abbrev pub Judges : (Option Verdict → Due) → (Option Verdict → Type 0) → Outflow → Outflow → Status → Type 0
Judges owed finds sink sink' status = (found : Option Verdict) × Written (owed found) sink sink' status × Found status finds found

-- All that holds after a check, the source having these bytes: of them one more than the longest input is read.
pub record Checked (bytes : List ℕ) (source source' : Inflow) (sink sink' : Outflow) (ran : Ran) (status : Status) : Type 0 where
  pub verdict : Option Verdict
  pub found : Found status (FindsIn (read_check bytes)) verdict
  pub allowed : MayAnswer status (due_checked verdict (read_check bytes)).status
  pub read_fault : status ≡ ReadFault → Rose source.faults source'.faults
  pub write_fault : status ≡ WriteFault → Rose sink.faults sink'.faults
  pub text : Stands status sink sink' (due_checked verdict (read_check bytes)).text
  pub rest : Leaves status source' (drop (LONGEST_CHECK + 1) bytes)
  pub world : ran ≡ nothing_ran

-- all that holds after a call with these words
abbrev pub AnswersTo : Option Request → List ℕ → Inflow → Inflow → Outflow → Outflow → Ran → Status → Type 0
AnswersTo None bytes source source' sink sink' ran status = Answered None bytes source source' sink sink' ran status
AnswersTo (Some (Do task)) bytes source source' sink sink' ran status = Answered (Some task) bytes source source' sink sink' ran status
AnswersTo (Some (Large number workers)) bytes source source' sink sink' ran status =
    Summed number workers source source' sink sink' ran status
AnswersTo (Some Check) bytes source source' sink sink' ran status = Checked bytes source source' sink sink' ran status
