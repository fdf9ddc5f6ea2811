-- What a check of orders of a given plan's ranks owes, and what holds after it.
use Rattle.std.specs.Prelude.{ℕ, ◌+◌, ◌-◌, ◌==◌, ◌≡◌, ◌++◌, List, [], ◌∷◌, Option, Some, None, Result, Ok, Err, IsSomeAnd, codes, take}
use Rattle.std.specs.Prelude.{drop}
use Rattle.std.specs.Prelude.{if◌then◌else◌, length, min, nat_lt}
use Rattle.ptl_types.specs.declared.steps.LocalStep.{LocalStep}
use Rattle.port_io.specs.Counts.{Rose}
use Rattle.port_io.specs.Ends.{Inflow, Outflow}
use Rattle.coll_text.specs.Text.{line, lines}
use Rattle.coll_lang.specs.declared.fault.Refusal.{Refusal}
use Rattle.coll_lang.specs.declared.fault.Refusal.TheVariants.{BadOrder, TooLong}
use Rattle.coll_lang.specs.Program.{Program}
use Rattle.order_lines.specs.Check.{description_bytes, line_after, read_check}
use Rattle.cuts.specs.declared.orders.Verdict.{Verdict}
use Rattle.cuts.specs.declared.orders.Verdict.TheVariants.{Holds, Fails}
use Rattle.cuts.specs.histories.Plans.{system_of}
use Rattle.cuts.specs.orders.Verdict.{IsVerdict}
use Rattle.cuts.specs.view.Slots.{Slots}
use Rattle.order_check.specs.Listing.{lists_of}
use Rattle.given_verdicts.specs.declared.answer.FlawlessText.{FlawlessText}
use Rattle.given_verdicts.specs.declared.answer.GivenAnswer.{GivenAnswer}
use Rattle.given_verdicts.specs.declared.answer.GivenAnswer.TheVariants as answers
use Rattle.given_verdicts.specs.declared.answer.TextRefusal.TheVariants.{Description}
use Rattle.given_verdicts.specs.declared.answer.Judged.{Judged}
use Rattle.given_verdicts.specs.declared.answer.Judged.TheVariants.{Answered, Flawless}
use Rattle.given_verdicts.specs.Answers.{judged_text}
use Rattle.run_text.specs.declared.status.Status.{Status}
use Rattle.run_text.specs.declared.status.Status.TheVariants.{Done, Usage, Refused, ReadFault, WriteFault, NoMemory}
use Rattle.run_text.specs.Ending.{Due, Leaves, MayAnswer, Stands, Written, done}
use Rattle.run_text.specs.Orders.{fails_line}
use Rattle.plan_top.specs.Owed.{owed_given}
use Rattle.given_top.specs.declared.checking.TheConstants.{LONGEST_PLAN_CHECK}
use Rattle.given_top.specs.declared.runs.running.GivenRun.{GivenRun}
use Rattle.given_top.specs.runs.GivenRuns.{RanNothing}

-- ---- the parts of a text: a description up to the first line `end`, a plan up to the next one, and the order lines after it

abbrev pub after_description : List ℕ → List ℕ
after_description bytes = drop (description_bytes (lines bytes)) bytes

-- how many bytes the description has with the plan
abbrev pub plan_end : List ℕ → ℕ
plan_end bytes = description_bytes (lines bytes) + description_bytes (lines (after_description bytes))

-- how many lines the plan has
abbrev pub plan_lines : List ℕ → ℕ
plan_lines bytes = line_after 1 (lines (after_description bytes)) - 1

-- the description with the order lines alone, which is the input of a check of the description's own plan
abbrev pub orders_text : List ℕ → List ℕ
orders_text bytes = take (description_bytes (lines bytes)) bytes ++ drop (plan_end bytes) bytes

-- a line of that in the whole text, where the plan has so many lines; 0 is none, and a number stands still at its type's end
abbrev pub whole_line : ℕ → ℕ → ℕ
whole_line lines n = if n == 0 then 0 else min (n + lines) 4294967295

-- ---- what the text is: it has this answer, or it is a plan with orders of its ranks

pub data CheckText : Type 0 where
  Told : (answer : GivenAnswer) → CheckText
  Ordered : (t : FlawlessText) → (orders : List (List LocalStep)) → CheckText

-- its refusal, or a line for each rank
abbrev pub on_orders : ℕ → FlawlessText → Result (Program × List (List LocalStep)) (ℕ × Refusal) → CheckText
on_orders lines t (Err refusal) = Told (answers.Refused (whole_line lines refusal.0) (Description refusal.1))
on_orders lines t (Ok both) =
    if length both.1 == t.given.plan.ranks then Ordered t both.1 else Told (answers.Refused 0 (Description BadOrder))

abbrev pub on_plan : List ℕ → Judged → CheckText
on_plan bytes (Answered answer) = Told answer
on_plan bytes (Flawless t) = on_orders (plan_lines bytes) t (read_check (orders_text bytes))

-- first the whole text's length, then the description with the plan, and then the order lines
unfoldable pub check_text : List ℕ → CheckText
check_text bytes =
    if nat_lt LONGEST_PLAN_CHECK (length bytes) then Told (answers.Refused 0 (Description TooLong))
    else on_plan bytes (judged_text (take (plan_end bytes) bytes))

-- ---- what is owed

abbrev pub holds_line : List ℕ
holds_line = line (codes "holds" ∷ [])

abbrev pub owed_verdict : Verdict → Due
owed_verdict Holds = done holds_line
owed_verdict (Fails r place cause) = record { status = Refused; text = fails_line r place cause }

-- for the verdict that was found, if any
abbrev pub owed_found : Option Verdict → Due
owed_found None = done []
owed_found (Some verdict) = owed_verdict verdict

abbrev pub owed_check : Option Verdict → CheckText → Due
owed_check found (Told answer) = owed_given answer
owed_check found (Ordered t orders) = owed_found found

-- The verdict on orders of the ranks of a text's plan with the inputs of its description, whatever slots the tables of their interfaces
-- give out.
abbrev pub IsVerdictOn : FlawlessText → List (List LocalStep) → Verdict → Type 0
IsVerdictOn t orders verdict =
    (slots : ℕ → Slots) → IsVerdict (system_of t.given.plan t.description.inputs slots) (lists_of orders) verdict

abbrev pub Finds : CheckText → Option Verdict → Type 0
Finds (Told answer) found = found ≡ None
Finds (Ordered t orders) found = IsSomeAnd found (λ verdict. IsVerdictOn t orders verdict)

-- what was found, where it or a beginning of its text was written; else nothing
abbrev pub Found : Status → CheckText → Option Verdict → Type 0
Found Done text found = Finds text found
Found Usage text found = found ≡ None
Found Refused text found = Finds text found
Found ReadFault text found = found ≡ None
Found WriteFault text found = Finds text found
Found NoMemory text found = found ≡ None

-- after the part of a check that judges and writes
abbrev pub Checks : CheckText → Outflow → Outflow → Status → Type 0
Checks text sink sink' status = (found : Option Verdict) × Written (owed_check found text) sink sink' status × Found status text found

-- All that holds after a check, the source having these bytes: of them one more than the longest text is read. No world is left.
pub record CheckAnswered (bytes : List ℕ) (source source' : Inflow) (sink sink' : Outflow) (run : GivenRun) : Type 0 where
  pub verdict : Option Verdict
  pub found : Found run.status (check_text bytes) verdict
  pub allowed : MayAnswer run.status (owed_check verdict (check_text bytes)).status
  pub text : Stands run.status sink sink' (owed_check verdict (check_text bytes)).text
  pub read_fault : run.status ≡ ReadFault → Rose source.faults source'.faults
  pub write_fault : run.status ≡ WriteFault → Rose sink.faults sink'.faults
  pub rest : Leaves run.status source' (drop (LONGEST_PLAN_CHECK + 1) bytes)
  pub world : RanNothing run
