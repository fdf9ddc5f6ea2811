-- What is said on standard error beside what a form answers.
use Rattle.std.specs.Prelude.{ℕ, Bool, true, false, ◌==◌, ◌≡◌, List, [], Result, Ok, Err, codes, take, length, nat_lt}
use Rattle.std.specs.Fmt.{decimal}
use Rattle.ptl_types.specs.declared.steps.LocalStep.{LocalStep}
use Rattle.port_io.specs.Ends.{Outflow}
use Rattle.coll_lang.specs.declared.fault.Refusal.{Refusal}
use Rattle.coll_lang.specs.Program.{Program}
use Rattle.order_lines.specs.Check.{read_check}
use Rattle.plan_core.specs.Plan.{Plan}
use Rattle.cuts.specs.declared.orders.Verdict.{Verdict}
use Rattle.cuts.specs.declared.orders.Verdict.TheVariants.{Holds}
use Rattle.cuts.specs.declared.orders.Verdict.TheVariants as verdicts
use Rattle.given_verdicts.specs.declared.answer.FlawlessText.{FlawlessText}
use Rattle.given_verdicts.specs.declared.answer.Judged.{Judged}
use Rattle.given_verdicts.specs.declared.answer.Judged.TheVariants.{Answered, Flawless}
use Rattle.given_verdicts.specs.Answers.{judged_text}
use Rattle.run_text.specs.Putting.{Ends}
use Rattle.text_notes.specs.declared.notes.note.About.{About}
use Rattle.text_notes.specs.declared.notes.note.About.TheVariants.{Fails}
use Rattle.text_notes.specs.declared.notes.note.Note.{Note}
use Rattle.text_notes.specs.notes.Notes.{note_text}
use Rattle.text_notes.specs.notes.Shown.{then_shown}
use Rattle.text_notes.specs.Places.{IsNamed, Stands, line_at, line_of_order}
use Rattle.plan_top.specs.notes.Notes.{Notes}
use Rattle.plan_top.specs.Explained.{Beside}
use Rattle.given_top.specs.declared.checking.TheConstants.{LONGEST_PLAN_CHECK}
use Rattle.given_top.specs.declared.words.Form.{Form}
use Rattle.given_top.specs.declared.words.Form.TheVariants.{Judge, Use, Check, Cost}
use Rattle.given_top.specs.declared.words.Purpose.{Purpose}
use Rattle.given_top.specs.declared.words.Purpose.TheVariants.{Run, Tell}
use Rattle.given_top.specs.declared.words.Telling.{Telling}
use Rattle.given_top.specs.declared.words.Telling.TheVariants.{ExplainRank}
use Rattle.given_top.specs.Checked.{orders_text, owed_verdict, plan_end, plan_lines, whole_line}

-- ---- the text beside a plan that is neither run nor told of

-- the plan doesn't have this rank
abbrev pub no_rank : ℕ → Plan → List ℕ
no_rank r p =
    let named = then_shown (then_shown [] (codes "the plan has no rank ")) (decimal r) in
    then_shown (then_shown named (codes "; each is below ")) (decimal p.ranks)

abbrev pub BesideTelling : Telling → Plan → List ℕ → Type 0
BesideTelling (ExplainRank r) p text = text ≡ no_rank r p
BesideTelling _ p text = ⊥

-- of a plan without a flaw nothing else is refused
abbrev pub BesideUse : Purpose → FlawlessText → List ℕ → Type 0
BesideUse (Run mode) t text = ⊥
BesideUse (Tell telling) t text = BesideTelling telling t.given.plan text

-- what is told beside the answer on the text, or this of a plan without a flaw
abbrev pub BesideGiven : (FlawlessText → List ℕ → Type 0) → List ℕ → Judged → List ℕ → Type 0
BesideGiven IsTold bytes (Answered answer) text = Notes bytes answer text
BesideGiven IsTold bytes (Flawless t) text = IsTold t text

abbrev pub BesideRun : Purpose → List ℕ → Judged → List ℕ → Type 0
BesideRun purpose bytes judged text = BesideGiven (BesideUse purpose) bytes judged text

-- ---- the text beside a plan whose times are asked for

-- they aren't told
abbrev pub BesideTimes : FlawlessText → List ℕ → Type 0
BesideTimes t text = text ≡ then_shown [] (codes "all messages, one after the other, take 2^64 picoseconds or more")

abbrev pub BesideCost : List ℕ → Judged → List ℕ → Type 0
BesideCost bytes judged text = BesideGiven BesideTimes bytes judged text

-- ---- the text beside orders that fail or are refused

-- The text of a note of a line of a text of a description and orders, with the number that the line has in the whole text, whose plan
-- has so many lines. What the note shows stands in its column of that line.
pub record IsOrderNote (orders : List ℕ) (lines : ℕ) (IsLine : ℕ → Type 0) (IsAbout : About → Type 0) (text : List ℕ) : Type 0 where
  pub note : Note
  pub line : IsLine note.line
  pub about : IsAbout note.about
  pub path : note.path ≡ []
  pub found : Stands (line_at orders note.line) note
  pub shown : text ≡ note_text (record note { line = whole_line lines note.line })

-- what is told of a verdict on orders: of what fails at a rank, with the line of its order
abbrev pub NotesVerdict : List ℕ → ℕ → Verdict → List ℕ → Type 0
NotesVerdict orders lines Holds text = text ≡ []
NotesVerdict orders lines (verdicts.Fails r place cause) text =
    IsOrderNote orders lines (λ n. n ≡ line_of_order orders r) (λ about. about ≡ Fails r place cause) text

-- orders that fail where the sink's line says it
abbrev pub BesideVerdict : List ℕ → ℕ → Outflow → Outflow → List ℕ → Type 0
BesideVerdict orders lines sink sink' text =
    (verdict : Verdict) × Ends sink sink' (owed_verdict verdict).text × NotesVerdict orders lines verdict text

-- orders that are one for each rank of the plan, or aren't
abbrev pub BesideLists : Bool → List ℕ → ℕ → Outflow → Outflow → List ℕ → Type 0
BesideLists true orders lines sink sink' text = BesideVerdict orders lines sink sink' text
BesideLists false orders lines sink sink' text = text ≡ then_shown [] (codes "the order lines aren't one for each rank of the plan")

-- order lines that are read, or refused
abbrev pub BesideOrders : List ℕ → ℕ → ℕ → Outflow → Outflow → Result (Program × List (List LocalStep)) (ℕ × Refusal) → List ℕ → Type 0
BesideOrders orders lines ranks sink sink' (Ok both) text = BesideLists (length both.1 == ranks) orders lines sink sink' text
BesideOrders orders lines ranks sink sink' (Err refusal) text = IsOrderNote orders lines (λ n. n ≡ refusal.0) (IsNamed refusal.1) text

-- what is told beside the answer on the description with the plan, or of the orders
abbrev pub BesideOn : List ℕ → Outflow → Outflow → Judged → List ℕ → Type 0
BesideOn bytes sink sink' (Answered answer) text = Notes (take (plan_end bytes) bytes) answer text
BesideOn bytes sink sink' (Flawless t) text =
    BesideOrders (orders_text bytes) (plan_lines bytes) t.given.plan.ranks sink sink' (read_check (orders_text bytes)) text

abbrev pub BesideLong : Bool → List ℕ → Outflow → Outflow → List ℕ → Type 0
BesideLong true bytes sink sink' text = text ≡ then_shown [] (codes "the text has more than 50331648 bytes")
BesideLong false bytes sink sink' text = BesideOn bytes sink sink' (judged_text (take (plan_end bytes) bytes)) text

abbrev pub BesideCheck : List ℕ → Outflow → Outflow → List ℕ → Type 0
BesideCheck bytes sink sink' text = BesideLong (nat_lt LONGEST_PLAN_CHECK (length bytes)) bytes sink sink' text

-- ---- by what is asked for

abbrev pub BesideForm : Form → List ℕ → Outflow → Outflow → List ℕ → Type 0
BesideForm (Judge request) bytes sink sink' text = Beside request bytes sink sink' text
BesideForm (Use purpose) bytes sink sink' text = BesideRun purpose bytes (judged_text bytes) text
BesideForm Check bytes sink sink' text = BesideCheck bytes sink sink' text
BesideForm (Cost numbers) bytes sink sink' text = BesideCost bytes (judged_text bytes) text
