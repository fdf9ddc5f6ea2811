-- Why a text isn't run, and what a rank does that can't begin.
use Rattle.std.specs.Prelude.{ℕ, ◌≡◌, ◌≤◌, ◌<◌, List, ◌++◌, Option, Some, None, Result, Ok, Err, option_map}
use Rattle.coll_lang.specs.Language.{read}
use Rattle.coll_lang.specs.Program.{Chosen, Program}
use Rattle.coll_lang.specs.declared.fault.Refusal.{Refusal}
use Rattle.coll_lang.specs.declared.fault.Refusal.TheVariants.{TooLong, TooMany, TooLarge, OneThread}
use Rattle.coll_shape.specs.Outline.{Outline}
use Rattle.schedule_compiler.specs.shapes.Footprint.{Excess, Refused as Excessive, refusal}
use Rattle.schedule_compiler.specs.shapes.Footprint.Excess.{Links, Bytes}
use Rattle.given_verdicts.specs.Answers.{judged_text}
use Rattle.given_verdicts.specs.Saying.{answer_line}
use Rattle.given_verdicts.specs.declared.answer.GivenAnswer.{GivenAnswer}
use Rattle.given_verdicts.specs.declared.answer.GivenAnswer.TheVariants as answers
use Rattle.given_verdicts.specs.declared.answer.Judged.{Judged}
use Rattle.given_verdicts.specs.declared.answer.Judged.TheVariants as judged
use Rattle.given_verdicts.specs.declared.answer.TextRefusal.TheVariants.{Description}
use Rattle.given_verdicts.specs.declared.judging.TheConstants.{LONGEST_GIVEN}
use Rattle.port_io.specs.Ends.{GivesFront, Inflow, Outflow}
use Rattle.run_text.specs.Putting.{Ends, FailsWithin}
use Rattle.run_text.specs.Refused.{step_line}
use Rattle.rank_frames.specs.Frames.{IsPart, RunsDry, head, mark}
use Rattle.rank_process.specs.lines.Rank.{Asks, Work}
use Rattle.rank_process.specs.declared.status.Status.{Status}
use Rattle.rank_process.specs.declared.status.Status.TheVariants.{WrongRank, Answered, ReadFault, WriteFault, NoMemory}

-- too many links, too many bytes
abbrev pub excess_name : Excess → Refusal
excess_name Links = TooMany
excess_name Bytes = TooLarge

-- the refusal of a line as one of a description
abbrev pub refused : ℕ → Refusal → GivenAnswer
refused number name = answers.Refused number (Description name)

-- a plan that is too large, from a step on
abbrev pub too_large : Outline → Option Excessive → Option GivenAnswer
too_large o x = option_map (λ e. refused (step_line o e.step) (excess_name e.name)) x

-- ranks run no choice text
abbrev pub own_answer : Program → Option Chosen → Option GivenAnswer
own_answer d (Some choices) = Some (refused 0 OneThread)
own_answer d None = too_large d.shape (refusal d.shape)

-- a plan that has a flaw, or whose text is refused
abbrev pub judged_answer : Judged → Option GivenAnswer
judged_answer (judged.Answered answer) = Some answer
judged_answer (judged.Flawless t) = None

abbrev pub answer_by : Result Program (ℕ × Refusal) → Judged → Option GivenAnswer
answer_by (Ok d) found = own_answer d d.choices
answer_by (Err refusal) found = judged_answer found

-- The answer on a text that isn't run: of a description, and of any other text as one of a description and a plan after it.
abbrev pub answer_on : List ℕ → Option GivenAnswer
answer_on text = answer_by (read text) (judged_text text)

-- ---- the first frame

-- only the length was read: no text is so long
pub record IsTooLong (before after : Option (List ℕ)) (answer : GivenAnswer) : Type 0 where
  pub rank : ℕ
  pub count : ℕ
  pub more : LONGEST_GIVEN < count
  pub front : GivesFront before after (head rank count)
  pub so : answer ≡ refused 0 TooLong

-- why there is no first frame
abbrev pub FailsFirst : Status → Inflow → Inflow → Type 0
FailsFirst (Answered answer) before after = IsTooLong before.left after.left answer
FailsFirst ReadFault before after = RunsDry before after IsPart
FailsFirst NoMemory before after = Unit {0}
FailsFirst _ before after = ⊥

-- what the text asks for has no such rank
pub record IsNoRank (text : List ℕ) (r : ℕ) : Type 0 where
  pub work : Work
  pub asks : Asks text work
  pub beyond : work.schedule.plan.ranks ≤ r

-- why a text isn't run
abbrev pub FailsToAsk : List ℕ → Status → Type 0
FailsToAsk text (Answered answer) = answer_on text ≡ Some answer
FailsToAsk text NoMemory = Unit {0}
FailsToAsk text _ = ⊥

-- the plan of a shape is too large
abbrev pub FailsToPlan : Outline → Status → Type 0
FailsToPlan o (Answered answer) = too_large o (refusal o) ≡ Some answer
FailsToPlan o NoMemory = Unit {0}
FailsToPlan o _ = ⊥

-- why the rank of a text can't begin
abbrev pub FailsToOpen : List ℕ → ℕ → Status → Type 0
FailsToOpen text r (Answered answer) = answer_on text ≡ Some answer
FailsToOpen text r WrongRank = IsNoRank text r
FailsToOpen text r NoMemory = Unit {0}
FailsToOpen text r _ = ⊥

-- an answer is written, after the mark of the end
abbrev pub WritesAnswer : GivenAnswer → Status → Outflow → Outflow → Type 0
WritesAnswer answer (Answered a) old new = (a ≡ answer) × Ends old new (mark ++ answer_line answer)
WritesAnswer answer WriteFault old new = FailsWithin old new (mark ++ answer_line answer)
WritesAnswer answer NoMemory old new = new ≡ old
WritesAnswer answer _ old new = ⊥

-- what becomes of a status that tells why: an answer is written
abbrev pub Refuses : Status → Status → Outflow → Outflow → Type 0
Refuses (Answered answer) result old new = WritesAnswer answer result old new
Refuses status result old new = (result ≡ status) × (new ≡ old)
