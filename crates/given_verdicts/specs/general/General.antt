-- What may be answered on the text of a description and of a plan that is given for it, for all inputs of the description's shape.
use Rattle.std.specs.Prelude.{ℕ, ◌≡◌, true, false, List, Some, None, length, All}
use Rattle.coll_shape.specs.Meaning.{AreInputs, Lists}
use Rattle.coll_shape.specs.Outline.{Outline}
use Rattle.coll_lang.specs.declared.fault.Refusal.TheVariants.{TooLarge}
use Rattle.given_lines.specs.declared.given.Mark.{Mark}
use Rattle.given_lines.specs.declared.given.Mark.TheVariants.{Result, Enter, Leave}
use Rattle.mark_judge.specs.declared.flaw.MarkFlaw.TheVariants.{BadResult}
use Rattle.mark_judge.specs.Due.{mark_at}
use Rattle.mark_judge.specs.Words.{line_of}
use Rattle.given_verdicts.specs.declared.answer.TextRefusal.TheVariants as texts
use Rattle.given_verdicts.specs.declared.answer.GivenCause.{GivenCause}
use Rattle.given_verdicts.specs.declared.answer.GivenCause.TheVariants.{Value}
use Rattle.given_verdicts.specs.declared.answer.GivenAnswer.{GivenAnswer}
use Rattle.given_verdicts.specs.declared.answer.GivenAnswer.TheVariants.{Holds, Fails, Unknown, Refused}
use Rattle.given_verdicts.specs.declared.answer.FlawlessText.{FlawlessText}
use Rattle.given_verdicts.specs.declared.answer.WrongResult.{WrongResult}
use Rattle.given_verdicts.specs.declared.answer.Judged.{Judged}
use Rattle.given_verdicts.specs.declared.answer.Judged.TheVariants.{Answered, Flawless}
use Rattle.given_verdicts.specs.Answers.{element_at, is_large, judged_text, wrong_for}
use Rattle.plan_agreement.specs.Agreement.{AreMeantTo, IsMeant, IsOpen}
use Rattle.plan_agreement.specs.Bare.{IsBare}
use Rattle.plan_agreement.specs.Witness.{number_units, numbered}
use Rattle.schedule_compiler.specs.shapes.Drawing.{plan_of}
use Rattle.schedule_compiler.specs.shapes.Footprint.{refusal}

-- These inputs show it: judged for them, the plan fails at this line for this cause.
pub record IsShownBy (t : FlawlessText) (inputs : Lists) (n : ℕ) (cause : GivenCause) : Type 0 where
  pub taken : AreInputs t.description.shape inputs
  pub wrong : wrong_for t inputs ≡ Some (record { line = n; cause = cause })

-- some inputs show it of this result
abbrev pub IsShownWrong : FlawlessText → WrongResult → Type 0
IsShownWrong t wrong = (inputs : Lists) × IsShownBy t inputs wrong.line wrong.cause

-- the line is for a result of this buffer at this rank
abbrev pub IsListOf : Mark → ℕ → ℕ → Type 0
IsListOf (Result b r c) buffer rank = (b ≡ buffer) × (r ≡ rank)
IsListOf (Enter s r c) buffer rank = ⊥
IsListOf (Leave s r c) buffer rank = ⊥

-- the element whose byte k is, in the list of a result
abbrev pub IsElement : Outline → Mark → ℕ → GivenCause → Type 0
IsElement o (Result b r c) k cause = cause ≡ element_at o b r k
IsElement o (Enter s r c) k cause = ⊥
IsElement o (Leave s r c) k cause = ⊥

-- result i is what is meant for the inputs whose bytes are these of their numbers
abbrev pub IsMeantByNumber : FlawlessText → ℕ → ℕ → Type 0
IsMeantByNumber t i unit =
    IsMeant t.given.plan t.description.shape (numbered t.description.shape unit) (mark_at t.given.marks i)

-- no result is wrong for the inputs whose bytes are these of their numbers
abbrev pub IsRightByNumber : FlawlessText → ℕ → Type 0
IsRightByNumber t unit = wrong_for t (numbered t.description.shape unit) ≡ None

-- something is combined: unless the shape's own plan is refused, a cell of one of the two plans has an operation
abbrev pub IsCombined : FlawlessText → Type 0
IsCombined t = refusal t.description.shape ≡ None → IsBare t.given.plan → IsBare (plan_of t.description.shape) → ⊥

-- It isn't known of result i from byte k on. All before are meant for all inputs; it is what is meant for the inputs of each of the four
-- bytes of the numbers; the description's own inputs show nothing wrong; and something is combined.
pub record IsUnknownAt (t : FlawlessText) (i k n : ℕ) (cause : GivenCause) : Type 0 where
  pub known : IsOpen t.given.plan t.description.shape t.given.marks i k
  pub line : n ≡ line_of t.line t.given.plan t.given.marks (BadResult i)
  pub element : IsElement t.description.shape (mark_at t.given.marks i) k cause
  pub numbers : All (IsMeantByNumber t i) number_units
  pub own : wrong_for t t.description.inputs ≡ None
  pub combined : IsCombined t

-- Each result is meant for all inputs; or there are inputs that show that one isn't; or it isn't known of one.
abbrev pub IsFound : FlawlessText → GivenAnswer → Type 0
IsFound t Holds = AreMeantTo t.given.plan t.description.shape t.given.marks (length t.given.marks)
IsFound t (Fails n cause) = (inputs : Lists) × IsShownBy t inputs n cause
IsFound t (Unknown n name r place) = (i : ℕ) × ((k : ℕ) × IsUnknownAt t i k n (Value name r place))
IsFound t (Refused n name) = ⊥

-- A plan in which no flaw was found is refused where it is too large, and nowhere else.
pub record IsAnsweredFor (t : FlawlessText) (answer : GivenAnswer) : Type 0 where
  pub large : is_large t.given.plan ≡ true → answer ≡ Refused t.line (texts.Description TooLarge)
  pub small : is_large t.given.plan ≡ false → IsFound t answer

abbrev pub IsAnsweredBy : Judged → GivenAnswer → Type 0
IsAnsweredBy (Answered found) answer = answer ≡ found
IsAnsweredBy (Flawless t) answer = IsAnsweredFor t answer

-- The answer on a text, for all inputs. Where the text is refused or has a flaw it is that for the inputs of the description.
abbrev pub IsGeneralAnswer : List ℕ → GivenAnswer → Type 0
IsGeneralAnswer bytes answer = IsAnsweredBy (judged_text bytes) answer
