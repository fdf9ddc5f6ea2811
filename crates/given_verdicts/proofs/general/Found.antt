-- From what was found to the answer.
use Rattle.std.proofs.Common.{◌≡◌, ◌<◌, ℕ, Bool, true, false, List, None, All, length, refl, sym, subst, ◌∙◌}
use Rattle.std.proofs.lemmas.List.Elements.{All-weaker}
use Rattle.coll_shape.specs.Meaning.{Lists}
use Rattle.coll_shape.specs.Outline.{Outline}
use Rattle.coll_shape.specs.WellFormed.{IsWellFormed}
use Rattle.coll_lang.specs.declared.fault.Refusal.TheVariants.{TooLarge}
use Rattle.given_lines.specs.declared.given.Mark.{Mark}
use Rattle.given_lines.specs.declared.given.Mark.TheVariants.{Result, Enter, Leave}
use Rattle.mark_judge.specs.declared.flaw.MarkFlaw.TheVariants.{BadResult}
use Rattle.mark_judge.specs.Due.{mark_at}
use Rattle.mark_judge.specs.Words.{line_of}
use Rattle.given_verdicts.specs.declared.answer.TextRefusal.TheVariants as texts
use Rattle.given_verdicts.specs.declared.answer.GivenCause.{GivenCause}
use Rattle.given_verdicts.specs.declared.answer.GivenCause.TheVariants.{Value}
use Rattle.given_verdicts.specs.declared.answer.GivenAnswer.{GivenAnswer}
use Rattle.given_verdicts.specs.declared.answer.GivenAnswer.TheVariants.{Unknown, Refused}
use Rattle.given_verdicts.specs.declared.answer.FlawlessText.{FlawlessText}
use Rattle.given_verdicts.specs.declared.answer.Judged.{Judged}
use Rattle.given_verdicts.specs.declared.answer.Judged.TheVariants.{Answered, Flawless}
use Rattle.given_verdicts.specs.Answers.{IsFlawless, element_at, is_large, judged_text, wrong_for}
use Rattle.plan_agreement.specs.Agreement.{AreMeantTo, IsMeantIfThere, IsOpen, IsPlanFor, IsShown}
use Rattle.plan_agreement.specs.Bare.{IsBare}
use Rattle.plan_agreement.specs.Witness.{number_units, numbered}
use Rattle.plan_agreement.proofs.Telling.{numbers_tell}
use Rattle.schedule_compiler.specs.shapes.Drawing.{plan_of}
use Rattle.given_verdicts.specs.general.General.{IsAnsweredBy, IsAnsweredFor, IsCombined, IsElement, IsFound, IsGeneralAnswer, IsListOf}
use Rattle.given_verdicts.specs.general.General.{IsMeantByNumber, IsRightByNumber}
use Rattle.given_verdicts.proofs.Meant.{has_cell, known_at, meant_at, named_at}

-- ---- a result that inputs show to be wrong
-- it is wrong for these inputs, or one before it is
pub shown_wrong : (t : FlawlessText) (i : ℕ) (inputs : Lists) → IsFlawless t → IsPlanFor t.given.plan t.description.shape
    → IsShown t.given.plan t.description.shape t.given.marks i inputs → wrong_for t inputs ≡ None → ⊥
shown_wrong t i inputs flawless fits shown e =
    shown.differs (meant_at t inputs i shown.mark (known_at t i flawless fits shown.mark) e)

-- ---- a result of which it isn't known
element : (o : Outline) (m : Mark) (k b r : ℕ) (cause : GivenCause) → IsListOf m b r → cause ≡ element_at o b r k → IsElement o m k cause
element o (Result b' r' c) k b r cause of e =
    e ∙ subst (λ x. element_at o b r k ≡ element_at o x r' k) (sym of.0)
    (subst (λ y. element_at o b r k ≡ element_at o b y k) (sym of.1) refl)
element o (Enter s r' c) k b r cause of e = absurd of
element o (Leave s r' c) k b r cause of e = absurd of

pub unknown_at : (t : FlawlessText) (i k b r n : ℕ) (name : List ℕ) (place : ℕ)
    → IsFlawless t → IsPlanFor t.given.plan t.description.shape → IsOpen t.given.plan t.description.shape t.given.marks i k
    → All (IsMeantIfThere t.given.plan t.description.shape (mark_at t.given.marks i)) number_units
    → wrong_for t t.description.inputs ≡ None → IsCombined t → IsListOf (mark_at t.given.marks i) b r
    → n ≡ line_of t.line t.given.plan t.given.marks (BadResult i)
    → Value name r place ≡ element_at t.description.shape b r k → IsFound t (Unknown n name r place)
unknown_at t i k b r n name place flawless fits open_at all own combined of line is = (
  i,
  (
    k,
    record {
      known = open_at;
      line = line;
      element = element t.description.shape (mark_at t.given.marks i) k b r (Value name r place) of is;
      numbers = All-weaker (IsMeantIfThere t.given.plan t.description.shape (mark_at t.given.marks i)) (IsMeantByNumber t i)
          (λ unit meant. meant (has_cell t.given.plan (mark_at t.given.marks i) (known_at t i flawless fits open_at.mark)))
          number_units all;
      own = own;
      combined = combined;
    },
  ),
)

-- ---- where nothing is combined
numbers_meant : (t : FlawlessText) (i : ℕ) → IsFlawless t → IsPlanFor t.given.plan t.description.shape → i < length t.given.marks
    → All (IsRightByNumber t) number_units → All (IsMeantIfThere t.given.plan t.description.shape (mark_at t.given.marks i)) number_units
numbers_meant t i flawless fits h all =
    All-weaker (IsRightByNumber t) (IsMeantIfThere t.given.plan t.description.shape (mark_at t.given.marks i))
    (λ unit right there. meant_at t (numbered t.description.shape unit) i h (known_at t i flawless fits h) right) number_units all

pub all_meant : (t : FlawlessText) → IsFlawless t → IsPlanFor t.given.plan t.description.shape → IsWellFormed t.description.shape
    → IsBare t.given.plan → IsBare (plan_of t.description.shape) → All (IsRightByNumber t) number_units
    → AreMeantTo t.given.plan t.description.shape t.given.marks (length t.given.marks)
all_meant t flawless fits wf bare own all i h =
    numbers_tell t.given.plan t.description.shape (mark_at t.given.marks i) wf bare own (named_at t i flawless fits wf h)
    (numbers_meant t i flawless fits h all)

-- ---- too large, or not
pub is_refused : (t : FlawlessText) (answer : GivenAnswer) → is_large t.given.plan ≡ true
    → answer ≡ Refused t.line (texts.Description TooLarge) → IsAnsweredFor t answer
is_refused t answer is e = record { large = λ h. e; small = λ h. absurd (let z = sym is ∙ h in let w : ⊥ = cc in w) }

pub is_found : (t : FlawlessText) (answer : GivenAnswer) → is_large t.given.plan ≡ false → IsFound t answer → IsAnsweredFor t answer
is_found t answer not found = record { large = λ h. absurd (let z = sym not ∙ h in let w : ⊥ = cc in w); small = λ h. found }

-- ---- the text
pub at_once : (bytes : List ℕ) (answer : GivenAnswer) → Answered answer ≡ judged_text bytes → IsGeneralAnswer bytes answer
at_once bytes answer e = subst (λ (j : Judged). IsAnsweredBy j answer) e refl

pub by_results : (bytes : List ℕ) (t : FlawlessText) (answer : GivenAnswer) → Flawless t ≡ judged_text bytes → IsAnsweredFor t answer
    → IsGeneralAnswer bytes answer
by_results bytes t answer e is = subst (λ (j : Judged). IsAnsweredBy j answer) e is

-- ---- where it isn't known
never_unknown : (t : FlawlessText) (n : ℕ) (name : List ℕ) (r place : ℕ) (large : Bool) → is_large t.given.plan ≡ large
    → IsAnsweredFor t (Unknown n name r place) → IsCombined t
never_unknown t n name r place true e is = absurd (let z = is.large e in let w : ⊥ = cc in w)
never_unknown t n name r place false e is = (is.small e).1.1.combined

pub is_combined : (bytes : List ℕ) (t : FlawlessText) (n : ℕ) (name : List ℕ) (r place : ℕ) → judged_text bytes ≡ Flawless t
    → IsGeneralAnswer bytes (Unknown n name r place) → IsCombined t
is_combined bytes t n name r place e is =
    never_unknown t n name r place (is_large t.given.plan) refl
    (subst (λ (j : Judged). IsAnsweredBy j (Unknown n name r place)) e is)
