-- From what was found to the answer.
use Rattle.std.proofs.Common.{◌≡◌, ℕ, ◌≤◌, ◌<◌, List, Option, Some, None, Result, Ok, Err, IfOk, length, take, drop, true, false, refl}
use Rattle.std.proofs.Common.{sym, ap, ap₂, ◌∙◌, arith}
use Rattle.std.specs.Prelude.{nat_lt}
use Rattle.std.proofs.lemmas.Bool.Decides.{nat_tests}
use Rattle.std.proofs.lemmas.Result.{IfOk-weaker}
use Rattle.coll_text.specs.Text.{lines}
use Rattle.coll_shape.specs.declared.types.Buffer.{Buffer}
use Rattle.coll_shape.specs.Meaning.{Lists, meaning_of}
use Rattle.coll_shape.specs.Outline.{Outline}
use Rattle.coll_lang.specs.declared.fault.Refusal.{Refusal}
use Rattle.coll_lang.specs.declared.fault.Refusal.TheVariants.{TooLarge, TooLong}
use Rattle.coll_lang.specs.Language.{read}
use Rattle.coll_lang.specs.Program.{Program}
use Rattle.order_lines.specs.Check.{description_bytes, line_after}
use Rattle.plan_judge.specs.declared.flaw.Flaw.{Flaw}
use Rattle.plan_judge.specs.Causes.{judged}
use Rattle.mark_judge.specs.declared.flaw.MarkFlaw.{MarkFlaw}
use Rattle.mark_judge.specs.Judged.{marks_judged}
use Rattle.mark_judge.specs.Words.{line_of}
use Rattle.given_lines.specs.declared.fault.GivenFault.{GivenFault}
use Rattle.given_lines.specs.Given.{Given, read_given}
use Rattle.given_lines.specs.Reads.{Reads}
use Rattle.given_verdicts.specs.declared.answer.GivenAnswer.{GivenAnswer}
use Rattle.given_verdicts.specs.declared.answer.GivenAnswer.TheVariants.{Fails, Refused}
use Rattle.given_verdicts.specs.declared.answer.GivenCause.{GivenCause}
use Rattle.given_verdicts.specs.declared.answer.GivenCause.TheVariants as causes
use Rattle.given_verdicts.specs.declared.answer.TextRefusal.TheVariants as texts
use Rattle.given_verdicts.specs.declared.judging.TheConstants.{LONGEST_GIVEN}
use Rattle.given_verdicts.specs.declared.answer.FlawlessText.{FlawlessText}
use Rattle.given_verdicts.specs.declared.answer.Judged.{Judged}
use Rattle.given_verdicts.specs.declared.answer.Judged.TheVariants.{Answered, Flawless}
use Rattle.given_verdicts.specs.Answers.{all_values, answer_of, cause_of, flaw_line, first_wrong, is_large, judged_text, lengths_of}
use Rattle.given_verdicts.specs.Answers.{on_description, on_flaw, on_judged, on_marks, on_read, on_results, on_size, wrong_for}
use Rattle.given_verdicts.specs.declared.answer.WrongResult.{WrongResult}
use Rattle.given_verdicts.proofs.Reading.{IsPlanOf, plan_read}

-- ---- the plan

pub clear : {E : Type 0} (k : ℕ) (d : Program) (g : Given) (r : Result Judged E) → judged g.plan (lengths_of d.shape) ≡ None
    → IfOk r (λ a. a ≡ on_flaw k d g None) → IfOk r (λ a. a ≡ on_read k d (Ok g))
clear k d g r e h = IfOk-weaker r _ _ (λ a q. q ∙ ap (on_flaw k d g) (sym e)) h

pub flawed : (k : ℕ) (d : Program) (g : Given) (flaw : Flaw) (n : ℕ) (cause : GivenCause) → judged g.plan (lengths_of d.shape) ≡ Some flaw
    → n ≡ flaw_line k g.plan flaw → cause ≡ cause_of flaw → Answered (Fails n cause) ≡ on_read k d (Ok g)
flawed k d g flaw n cause e line why = ap₂ (λ (m : ℕ) (w : GivenCause). Answered (Fails m w)) line why ∙ ap (on_flaw k d g) (sym e)

-- ---- the lines after the links

pub unmarked : (k : ℕ) (d : Program) (g : Given) → marks_judged g.plan d.shape g.done g.marks ≡ None
    → Flawless (record { line = k; description = d; given = g }) ≡ on_flaw k d g None
unmarked k d g e = ap (on_marks k d g) (sym e)

pub marked : (k : ℕ) (d : Program) (g : Given) (flaw : MarkFlaw) (n : ℕ) → marks_judged g.plan d.shape g.done g.marks ≡ Some flaw
    → n ≡ line_of k g.plan g.marks flaw → Answered (Fails n (causes.Mark flaw)) ≡ on_flaw k d g None
marked k d g flaw n e line = ap (λ (m : ℕ). Answered (Fails m (causes.Mark flaw))) line ∙ ap (on_marks k d g) (sym e)

-- ---- the results

pub wrong_results : (t : FlawlessText) (inputs : Lists) (k : ℕ) (o : Outline) (values : List (List ℕ)) (meant : Lists)
    (found : Option WrongResult) → k ≡ t.line → o ≡ t.description.shape → values ≡ all_values t.given.plan inputs
    → meant ≡ meaning_of t.description.shape inputs → found ≡ first_wrong k t.given.plan o values meant t.given.marks
    → found ≡ wrong_for t inputs
wrong_results t inputs k o values meant found line shape held means is = rw (line, shape, held, means) at is

pub too_large : (t : FlawlessText) → is_large t.given.plan ≡ true → Refused t.line (texts.Description TooLarge) ≡ on_size t
too_large t e = rw e refl

pub small_enough : (t : FlawlessText) (wrong : Option WrongResult) (answer : GivenAnswer) → is_large t.given.plan ≡ false
    → wrong ≡ wrong_for t t.description.inputs → answer ≡ on_results wrong → answer ≡ on_size t
small_enough t wrong answer e is then = then ∙ ap on_results is ∙ rw e refl

-- ---- the text

pub plans_read : (ranks least : ℕ) (buffers : List Buffer) (k : ℕ) (text : List ℕ) (r : Result Given GivenFault)
    → Reads (λ (g : Given). g) r (read_given ranks least buffers k (lines text)) → IfOk r (λ g. IsPlanOf ranks text g)
plans_read ranks least buffers k text (Ok g) reads = plan_read ranks least buffers k text g reads
plans_read ranks least buffers k text (Err fault) reads = tt

not_above : (n : ℕ) → n ≤ LONGEST_GIVEN → nat_lt LONGEST_GIVEN n ≡ false
not_above n le = grind (arith, nat_tests)

above : (n : ℕ) → LONGEST_GIVEN < n → nat_lt LONGEST_GIVEN n ≡ true
above n lt = grind (arith, nat_tests)

pub long_judged : (bytes : List ℕ) → LONGEST_GIVEN < length bytes → judged_text bytes ≡ Answered (Refused 0 (texts.Description TooLong))
unfolding judged_text
long_judged bytes long = rw (above (length bytes) long) refl

-- by its parts
pub short_text : (bytes : List ℕ) (front next : ℕ) (r : Result Program (ℕ × Refusal)) → length bytes ≤ LONGEST_GIVEN
    → front ≡ description_bytes (lines bytes) → next ≡ line_after 1 (lines bytes) → read (take front bytes) ≡ r
    → judged_text bytes ≡ on_description next r (lines (drop front bytes))
unfolding judged_text
short_text bytes front next r short f n e =
    let parted : judged_text bytes ≡ on_description next (read (take front bytes)) (lines (drop front bytes)) =
    rw (f, n, not_above (length bytes) short) refl in
    parted ∙ ap (λ v. on_description next v (lines (drop front bytes))) e

-- for the inputs of the description
pub of_judged : (bytes : List ℕ) (found : Judged) (answer : GivenAnswer) → found ≡ judged_text bytes → answer ≡ on_judged found
    → answer ≡ answer_of bytes
unfolding answer_of
of_judged bytes found answer is e = e ∙ ap on_judged is

pub long_text : (bytes : List ℕ) → LONGEST_GIVEN < length bytes → answer_of bytes ≡ Refused 0 (texts.Description TooLong)
long_text bytes long = sym (of_judged bytes _ (Refused 0 (texts.Description TooLong)) (sym (long_judged bytes long)) refl)
