-- A text in which no flaw was found.
use Rattle.std.proofs.Common.{◌≡◌, ℕ, ◌+◌, ◌≤◌, List, length, drop, Option, Some, None, Result, Ok, Err, refl, sym, subst}
use Rattle.std.proofs.Common.{arith, inl, inr}
use Rattle.std.proofs.lemmas.Bool.{cases_lt}
use Rattle.std.proofs.lemmas.List.{length-drop}
use Rattle.coll_text.specs.Text.{lines}
use Rattle.coll_lang.specs.declared.fault.Refusal.{Refusal}
use Rattle.coll_lang.specs.Program.{Chosen, Program}
use Rattle.order_lines.specs.Check.{description_bytes, line_after}
use Rattle.plan_judge.specs.declared.flaw.Flaw.{Flaw}
use Rattle.plan_judge.specs.Causes.{judged}
use Rattle.mark_judge.specs.declared.flaw.MarkFlaw.{MarkFlaw}
use Rattle.mark_judge.specs.Judged.{marks_judged}
use Rattle.given_lines.specs.Given.{Given, Read, read_given}
use Rattle.given_verdicts.specs.declared.answer.FlawlessText.{FlawlessText}
use Rattle.given_verdicts.specs.declared.answer.Judged.TheVariants.{Answered, Flawless}
use Rattle.given_verdicts.specs.declared.judging.TheConstants.{LONGEST_GIVEN}
use Rattle.given_verdicts.specs.declared.answer.GivenAnswer.{GivenAnswer}
use Rattle.given_verdicts.specs.Answers.{IsFaultFound, IsFlawless, IsRightlyJudged, judged_text, least_cells, lengths_of}
use Rattle.given_verdicts.specs.Answers.{on_description, on_flaw, on_marks}
use Rattle.given_verdicts.specs.Answers.{on_pieces, on_read}
use Rattle.given_verdicts.proofs.Answering.{long_judged, short_text}
use Rattle.given_verdicts.proofs.Reading.{IsPlanOf, plan_read}

-- of the description's ranks, and fewer named cells than the text has bytes
record IsFor (d : Program) (g : Given) (n : ℕ) : Type 0 where
  ranks : g.plan.ranks ≡ d.shape.ranks
  few : length g.marks ≤ n + 1

after_marks : (k n : ℕ) (d : Program) (g : Given) (flaw : Option MarkFlaw) → n ≤ LONGEST_GIVEN → IsFor d g n
    → judged g.plan (lengths_of d.shape) ≡ None → marks_judged g.plan d.shape g.done g.marks ≡ flaw → IsRightlyJudged (on_marks k d g flaw)
after_marks k n d g (Some flaw) short for plan e = tt
after_marks k n d g None short for plan e = record {
  ranks = for.ranks;
  plan = plan;
  marks = e;
  few_marks = (let a = for.few in omega (arith, a, short));
}

after_flaw : (k n : ℕ) (d : Program) (g : Given) (flaw : Option Flaw) → n ≤ LONGEST_GIVEN → IsFor d g n
    → judged g.plan (lengths_of d.shape) ≡ flaw → IsRightlyJudged (on_flaw k d g flaw)
after_flaw k n d g (Some flaw) short for e = tt
after_flaw k n d g None short for e = after_marks k n d g (marks_judged g.plan d.shape g.done g.marks) short for e refl

after_read : (k : ℕ) (d : Program) (text : List ℕ) (r : Read Given) → length text ≤ LONGEST_GIVEN
    → read_given d.shape.ranks (least_cells d.shape) d.shape.buffers k (lines text) ≡ r → IsRightlyJudged (on_read k d r)
after_read k d text (Err refusal) short e = tt
after_read k d text (Ok g) short e =
    let is : IsPlanOf d.shape.ranks text g = plan_read d.shape.ranks (least_cells d.shape) d.shape.buffers k text g e in
    after_flaw k (length text) d g (judged g.plan (lengths_of d.shape)) short (record { ranks = is.ranks; few = is.few }) refl

after_pieces : (k : ℕ) (d : Program) (text : List ℕ) (choices : Option Chosen) → length text ≤ LONGEST_GIVEN
    → IsRightlyJudged (on_pieces k d choices (lines text))
after_pieces k d text (Some choices) short = tt
after_pieces k d text None short = after_read k d text _ short refl

after_description : (k : ℕ) (r : Result Program (ℕ × Refusal)) (text : List ℕ) → length text ≤ LONGEST_GIVEN
    → IsRightlyJudged (on_description k r (lines text))
after_description k (Err refusal) text short = tt
after_description k (Ok d) text short = after_pieces k d text d.choices short

-- what is said of every text
pub rightly_judged : (bytes : List ℕ) → IsRightlyJudged (judged_text bytes)
rightly_judged bytes =
    elim (cases_lt LONGEST_GIVEN (length bytes)) [
      | inl long ↦ subst IsRightlyJudged (sym (long_judged bytes long)) tt
      | inr short ↦
          let front = description_bytes (lines bytes) in
          let n = length-drop front bytes in
          subst IsRightlyJudged (sym (short_text bytes front (line_after 1 (lines bytes)) _ short refl refl refl))
          (after_description (line_after 1 (lines bytes)) _ (drop front bytes) (omega (arith, n, short)))
    ]

-- where no flaw was found there is none
pub none_in : (bytes : List ℕ) (t : FlawlessText) → judged_text bytes ≡ Flawless t → IsFlawless t
none_in bytes t e = subst IsRightlyJudged e (rightly_judged bytes)

-- nothing else is answered at once than a fault
pub only_faults : (bytes : List ℕ) (answer : GivenAnswer) → judged_text bytes ≡ Answered answer → IsFaultFound answer
only_faults bytes answer e = subst IsRightlyJudged e (rightly_judged bytes)
