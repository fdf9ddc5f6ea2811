-- What the judgement of a text tells, and what an answer that the plan holds tells of its results.
use Rattle.std.proofs.Common.{ℕ, Bool, true, false, cond, ◌≡◌, ◌+◌, ◌<◌, ◌==◌, ◌∷◌, [], List, Option, Some, None, Result, Ok, Err}
use Rattle.std.proofs.Common.{length, get_or, take, drop, refl, ap₂, ◌∙◌, sym, subst, arith}
use Rattle.std.specs.Prelude.{nat_lt}
use Rattle.std.proofs.lemmas.Bool.{eqb-true}
use Rattle.coll_text.specs.Text.{lines}
use Rattle.coll_shape.specs.Folding.{at}
use Rattle.coll_shape.specs.Meaning.{AreInputs, lists_of, meaning_of}
use Rattle.coll_shape.specs.Outline.{Outline}
use Rattle.coll_lang.specs.declared.fault.Refusal.{Refusal}
use Rattle.coll_lang.specs.declared.fault.Refusal.TheVariants.{TooLarge, TooLong}
use Rattle.coll_lang.specs.Language.{read}
use Rattle.coll_lang.specs.Program.{Chosen, Program}
use Rattle.coll_lang.specs.Readable.{ReadsExactly}
use Rattle.order_lines.specs.Check.{line_after}
use Rattle.plan_core.specs.Plan.{Plan}
use Rattle.plan_core.specs.Values.{Inputs, value}
use Rattle.plan_agreement.specs.Agreement.{IsMeant}
use Rattle.plan_judge.specs.declared.flaw.Flaw.{Flaw}
use Rattle.plan_judge.specs.Causes.{judged}
use Rattle.plan_judge.proofs.Rows.{map_clear, none_found}
use Rattle.plan_tables.proofs.Passes.{get-row}
use Rattle.given_lines.specs.declared.given.Mark.{Mark}
use Rattle.given_lines.specs.declared.given.Mark.TheVariants as marks
use Rattle.given_lines.specs.Given.{Given, Read, read_given}
use Rattle.mark_judge.specs.declared.flaw.MarkFlaw.{MarkFlaw}
use Rattle.mark_judge.specs.Due.{cell_of, due_of, mark_at, no_mark}
use Rattle.mark_judge.specs.Judged.{marks_judged}
use Rattle.mark_judge.proofs.Good.{fit-known}
use Rattle.mark_judge.proofs.Tests.{get_or-In}
use Rattle.given_verdicts.specs.declared.answer.FlawlessText.{FlawlessText}
use Rattle.given_verdicts.specs.declared.answer.GivenAnswer.TheVariants.{Holds, Refused}
use Rattle.given_verdicts.specs.declared.answer.Judged.{Judged}
use Rattle.given_verdicts.specs.declared.answer.Judged.TheVariants.{Answered, Flawless}
use Rattle.given_verdicts.specs.declared.answer.TextRefusal.TheVariants as texts
use Rattle.given_verdicts.specs.declared.answer.WrongResult.{WrongResult}
use Rattle.given_verdicts.specs.declared.judging.TheConstants.{LONGEST_GIVEN}
use Rattle.given_verdicts.specs.Answers.{all_values, answer_of, element_at, is_large, judged_text, least_cells, lengths_of, on_description}
use Rattle.given_verdicts.specs.Answers.{on_flaw, on_judged, on_marks, on_pieces, on_read, on_results, on_size, wrong_for, wrong_list}
use Rattle.given_verdicts.specs.Answers.{wrong_result}
use Rattle.given_verdicts.specs.Differences.{difference_from}
use Rattle.given_verdicts.proofs.Reading.{plan_read}
use Rattle.verdict_laws.specs.Flawless.{AreNamedMeant, IsFlawless}
use Rattle.verdict_laws.specs.Verdicts.{CanBeRun, IsTextOf, front_of}
use Rattle.verdict_laws.proofs.Conditions.{can_run, fits}
use Rattle.verdict_laws.proofs.Links.{few_links}

-- ---- the text

-- it is of this description and this plan, in which nothing is at fault
pub record IsOfFlawless (bytes : List ℕ) (d : Program) (g : Given) : Type 0 where
  pub text : IsTextOf bytes d g
  pub flawless : IsFlawless g.plan d.shape g.done g.marks

-- what its judgement tells; what is answered at once is never that the plan holds
abbrev pub IsTold : List ℕ → Judged → Type 0
IsTold bytes (Answered answer) = answer ≡ Holds → ⊥
IsTold bytes (Flawless t) = IsOfFlawless bytes t.description t.given

-- the number of the plan's first line, and the lines from there on
abbrev first_of : List ℕ → ℕ
first_of bytes = line_after 1 (lines bytes)

abbrev plan_lines : List ℕ → List (List ℕ)
plan_lines bytes = lines (drop (front_of bytes) bytes)

module _ (bytes : List ℕ) where
  marks_told : (d : Program) (g : Given) → IsTextOf bytes d g → g.plan.ranks ≡ d.shape.ranks → judged g.plan (lengths_of d.shape) ≡ None
      → (x : Option MarkFlaw) → marks_judged g.plan d.shape g.done g.marks ≡ x → IsTold bytes (on_marks (first_of bytes) d g x)
  marks_told d g is ranks plan None e = record { text = is; flawless = record { ranks = ranks; plan = plan; lines = e } }
  marks_told d g is ranks plan (Some flaw) e = λ h. cc

  flaw_told : (d : Program) (g : Given) → IsTextOf bytes d g → g.plan.ranks ≡ d.shape.ranks → (x : Option Flaw)
      → judged g.plan (lengths_of d.shape) ≡ x → IsTold bytes (on_flaw (first_of bytes) d g x)
  flaw_told d g is ranks None e = marks_told d g is ranks e (marks_judged g.plan d.shape g.done g.marks) refl
  flaw_told d g is ranks (Some flaw) e = λ h. cc

  read_told : (d : Program) → read (take (front_of bytes) bytes) ≡ Ok d → d.choices ≡ None → (r : Read Given)
      → read_given d.shape.ranks (least_cells d.shape) d.shape.buffers (first_of bytes) (plan_lines bytes) ≡ r
      → IsTold bytes (on_read (first_of bytes) d r)
  read_told d description steps (Ok g) e =
      flaw_told d g (record { description = description; steps = steps; plan = e })
      (plan_read d.shape.ranks (least_cells d.shape) d.shape.buffers (first_of bytes) (drop (front_of bytes) bytes) g e).ranks
      (judged g.plan (lengths_of d.shape)) refl
  read_told d description steps (Err refusal) e = λ h. cc

  pieces_told : (d : Program) → read (take (front_of bytes) bytes) ≡ Ok d → (c : Option Chosen) → d.choices ≡ c
      → IsTold bytes (on_pieces (first_of bytes) d c (plan_lines bytes))
  pieces_told d description None e =
      read_told d description e (read_given d.shape.ranks (least_cells d.shape) d.shape.buffers (first_of bytes) (plan_lines bytes)) refl
  pieces_told d description (Some choices) e = λ h. cc

  described_told : (r : Result Program (ℕ × Refusal)) → read (take (front_of bytes) bytes) ≡ r
      → IsTold bytes (on_description (first_of bytes) r (plan_lines bytes))
  described_told (Ok d) e = pieces_told d e d.choices refl
  described_told (Err refusal) e = λ h. cc

pub text_told : (bytes : List ℕ) → IsTold bytes (judged_text bytes)
unfolding judged_text
text_told bytes = by_length (nat_lt LONGEST_GIVEN (length bytes))
  where
    by_length : (b : Bool) → IsTold bytes (cond b (Answered (Refused 0 (texts.Description TooLong)))
        (on_description (first_of bytes) (read (take (front_of bytes) bytes)) (plan_lines bytes)))
    by_length true = λ h. cc
    by_length false = described_told bytes (read (take (front_of bytes) bytes)) refl

-- the inputs of the description are inputs of its shape
pub own_inputs : ReadsExactly → (bytes : List ℕ) (d : Program) (g : Given) → IsTextOf bytes d g → AreInputs d.shape d.inputs
own_inputs exactly bytes d g is = ((exactly (take (front_of bytes) bytes) d).0 is.description).0.given

-- so few links are read that the plan can run
pub can_be_run : (bytes : List ℕ) (d : Program) (g : Given) → IsOfFlawless bytes d g → CanBeRun d g
can_be_run bytes d g is held named =
    let few = few_links d.shape.ranks (least_cells d.shape) d.shape.buffers (first_of bytes) (plan_lines bytes) g is.text.plan in
    can_run g.plan d.shape g.done g.marks is.flawless held (omega (arith, few)) named

-- ---- its results

same_lists : (i : ℕ) (xs ys : List ℕ) → difference_from i xs ys ≡ None → xs ≡ ys
unfolding difference_from
same_lists i [] [] e = refl
same_lists i [] (y ∷ ys) e = cc
same_lists i (x ∷ xs) [] e = cc
same_lists i (x ∷ xs) (y ∷ ys) e = by_first (x == y) refl (λ f. same_lists (i + 1) xs ys f) e
  where
    by_first : (b : Bool) → (x == y) ≡ b → (difference_from (i + 1) xs ys ≡ None → xs ≡ ys)
        → cond b (difference_from (i + 1) xs ys) (Some i) ≡ None → x ∷ xs ≡ y ∷ ys
    by_first true q rest f = ap₂ (λ (u : ℕ) (us : List ℕ). u ∷ us) (eqb-true x y q) (rest f)
    by_first false q rest f = cc

not_wrong : (o : Outline) (p : Plan) (inputs : Inputs) (m : Mark) → cell_of m < length p.cells
    → wrong_list o (all_values p inputs) (meaning_of o inputs) m ≡ None → IsMeant p o inputs m
not_wrong o p inputs (marks.Result b r c) h e =
    sym (get-row (value p inputs) (length p.cells) c [] h)
    ∙ same_lists 0 (get_or (all_values p inputs) c []) (at (lists_of (meaning_of o inputs) b) r)
    (map_clear (element_at o b r) (difference_from 0 (get_or (all_values p inputs) c []) (at (lists_of (meaning_of o inputs) b) r)) e)
not_wrong o p inputs (marks.Enter s r c) h e = tt
not_wrong o p inputs (marks.Leave s r c) h e = tt

-- where no result is wrong for these inputs each is meant
pub none_wrong : (t : FlawlessText) (inputs : Inputs)
    → IsFlawless t.given.plan t.description.shape t.given.done t.given.marks → wrong_for t inputs ≡ None
    → AreNamedMeant t.description.shape t.given inputs
none_wrong t inputs flawless e m named =
    let o = t.description.shape in
    let g = t.given in
    let i = get_or-In m g.marks no_mark named in
    let known = fit-known g.plan o (due_of m) (cell_of m) (fits g.plan o g.done g.marks flawless m named) in
    let found = none_found (wrong_result t.line g.plan o (all_values g.plan inputs) (meaning_of o inputs) g.marks) 0 (length g.marks) e i.0
    (omega arith) (let lt = i.1 in omega (arith, lt)) in
    not_wrong o g.plan inputs m known
    (subst (λ (x : Mark). wrong_list o (all_values g.plan inputs) (meaning_of o inputs) x ≡ None) i.2
    (map_clear _ (wrong_list o (all_values g.plan inputs) (meaning_of o inputs) (mark_at g.marks i.0)) found))

-- ---- the answer for the inputs of the description
pub record IsHeld (bytes : List ℕ) : Type 0 where
  pub description : Program
  pub given : Given
  pub told : IsOfFlawless bytes description given
  pub meant : AreNamedMeant description.shape given description.inputs

none_found_wrong : (x : Option WrongResult) → on_results x ≡ Holds → x ≡ None
none_found_wrong None e = refl
none_found_wrong (Some wrong) e = cc

size_held : (t : FlawlessText) → on_size t ≡ Holds → wrong_for t t.description.inputs ≡ None
size_held t e = by_size (is_large t.given.plan) e
  where
    by_size : (b : Bool) → cond b (Refused t.line (texts.Description TooLarge)) (on_results (wrong_for t t.description.inputs)) ≡ Holds
        → wrong_for t t.description.inputs ≡ None
    by_size true f = cc
    by_size false f = none_found_wrong (wrong_for t t.description.inputs) f

judged_held : (bytes : List ℕ) (x : Judged) → IsTold bytes x → on_judged x ≡ Holds → IsHeld bytes
judged_held bytes (Answered answer) told e = absurd (told e)
judged_held bytes (Flawless t) told e = record {
  description = t.description;
  given = t.given;
  told = told;
  meant = none_wrong t t.description.inputs told.flawless (size_held t e);
}

pub held : (bytes : List ℕ) → answer_of bytes ≡ Holds → IsHeld bytes
unfolding answer_of
held bytes e = judged_held bytes (judged_text bytes) (text_told bytes) e
