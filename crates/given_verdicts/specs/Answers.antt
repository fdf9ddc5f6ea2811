-- What is answered on the text of a description and of a plan that is given for it.
use Rattle.std.specs.Prelude.{ℕ, Bool, ◌+◌, ◌*◌, ◌/◌, ◌^◌, ◌<◌, ◌≡◌, ◌||◌, nat_lt, List, [], length, map}
use Rattle.std.specs.Prelude.{sum_by, get_or, take, drop, Option, Some, None}
use Rattle.std.specs.Prelude.{Result, Ok, Err, option_map, if◌then◌else◌}
use Rattle.ptl_types.specs.Operations.{bytes_of}
use Rattle.number_lists.specs.Numbers.{from_to}
use Rattle.coll_text.specs.Text.{lines}
use Rattle.coll_shape.specs.Folding.{at}
use Rattle.coll_shape.specs.Meaning.{Lists, lists_of, meaning_of}
use Rattle.coll_shape.specs.Outline.{Outline, buffer_at, list_bytes}
use Rattle.coll_lang.specs.declared.fault.Refusal.{Refusal}
use Rattle.coll_lang.specs.declared.fault.Refusal.TheVariants.{OneThread, TooLarge, TooLong}
use Rattle.coll_lang.specs.Language.{read}
use Rattle.coll_lang.specs.Program.{Chosen, Program}
use Rattle.order_lines.specs.Check.{description_bytes, line_after}
use Rattle.schedule_compiler.specs.declared.shapes.judging.TheConstants.{MOST_BYTES}
use Rattle.plan_core.specs.Plan.{Plan, all_cells}
use Rattle.plan_core.specs.Values.{Inputs, value}
use Rattle.plan_judge.specs.declared.flaw.Flaw.{Flaw}
use Rattle.plan_judge.specs.declared.flaw.Flaw.TheVariants as flaws
use Rattle.plan_judge.specs.Causes.{first_found, judged}
use Rattle.given_lines.specs.declared.given.Mark.{Mark}
use Rattle.given_lines.specs.declared.given.Mark.TheVariants as marks
use Rattle.given_lines.specs.Given.{Given, Read, read_given}
use Rattle.mark_judge.specs.declared.flaw.MarkFlaw.{MarkFlaw}
use Rattle.mark_judge.specs.declared.flaw.MarkFlaw.TheVariants.{BadResult}
use Rattle.mark_judge.specs.Due.{mark_at}
use Rattle.mark_judge.specs.Judged.{marks_judged}
use Rattle.mark_judge.specs.Words.{line_of}
use Rattle.given_verdicts.specs.declared.answer.TextRefusal.TheVariants as texts
use Rattle.given_verdicts.specs.declared.answer.GivenCause.{GivenCause}
use Rattle.given_verdicts.specs.declared.answer.GivenCause.TheVariants as causes
use Rattle.given_verdicts.specs.declared.answer.GivenAnswer.{GivenAnswer}
use Rattle.given_verdicts.specs.declared.answer.GivenAnswer.TheVariants.{Holds, Fails, Unknown, Refused}
use Rattle.given_verdicts.specs.declared.answer.FlawlessText.{FlawlessText}
use Rattle.given_verdicts.specs.declared.answer.WrongResult.{WrongResult}
use Rattle.given_verdicts.specs.declared.answer.Judged.{Judged}
use Rattle.given_verdicts.specs.declared.answer.Judged.TheVariants.{Answered, Flawless}
use Rattle.given_verdicts.specs.declared.for_inputs.TheConstants.{MOST_CARRIED}
use Rattle.given_verdicts.specs.declared.judging.TheConstants.{LONGEST_GIVEN}
use Rattle.given_verdicts.specs.Differences.{difference_from}

-- ---- the plan

-- of each input the bytes of its list, which are as many at every rank
abbrev pub lengths_of : Outline → List ℕ
lengths_of o = map (λ b. list_bytes (buffer_at o b)) (from_to 0 o.inputs)

-- the go cells and those of the inputs
abbrev pub least_cells : Outline → ℕ
least_cells o = o.ranks + o.inputs * o.ranks

-- the line of what has a flaw, where the plan's text begins with line k: after its head stand the cells, and then the links
abbrev pub flaw_line : ℕ → Plan → Flaw → ℕ
flaw_line k p (flaws.Plan cause) = k
flaw_line k p (flaws.Cell c cause) = k + 1 + c
flaw_line k p (flaws.Link l cause) = k + 1 + length p.cells + l

abbrev pub cause_of : Flaw → GivenCause
cause_of (flaws.Plan cause) = causes.Plan cause
cause_of (flaws.Cell c cause) = causes.Cell cause
cause_of (flaws.Link l cause) = causes.Link cause

-- ---- what a text shows before its results are looked at, where its plan's text begins with line k

abbrev pub on_marks : ℕ → Program → Given → Option MarkFlaw → Judged
on_marks k d g (Some flaw) = Answered (Fails (line_of k g.plan g.marks flaw) (causes.Mark flaw))
on_marks k d g None = Flawless (record { line = k; description = d; given = g })

abbrev pub on_flaw : ℕ → Program → Given → Option Flaw → Judged
on_flaw k d g (Some flaw) = Answered (Fails (flaw_line k g.plan flaw) (cause_of flaw))
on_flaw k d g None = on_marks k d g (marks_judged g.plan d.shape g.done g.marks)

abbrev pub on_read : ℕ → Program → Read Given → Judged
on_read k d (Err refusal) = Answered (Refused refusal.0 (texts.Plan refusal.1))
on_read k d (Ok g) = on_flaw k d g (judged g.plan (lengths_of d.shape))

-- a choice text has no plan
abbrev pub on_pieces : ℕ → Program → Option Chosen → List (List ℕ) → Judged
on_pieces k d (Some choices) pieces = Answered (Refused 0 (texts.Description OneThread))
on_pieces k d None pieces = on_read k d (read_given d.shape.ranks (least_cells d.shape) d.shape.buffers k pieces)

abbrev pub on_description : ℕ → Result Program (ℕ × Refusal) → List (List ℕ) → Judged
on_description k (Err refusal) pieces = Answered (Refused refusal.0 (texts.Description refusal.1))
on_description k (Ok d) pieces = on_pieces k d d.choices pieces

-- A text: a description, which ends with the first line `end`, and after it a plan's text.
unfoldable pub judged_text : List ℕ → Judged
judged_text bytes =
    let front = description_bytes (lines bytes) in
    if nat_lt LONGEST_GIVEN (length bytes) then Answered (Refused 0 (texts.Description TooLong))
    else on_description (line_after 1 (lines bytes)) (read (take front bytes)) (lines (drop front bytes))

-- the plan has the description's ranks, and neither it nor a line after its links has a flaw
pub record IsFlawless (t : FlawlessText) : Type 0 where
  pub ranks : t.given.plan.ranks ≡ t.description.shape.ranks
  pub plan : judged t.given.plan (lengths_of t.description.shape) ≡ None
  pub marks : marks_judged t.given.plan t.description.shape t.given.done t.given.marks ≡ None
  pub few_marks : length t.given.marks < 2 ^ 32

-- the text is refused, or something of it fails
abbrev pub IsFaultFound : GivenAnswer → Type 0
IsFaultFound Holds = ⊥
IsFaultFound (Fails n cause) = Unit {0}
IsFaultFound (Unknown n name r place) = ⊥
IsFaultFound (Refused n name) = Unit {0}

abbrev pub IsRightlyJudged : Judged → Type 0
IsRightlyJudged (Answered answer) = IsFaultFound answer
IsRightlyJudged (Flawless t) = IsFlawless t

-- ---- its results

-- the element of a list of a buffer at a rank whose byte i is
abbrev pub element_at : Outline → ℕ → ℕ → ℕ → GivenCause
element_at o b r i = causes.Value (buffer_at o b).name r (i / bytes_of (buffer_at o b).ty)

-- two lists of a buffer at a rank differ
abbrev pub unlike : Outline → ℕ → ℕ → Option ℕ → Option GivenCause
unlike o b r place = option_map (element_at o b r) place

-- a result's cell holds another list than is meant, where the cells hold these and the buffers mean these
abbrev pub wrong_list : Outline → List (List ℕ) → Lists → Mark → Option GivenCause
wrong_list o values meant (marks.Result b r c) = unlike o b r (difference_from 0 (get_or values c []) (at (lists_of meant b) r))
wrong_list o values meant (marks.Enter s r c) = None
wrong_list o values meant (marks.Leave s r c) = None

-- with its line
abbrev pub at_line : ℕ → Plan → List Mark → ℕ → Option GivenCause → Option WrongResult
at_line k p ms i = option_map (λ cause. record { line = line_of k p ms (BadResult i); cause = cause })

abbrev pub wrong_result : ℕ → Plan → Outline → List (List ℕ) → Lists → List Mark → ℕ → Option WrongResult
wrong_result k p o values meant ms i = at_line k p ms i (wrong_list o values meant (mark_at ms i))

-- the first one
abbrev pub first_wrong : ℕ → Plan → Outline → List (List ℕ) → Lists → List Mark → Option WrongResult
first_wrong k p o values meant ms = first_found (wrong_result k p o values meant ms) (from_to 0 (length ms))

-- what every cell holds in the end
abbrev pub all_values : Plan → Inputs → List (List ℕ)
all_values p inputs = map (value p inputs) (all_cells p)

-- the first result of a plan that is wrong for these inputs
abbrev pub wrong_for : FlawlessText → Lists → Option WrongResult
wrong_for t inputs =
    first_wrong t.line t.given.plan t.description.shape (all_values t.given.plan inputs) (meaning_of t.description.shape inputs)
    t.given.marks

-- ---- the answer for the inputs of the description

abbrev pub on_results : Option WrongResult → GivenAnswer
on_results None = Holds
on_results (Some wrong) = Fails wrong.line wrong.cause

-- a plan whose cells have too many bytes together, or whose links carry too many, isn't evaluated
abbrev pub is_large : Plan → Bool
is_large p = nat_lt MOST_BYTES (sum_by (λ c. c.length) p.cells) || nat_lt MOST_CARRIED (sum_by (λ k. k.length) p.links)

abbrev pub on_size : FlawlessText → GivenAnswer
on_size t =
    if is_large t.given.plan then Refused t.line (texts.Description TooLarge) else on_results (wrong_for t t.description.inputs)

abbrev pub on_judged : Judged → GivenAnswer
on_judged (Answered answer) = answer
on_judged (Flawless t) = on_size t

-- The answer on a text.
unfoldable pub answer_of : List ℕ → GivenAnswer
answer_of bytes = on_judged (judged_text bytes)
