-- The line in which an answer is written.
use Rattle.std.specs.Prelude.{ℕ, List, [], ◌∷◌, codes}
use Rattle.std.specs.Fmt.{decimal}
use Rattle.coll_text.specs.Text.{line}
use Rattle.coll_lang.specs.Words.{refusal_word}
use Rattle.given_lines.specs.declared.fault.GivenRefusal.{GivenRefusal}
use Rattle.given_lines.specs.declared.fault.GivenRefusal.TheVariants as givens
use Rattle.mark_judge.specs.declared.flaw.MarkFlaw.{MarkFlaw}
use Rattle.mark_judge.specs.declared.flaw.MarkFlaw.TheVariants.{BadDone, BadResult, NoResult, EarlyEntry, BarrierOpen}
use Rattle.plan_judge.specs.declared.flaw.PlanCause.{PlanCause}
use Rattle.plan_judge.specs.declared.flaw.PlanCause.TheVariants.{NoRank, TooManyRanks, MissingCells, TooManyCells, TooManyLinks}
use Rattle.plan_judge.specs.declared.flaw.PlanCause.TheVariants.{TooManyBytes}
use Rattle.plan_judge.specs.declared.flaw.CellCause.{CellCause}
use Rattle.plan_judge.specs.declared.flaw.CellCause.TheVariants.{BadRank, PartElement, BadGo, Needs, BadInput, Unguarded, NotCovered}
use Rattle.plan_judge.specs.declared.flaw.CellCause.TheVariants.{Overlap}
use Rattle.plan_judge.specs.declared.flaw.LinkCause.{LinkCause}
use Rattle.plan_judge.specs.declared.flaw.LinkCause.TheVariants.{NotRising, OutOfSource, OutOfTarget, BadBump, NotAtomic, BadAtomic}
use Rattle.plan_judge.specs.declared.flaw.LinkCause.TheVariants.{ToInput}
use Rattle.given_verdicts.specs.declared.answer.TextRefusal.{TextRefusal}
use Rattle.given_verdicts.specs.declared.answer.TextRefusal.TheVariants as texts
use Rattle.given_verdicts.specs.declared.answer.GivenCause.{GivenCause}
use Rattle.given_verdicts.specs.declared.answer.GivenCause.TheVariants as causes
use Rattle.given_verdicts.specs.declared.answer.GivenAnswer.{GivenAnswer}
use Rattle.given_verdicts.specs.declared.answer.GivenAnswer.TheVariants.{Holds, Fails, Unknown, Refused}

-- ---- each name by its word

abbrev pub plan_word : PlanCause → List ℕ
plan_word NoRank = codes "NoRank"
plan_word TooManyRanks = codes "TooManyRanks"
plan_word MissingCells = codes "MissingCells"
plan_word TooManyCells = codes "TooManyCells"
plan_word TooManyLinks = codes "TooManyLinks"
plan_word TooManyBytes = codes "TooManyBytes"

abbrev pub cell_word : CellCause → List ℕ
cell_word BadRank = codes "BadRank"
cell_word PartElement = codes "PartElement"
cell_word BadGo = codes "BadGo"
cell_word Needs = codes "Needs"
cell_word BadInput = codes "BadInput"
cell_word Unguarded = codes "Unguarded"
cell_word NotCovered = codes "NotCovered"
cell_word Overlap = codes "Overlap"

abbrev pub link_word : LinkCause → List ℕ
link_word NotRising = codes "NotRising"
link_word OutOfSource = codes "OutOfSource"
link_word OutOfTarget = codes "OutOfTarget"
link_word BadBump = codes "BadBump"
link_word NotAtomic = codes "NotAtomic"
link_word BadAtomic = codes "BadAtomic"
link_word ToInput = codes "ToInput"

abbrev pub mark_word : MarkFlaw → List ℕ
mark_word (BadDone r) = codes "BadDone"
mark_word (BadResult i) = codes "BadResult"
mark_word (NoResult d) = codes "NoResult"
mark_word (EarlyEntry i) = codes "EarlyEntry"
mark_word (BarrierOpen i) = codes "BarrierOpen"

abbrev pub given_word : GivenRefusal → List ℕ
given_word givens.BadPlan = codes "BadPlan"
given_word givens.TooMany = codes "TooMany"
given_word givens.Unended = codes "Unended"
given_word givens.AfterEnd = codes "AfterEnd"

abbrev pub name_word : TextRefusal → List ℕ
name_word (texts.Description name) = refusal_word name
name_word (texts.Plan name) = given_word name

-- ---- the line

-- an element of a buffer of this name at a rank
abbrev pub value_words : List ℕ → ℕ → ℕ → List (List ℕ)
value_words name r place = codes "Value" ∷ name ∷ decimal r ∷ decimal place ∷ []

abbrev pub cause_words : GivenCause → List (List ℕ)
cause_words (causes.Plan cause) = plan_word cause ∷ []
cause_words (causes.Cell cause) = cell_word cause ∷ []
cause_words (causes.Link cause) = link_word cause ∷ []
cause_words (causes.Mark flaw) = mark_word flaw ∷ []
cause_words (causes.Value name r place) = value_words name r place

-- the word of what is answered, the number of the line, and why
abbrev pub answer_line : GivenAnswer → List ℕ
answer_line Holds = line (codes "holds" ∷ [])
answer_line (Fails n cause) = line (codes "fails" ∷ decimal n ∷ cause_words cause)
answer_line (Unknown n name r place) = line (codes "unknown" ∷ decimal n ∷ value_words name r place)
answer_line (Refused n name) = line (codes "refused" ∷ decimal n ∷ name_word name ∷ [])
