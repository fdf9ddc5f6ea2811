-- Which line of a plan's text is due, and what is said of a text that is refused there.
use Rattle.std.specs.Prelude.{ℕ, ◌+◌, ◌-◌, ◌==◌, nat_le, nat_lt, List, [], ◌∷◌, Option, Some, None, unwrap_or, length, codes, if◌then◌else◌}
use Rattle.std.specs.Fmt.{decimal}
use Rattle.coll_text.specs.Text.{lines, words}
use Rattle.given_lines.specs.declared.fault.GivenRefusal.{GivenRefusal}
use Rattle.given_lines.specs.declared.fault.GivenRefusal.TheVariants.{AfterEnd, BadPlan, TooMany, Unended}
use Rattle.given_lines.specs.Words.{short_of}
use Rattle.given_verdicts.specs.declared.judging.TheConstants.{LONGEST_GIVEN}
use Rattle.order_lines.specs.Check.{line_after}
use Rattle.text_notes.specs.Places.{line_at}
use Rattle.text_notes.specs.notes.Shown.{then_shown}
use Rattle.plan_top.specs.declared.notes.dues.DueLine.{DueLine}
use Rattle.plan_top.specs.declared.notes.dues.DueLine.TheVariants.{Head, Cell, Link, Done, Mark}
use Rattle.plan_top.specs.declared.notes.dues.Head.{Head as HeadLine}

-- a number below 2^32; 0 for another word
abbrev pub number_of : List ℕ → ℕ
number_of word = unwrap_or (short_of word) 0

-- `plan RANKS CELLS LINKS`
unfoldable pub head_of : List (List ℕ) → Option HeadLine
head_of (key ∷ ranks ∷ cells ∷ links ∷ rest) =
    Some (record { ranks = number_of ranks; cells = number_of cells; links = number_of links })
head_of _ = None

-- the line that stands so many lines after the first one, which says this
abbrev pub due_in : Option HeadLine → ℕ → DueLine
due_in None row = Head
due_in (Some h) row =
    if row == 0 then Head
    else if nat_le row h.cells then Cell (row - 1)
    else if nat_le row (h.cells + h.links) then Link (row - 1 - h.cells)
    else if nat_le row (h.cells + h.links + h.ranks) then Done (row - 1 - h.cells - h.links)
    else Mark

-- the line of a plan's text that is due as line n of a text in which it follows a description
abbrev pub due_at : List ℕ → ℕ → DueLine
due_at bytes n =
    let first = line_after 1 (lines bytes) in
    if nat_lt LONGEST_GIVEN (length bytes) then Head else due_in (head_of (words (line_at bytes first))) (n - first)

-- the form of a line, with its number
abbrev pub numbered : List ℕ → List ℕ → ℕ → List ℕ → List ℕ
numbered text name n rest = then_shown (then_shown (then_shown text name) (decimal n)) rest

abbrev pub with_due : List ℕ → DueLine → List ℕ
with_due text Head = then_shown text (codes "plan RANKS CELLS LINKS, and local or remote")
with_due text (Cell c) = numbered text (codes "cell ") c (codes " RANK TYPE OP LENGTH NEEDS")
with_due text (Link l) = numbered text (codes "link ") l (codes " SOURCE SOURCE_OFFSET LENGTH TARGET TARGET_OFFSET KIND")
with_due text (Done r) = numbered text (codes "done ") r (codes " THRESHOLD")
with_due text Mark = then_shown text (codes "result NAME RANK CELL, enter STEP RANK CELL, leave STEP RANK CELL, or end")

abbrev pub refused_words : List ℕ → ℕ → GivenRefusal → List ℕ
refused_words bytes n BadPlan = with_due (then_shown [] (codes "this line is due: ")) (due_at bytes n)
refused_words bytes n TooMany = then_shown [] (codes "the plan has more than 500000 links")
refused_words bytes n Unended =
    with_due (then_shown [] (codes "no line feed stands here or after it; this line is due: ")) (due_at bytes n)
refused_words bytes n AfterEnd = then_shown [] (codes "something stands after the line end")
