-- What is said of a plan that isn't right.
use Rattle.std.specs.Prelude.{ℕ, ◌+◌, ◌-◌, ◌/◌, ◌%◌, ◌^◌, min, nat_lt, List, [], length, get_or, codes}
use Rattle.std.specs.Fmt.{decimal}
use Rattle.given_lines.specs.declared.given.Mark.{Mark}
use Rattle.given_verdicts.specs.declared.answer.GivenCause.{GivenCause}
use Rattle.given_verdicts.specs.declared.answer.GivenCause.TheVariants as causes
use Rattle.mark_judge.specs.declared.flaw.Due.{Due}
use Rattle.mark_judge.specs.declared.flaw.Due.TheVariants as dues
use Rattle.mark_judge.specs.declared.flaw.MarkFlaw.{MarkFlaw}
use Rattle.mark_judge.specs.declared.flaw.MarkFlaw.TheVariants.{BadDone, BadResult, NoResult, EarlyEntry, BarrierOpen}
use Rattle.mark_judge.specs.Due.{cell_of, due_of, mark_at}
use Rattle.plan_core.specs.Plan.{Plan, link}
use Rattle.plan_core.specs.calls.RankOps.{done_threshold}
use Rattle.plan_judge.specs.declared.flaw.CellCause.{CellCause}
use Rattle.plan_judge.specs.declared.flaw.LinkCause.{LinkCause}
use Rattle.text_notes.specs.notes.Shown.{then_shown}
use Rattle.plan_top.specs.declared.notes.again.GivenText.{GivenText}
use Rattle.plan_top.specs.declared.notes.parts.Subject.{Subject}
use Rattle.plan_top.specs.notes.Parts.{shown}
use Rattle.plan_top.specs.notes.Table.{cell_message, early_message, link_message, missing_message, named_message, open_message}

-- ---- what a message is about

-- cell c, and the input whose list it would hold: input by input, and by rank in each
abbrev pub of_cell : Plan → ℕ → Subject
of_cell p c =
    record { cell = c; source = 0; link = 0; buffer = (c - p.ranks) / p.ranks; rank = (c - p.ranks) % p.ranks; step = 0 }

-- link l, and the input whose list its target would hold
abbrev pub of_link : Plan → ℕ → Subject
of_link p l = record (of_cell p (link p l).target) { source = (link p l).source; link = l }

-- a line for this, and the cell that it names
abbrev pub of_due : Due → ℕ → Subject
of_due (dues.Result b r) c = record { cell = c; source = 0; link = 0; buffer = b; rank = r; step = 0 }
of_due (dues.Enter s r) c = record { cell = c; source = 0; link = 0; buffer = 0; rank = r; step = s }
of_due (dues.Leave s r) c = record { cell = c; source = 0; link = 0; buffer = 0; rank = r; step = s }

abbrev pub of_mark : Mark → Subject
of_mark m = of_due (due_of m) (cell_of m)

-- ---- a cell, a link

-- the cell whose line is line n
abbrev pub cell_words : GivenText → ℕ → CellCause → List ℕ
cell_words t n cause = shown t.given.plan t.description.shape (of_cell t.given.plan (n - (t.line + 1))) (cell_message cause)

-- the link whose line is line n
abbrev pub link_words : GivenText → ℕ → LinkCause → List ℕ
link_words t n cause =
    shown t.given.plan t.description.shape (of_link t.given.plan (n - (t.line + 1) - length t.given.plan.cells)) (link_message cause)

-- ---- a line after the links

abbrev pub line_words : GivenText → Mark → List ℕ
line_words t m =
    shown t.given.plan t.description.shape (of_mark m) (named_message (due_of m) (nat_lt (cell_of m) (length t.given.plan.cells)))

-- a counter at 2^64 or above counts as the number below
abbrev pub done_words : GivenText → ℕ → List ℕ
done_words t r =
    let says = then_shown (then_shown (then_shown [] (codes "done ")) (decimal r)) (codes " says ") in
    let at = then_shown (then_shown says (decimal (get_or t.given.done r 0))) (codes "; the counter stands, when that rank is done, at ") in
    then_shown at (decimal (min (done_threshold t.given.plan r) (2 ^ 64 - 1)))

abbrev pub mark_words : GivenText → MarkFlaw → List ℕ
mark_words t (BadDone r) = done_words t r
mark_words t (BadResult i) = line_words t (mark_at t.given.marks i)
mark_words t (NoResult d) = shown t.given.plan t.description.shape (of_due d 0) (missing_message d)
mark_words t (EarlyEntry i) = shown t.given.plan t.description.shape (of_mark (mark_at t.given.marks i)) early_message
mark_words t (BarrierOpen i) = shown t.given.plan t.description.shape (of_mark (mark_at t.given.marks i)) open_message

-- ---- what is at fault in line n

abbrev pub given_words : GivenText → ℕ → GivenCause → List ℕ
given_words t n (causes.Cell cause) = cell_words t n cause
given_words t n (causes.Link cause) = link_words t n cause
given_words t n (causes.Mark flaw) = mark_words t flaw
given_words t n _ = []

-- ---- a result

-- an element of the list of the buffer of this name at a rank, with these words after it
abbrev pub place_words : List ℕ → ℕ → ℕ → List ℕ → List ℕ
place_words name r i words =
    let list = then_shown (then_shown (then_shown [] (codes "result ")) name) (codes " ") in
    let element = then_shown (then_shown list (decimal r)) (codes ": element ") in
    then_shown (then_shown element (decimal i)) words
