-- Which message each cause has: words, with a `%` for each part in its place, and the parts.
use Rattle.std.specs.Prelude.{ℕ, Bool, true, false, List, [], ◌∷◌, codes}
use Rattle.plan_judge.specs.declared.flaw.PlanCause.{PlanCause}
use Rattle.plan_judge.specs.declared.flaw.PlanCause.TheVariants.{NoRank, TooManyRanks, MissingCells, TooManyCells, TooManyLinks}
use Rattle.plan_judge.specs.declared.flaw.PlanCause.TheVariants.{TooManyBytes}
use Rattle.plan_judge.specs.declared.flaw.CellCause.{CellCause}
use Rattle.plan_judge.specs.declared.flaw.CellCause.TheVariants.{BadRank, PartElement, BadGo, Needs, BadInput, Unguarded, NotCovered}
use Rattle.plan_judge.specs.declared.flaw.CellCause.TheVariants.{Overlap}
use Rattle.plan_judge.specs.declared.flaw.LinkCause.{LinkCause}
use Rattle.plan_judge.specs.declared.flaw.LinkCause.TheVariants.{NotRising, OutOfSource, OutOfTarget, BadBump, NotAtomic, BadAtomic}
use Rattle.plan_judge.specs.declared.flaw.LinkCause.TheVariants.{ToInput}
use Rattle.mark_judge.specs.declared.flaw.Due.{Due}
use Rattle.mark_judge.specs.declared.flaw.Due.TheVariants as dues
use Rattle.plan_top.specs.declared.notes.parts.OfCell.TheVariants as of_cell
use Rattle.plan_top.specs.declared.notes.parts.OfLink.TheVariants as of_link
use Rattle.plan_top.specs.declared.notes.parts.OfList.TheVariants as of_list
use Rattle.plan_top.specs.declared.notes.parts.Part.{Part}
use Rattle.plan_top.specs.declared.notes.parts.Part.TheVariants as parts

abbrev pub Message : Type 0
Message = List ℕ × List Part

abbrev pub plan_words : PlanCause → List ℕ
plan_words NoRank = codes "the plan has no rank"
plan_words TooManyRanks = codes "the plan has more than 256 ranks"
plan_words MissingCells = codes "the plan has fewer cells than go cells and cells of inputs"
plan_words TooManyCells = codes "the plan has 16777216 cells or more"
plan_words TooManyLinks = codes "the plan has 4294967295 cells and links or more"
plan_words TooManyBytes = codes "the cells and links of the plan have 2^64 bytes or more"

abbrev pub cell_message : CellCause → Message
cell_message BadRank = (
  codes "cell % has rank %; each rank is below %",
  parts.Cell of_cell.Number ∷ parts.Cell of_cell.Rank ∷ parts.Ranks ∷ [],
)
cell_message PartElement = (
  codes "cell % at rank % has % bytes; an element of type % has %",
  parts.Cell of_cell.Number ∷ parts.Cell of_cell.Rank ∷ parts.Cell of_cell.Length ∷ parts.Cell of_cell.Type
      ∷ parts.Cell of_cell.Element ∷ [],
)
cell_message BadGo = (
  codes "cell % has rank %, % bytes, needs %, links to it %; the go cell of rank % has its rank, 0 bytes, needs 1, links 0",
  parts.Cell of_cell.Number ∷ parts.Cell of_cell.Rank ∷ parts.Cell of_cell.Length ∷ parts.Cell of_cell.Needs
      ∷ parts.Cell of_cell.Links ∷ parts.Cell of_cell.Number ∷ [],
)
cell_message Needs = (
  codes "cell % at rank % needs %; the links to it are %",
  parts.Cell of_cell.Number ∷ parts.Cell of_cell.Rank ∷ parts.Cell of_cell.Needs ∷ parts.Cell of_cell.Links ∷ [],
)
cell_message BadInput = (
  codes "cell % has rank %, operation % and % bytes; the cell of input % has rank %, operation - and % bytes",
  parts.Cell of_cell.Number ∷ parts.Cell of_cell.Rank ∷ parts.Cell of_cell.Operation ∷ parts.Cell of_cell.Length
      ∷ parts.List of_list.Name ∷ parts.Rank ∷ parts.List of_list.Length ∷ [],
)
cell_message Unguarded = (
  codes "cell % holds input % of rank %; no chain of bumps leads to it from cell %, the go cell of that rank",
  parts.Cell of_cell.Number ∷ parts.List of_list.Name ∷ parts.Rank ∷ parts.Rank ∷ [],
)
cell_message NotCovered = (
  codes "cell % at rank % has % bytes; the links to it bring %",
  parts.Cell of_cell.Number ∷ parts.Cell of_cell.Rank ∷ parts.Cell of_cell.Length ∷ parts.Cell of_cell.Puts ∷ [],
)
cell_message Overlap = (
  codes "cell % at rank % has % bytes; two of the puts to it write the same byte",
  parts.Cell of_cell.Number ∷ parts.Cell of_cell.Rank ∷ parts.Cell of_cell.Length ∷ [],
)

abbrev pub link_message : LinkCause → Message
link_message NotRising = (
  codes "link % goes from cell % to cell %; a link goes from a lower cell to a higher one, below %",
  parts.Link of_link.Number ∷ parts.Source of_cell.Number ∷ parts.Cell of_cell.Number ∷ parts.Cells ∷ [],
)
link_message OutOfSource = (
  codes "link % takes % bytes from offset % on; its source, cell %, has % bytes",
  parts.Link of_link.Number ∷ parts.Link of_link.Length ∷ parts.Link of_link.From ∷ parts.Source of_cell.Number
      ∷ parts.Source of_cell.Length ∷ [],
)
link_message OutOfTarget = (
  codes "link % writes % bytes from offset % on; its target, cell %, has % bytes",
  parts.Link of_link.Number ∷ parts.Link of_link.Length ∷ parts.Link of_link.To ∷ parts.Cell of_cell.Number
      ∷ parts.Cell of_cell.Length ∷ [],
)
link_message BadBump = (
  codes "link % is a bump from rank % to rank % with % bytes; a bump stays on its rank and carries none",
  parts.Link of_link.Number ∷ parts.Source of_cell.Rank ∷ parts.Cell of_cell.Rank ∷ parts.Link of_link.Length ∷ [],
)
link_message NotAtomic = (
  codes "link % is a %; its target, cell %, combines by %, and only an atomic may come to it",
  parts.Link of_link.Number ∷ parts.Link of_link.Kind ∷ parts.Cell of_cell.Number ∷ parts.Cell of_cell.Operation ∷ [],
)
link_message BadAtomic = (
  codes "link % combines % bytes at %, cell % (%, % bytes) to cell % (%, % bytes, %); it needs a whole cell that combines, from its like",
  parts.Link of_link.Number ∷ parts.Link of_link.Length ∷ parts.Link of_link.To ∷ parts.Source of_cell.Number
      ∷ parts.Source of_cell.Type ∷ parts.Source of_cell.Length ∷ parts.Cell of_cell.Number ∷ parts.Cell of_cell.Type
      ∷ parts.Cell of_cell.Length ∷ parts.Cell of_cell.Operation ∷ [],
)
link_message ToInput = (
  codes "link % is a %; its target, cell %, holds input % of rank %, and only a bump may come to it",
  parts.Link of_link.Number ∷ parts.Link of_link.Kind ∷ parts.Cell of_cell.Number ∷ parts.List of_list.Name ∷ parts.Rank ∷ [],
)

abbrev pub no_such_cell : Message
no_such_cell = (codes "the line names cell %; the plan has % cells", parts.Cell of_cell.Number ∷ parts.Cells ∷ [])

-- of a line for this, which names a cell that the plan has or not
abbrev pub named_message : Due → Bool → Message
named_message due false = no_such_cell
named_message (dues.Result b r) true = (
  codes "result % % names cell %, of rank %, %, % bytes; each printed list has one line, for a cell of its rank, %, % bytes",
  parts.List of_list.Name ∷ parts.Rank ∷ parts.Cell of_cell.Number ∷ parts.Cell of_cell.Rank ∷ parts.Cell of_cell.Type
      ∷ parts.Cell of_cell.Length ∷ parts.List of_list.Type ∷ parts.List of_list.Length ∷ [],
)
named_message (dues.Enter s r) true = (
  codes "enter % % names cell %, of rank %; each member of a barrier has one such line, for a cell of its rank",
  parts.Step ∷ parts.Rank ∷ parts.Cell of_cell.Number ∷ parts.Cell of_cell.Rank ∷ [],
)
named_message (dues.Leave s r) true = (
  codes "leave % % names cell %, of rank %; each member of a barrier has one such line, for a cell of its rank",
  parts.Step ∷ parts.Rank ∷ parts.Cell of_cell.Number ∷ parts.Cell of_cell.Rank ∷ [],
)

-- where there is no line for this
abbrev pub missing_message : Due → Message
missing_message (dues.Result b r) = (codes "no line result % % stands before the line end", parts.List of_list.Name ∷ parts.Rank ∷ [])
missing_message (dues.Enter s r) = (codes "no line enter % % stands before the line end", parts.Step ∷ parts.Rank ∷ [])
missing_message (dues.Leave s r) = (codes "no line leave % % stands before the line end", parts.Step ∷ parts.Rank ∷ [])

-- of an entry into a barrier that may come before its rank's start
abbrev pub early_message : Message
early_message = (
  codes "rank % enters step % at cell %, before its own start: no message and no bumps after one come there",
  parts.Rank ∷ parts.Step ∷ parts.Cell of_cell.Number ∷ [],
)

-- of a barrier that doesn't hold back what comes after it
abbrev pub open_message : Message
open_message = (
  codes "rank % leaves step % at cell %; from some cell where a rank enters that step no chain of links leads there",
  parts.Rank ∷ parts.Step ∷ parts.Cell of_cell.Number ∷ [],
)
