-- Lines and words of faults.
use Rattle.std.specs.Prelude.{ℕ, ◌+◌, List, length}
use Rattle.given_lines.specs.declared.given.Mark.{Mark}
use Rattle.mark_judge.specs.declared.flaw.MarkFlaw.{MarkFlaw}
use Rattle.mark_judge.specs.declared.flaw.MarkFlaw.TheVariants.{BadDone, BadResult, NoResult, EarlyEntry, BarrierOpen}
use Rattle.plan_core.specs.Plan.{Plan}

-- the line of the `done` line of rank 0, where the plan's text begins with this line
abbrev pub first_done : ℕ → Plan → ℕ
first_done first p = first + 1 + length p.cells + length p.links

-- The line at fault. What is missing is missing at the line `end`.
abbrev pub line_of : ℕ → Plan → List Mark → MarkFlaw → ℕ
line_of first p ms (BadDone r) = first_done first p + r
line_of first p ms (BadResult i) = first_done first p + p.ranks + i
line_of first p ms (NoResult d) = first_done first p + p.ranks + length ms
line_of first p ms (EarlyEntry i) = first_done first p + p.ranks + i
line_of first p ms (BarrierOpen i) = first_done first p + p.ranks + i
