use Rattle.std.proofs.Common.{◌≡◌, ◌+◌, take}
use Rattle.std.specs.List.{sum_by}
use Rattle.schedule_compiler.specs.declared.shapes.judging.TheConstants.{MOST_BYTES}
use Rattle.given_verdicts.proofs.for_inputs.are_large.Given as goal

abbrev pub invariant-loop-cell : goal.invariant-loop-cell
invariant-loop-cell l = l.left + sum_by (λ c. c.length) (take l.cell-index l.cells) ≡ MOST_BYTES
