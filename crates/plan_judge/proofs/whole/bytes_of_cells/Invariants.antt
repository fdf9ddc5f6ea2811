-- A length fits 64 bits.
use Rattle.std.proofs.Common.{◌≡◌, ◌≤◌, ◌*◌, take}
use Rattle.std.specs.List.{sum_by}
use Rattle.plan_judge.proofs.whole.bytes_of_cells.Given as goal

abbrev pub invariant-loop-cell : goal.invariant-loop-cell
invariant-loop-cell l = (l.bytes ≡ sum_by (λ k. k.length) (take l.cell-index l.cells)) × (l.bytes ≤ l.cell-index * 18446744073709551616)
