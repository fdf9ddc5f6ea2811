use Rattle.std.proofs.Common.{◌≤◌, take}
use Rattle.std.specs.Prelude.{vec_capacity}
use Rattle.rank_node.specs.Start.{AreStarted}
use Rattle.rank_node.proofs.start.start_cells.Given as goal

abbrev pub invariant-loop-cell : goal.invariant-loop-cell
invariant-loop-cell l = record {
  started : AreStarted l.longest l.cells (take l.cell-index l.own) l.fn.nic l.nic l.fn.kept l.kept;
  buffer : l.longest ≤ vec_capacity l.buffer;
}
