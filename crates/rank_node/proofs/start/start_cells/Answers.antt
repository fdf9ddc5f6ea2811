use Rattle.rank_node.proofs.Started.{started-turn}
use Rattle.rank_node.proofs.start.start_cells.Goals as goal

pub loop-cell-preserved : goal.loop-cell-preserved
loop-cell-preserved c = record {
  started = started-turn _ c.args.cells.now c.args.own.now c.args.nic.now c.loop-cell.nic c.start_cell.new.nic c.args.kept.now
      c.loop-cell.kept c.start_cell.new.kept
      c.loop-cell.cell-index _ c.loop-cell-test.true c.loop-cell.invariant.started c.start_cell.ensures.started;
  buffer = c.start_cell.ensures.buffer;
}
