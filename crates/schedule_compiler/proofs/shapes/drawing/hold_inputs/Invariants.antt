use Rattle.std.proofs.Common.{◌≡◌}
use Rattle.schedule_compiler.specs.shapes.Drawing.{hold_row}
use Rattle.schedule_compiler.proofs.shapes.drawing.hold_inputs.Given as goal

abbrev pub invariant-loop-r : goal.invariant-loop-r
invariant-loop-r l = record {
  value : l.held ≡ hold_row l.initial.held l.b l.first l.r;
  ranks : l.held.ranks ≡ l.initial.held.ranks;
  buffers : l.held.buffers ≡ l.initial.held.buffers;
}
