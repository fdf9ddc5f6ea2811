use Rattle.std.proofs.Common.{◌≡◌}
use Rattle.schedule_compiler.specs.shapes.Drawing.{drawn_inputs}
use Rattle.schedule_compiler.proofs.shapes.drawing.add_inputs.Given as goal

abbrev pub invariant-loop-b : goal.invariant-loop-b
invariant-loop-b l = l.drawing ≡ drawn_inputs l.shape l.b
