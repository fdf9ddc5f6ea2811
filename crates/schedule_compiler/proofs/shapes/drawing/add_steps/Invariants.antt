use Rattle.std.proofs.Common.{◌≡◌}
use Rattle.schedule_compiler.specs.shapes.Drawing.{drawn_upto}
use Rattle.schedule_compiler.proofs.shapes.drawing.add_steps.Given as goal

abbrev pub invariant-loop-k : goal.invariant-loop-k
invariant-loop-k l = l.drawing ≡ drawn_upto l.shape l.k
