use Rattle.std.proofs.Common.{◌≡◌}
use Rattle.coll_shape.specs.Folding.{reduced}
use Rattle.coll_meaning.proofs.folding.reduced.Given as goal

abbrev pub invariant-loop-i : goal.invariant-loop-i
invariant-loop-i l = l.so_far.items ≡ reduced l.op l.ty l.i l.xs
