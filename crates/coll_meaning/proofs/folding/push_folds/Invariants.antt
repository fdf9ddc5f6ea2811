use Rattle.std.proofs.Common.{◌≡◌, ◌++◌, suc, map}
use Rattle.number_lists.specs.Numbers.{from_to}
use Rattle.coll_shape.specs.Folding.{reduced}
use Rattle.coll_meaning.proofs.folding.push_folds.Given as goal

abbrev pub invariant-loop-i : goal.invariant-loop-i
invariant-loop-i l = record {
  so_far : l.so_far.items ≡ reduced l.op l.ty l.i l.xs;
  folds : l.folds.items ≡ l.initial.folds.items ++ map (λ i. reduced l.op l.ty (suc i) l.xs) (from_to 0 l.i);
}
