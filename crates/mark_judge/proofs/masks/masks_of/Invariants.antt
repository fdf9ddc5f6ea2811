use Rattle.std.proofs.Common.{◌≡◌, length}
use Rattle.coll_shape.specs.declared.limits.TheConstants.{MOST_STEPS}
use Rattle.mark_judge.proofs.Bits.{AreMasksTo}
use Rattle.mark_judge.proofs.masks.masks_of.Given as goal

abbrev pub invariant-loop-k : goal.invariant-loop-k
invariant-loop-k l = record {
  many : length l.masks.items ≡ MOST_STEPS;
  told : AreMasksTo l.entries MOST_STEPS l.k l.masks.items;
}
