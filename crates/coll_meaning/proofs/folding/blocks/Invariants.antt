use Rattle.std.proofs.Common.{◌≡◌, map}
use Rattle.number_lists.specs.Numbers.{from_to}
use Rattle.coll_shape.specs.Folding.{block}
use Rattle.coll_meaning.proofs.folding.blocks.Given as goal

abbrev pub invariant-loop-i : goal.invariant-loop-i
invariant-loop-i l = l.lists.items ≡ map (λ i. block l.m i l.list) (from_to 0 l.i)
