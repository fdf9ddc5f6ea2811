use Rattle.std.proofs.Common.{◌≡◌, length}
use Rattle.std.specs.List.{flat_map}
use Rattle.number_lists.specs.Numbers.{from_to}
use Rattle.coll_shape.specs.Folding.{at, block}
use Rattle.coll_meaning.proofs.folding.exchanged.Given as goal

abbrev pub invariant-loop-q : goal.invariant-loop-q
invariant-loop-q l = l.bytes.items ≡ flat_map (λ q. block (length l.xs) l.i (at l.xs q)) (from_to 0 l.q)
