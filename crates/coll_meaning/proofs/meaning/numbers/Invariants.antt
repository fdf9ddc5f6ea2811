use Rattle.std.proofs.Common.{◌≡◌}
use Rattle.number_lists.specs.Numbers.{from_to}
use Rattle.coll_meaning.proofs.meaning.numbers.Given as goal

abbrev pub invariant-loop-i : goal.invariant-loop-i
invariant-loop-i l = l.numbers.items ≡ from_to 0 l.i
