use Rattle.std.proofs.Common.{◌≡◌, length}
use Rattle.number_lists.specs.Numbers.{from_to}
use Rattle.coll_lang.proofs.take.all_ranks.Given as goal

abbrev pub invariant-loop-r : goal.invariant-loop-r
invariant-loop-r l = record {
  are : l.list.items ≡ from_to 0 l.r;
  many : length l.list.items ≡ l.r;
}
