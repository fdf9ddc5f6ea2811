use Rattle.std.proofs.Common.{◌≡◌, length}
use Rattle.mark_judge.proofs.Bits.{AreBegunTo}
use Rattle.mark_judge.proofs.entries.begin.Given as goal

abbrev pub invariant-loop-k : goal.invariant-loop-k
invariant-loop-k l = record {
  many : length l.words.items ≡ length l.fn.words.items;
  begun : AreBegunTo l.entries (length l.fn.words.items) l.k l.words.items;
}
