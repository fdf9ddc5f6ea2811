use Rattle.std.proofs.Common.{◌≡◌, length}
use Rattle.mark_judge.proofs.Bits.{AreClearTo}
use Rattle.mark_judge.proofs.entries.clear.Given as goal

abbrev pub invariant-loop-c : goal.invariant-loop-c
invariant-loop-c l = record {
  many : length l.words.items ≡ length l.initial.words.items;
  none : AreClearTo l.c l.words.items;
}
