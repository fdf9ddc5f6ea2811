use Rattle.std.proofs.Common.{◌≡◌, length}
use Rattle.mark_judge.proofs.Opening.{AreUnmetTo}
use Rattle.mark_judge.proofs.barriers.note_unmet.Given as goal

abbrev pub invariant-loop-i : goal.invariant-loop-i
invariant-loop-i l = record {
  many : length l.unmet.items ≡ length l.marks;
  noted : AreUnmetTo l.initial.unmet.items l.roots l.words l.entries l.marks l.i l.unmet.items;
}
