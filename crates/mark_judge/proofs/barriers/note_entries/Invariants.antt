use Rattle.std.proofs.Common.{ℕ, false, ◌≡◌, ◌<◌, ◌||◌, length, get_or}
use Rattle.std.specs.List.{list_any}
use Rattle.mark_judge.specs.Due.{mark_at}
use Rattle.mark_judge.specs.Tables.{AreKept, does_miss}
use Rattle.mark_judge.proofs.barriers.note_entries.Given as goal

abbrev pub invariant-loop-roots : goal.invariant-loop-roots
invariant-loop-roots l = record {
  many : length l.unmet.items ≡ length l.marks;
  room : length l.words.items ≡ length l.plan.cells;
  kept : AreKept l.left (length l.plan.cells) l.roots;
  noted : (i : ℕ) → i < length l.marks → (get_or l.unmet.items i false || list_any (does_miss l.plan (mark_at l.marks i)) l.left)
      ≡ (get_or l.fn.unmet.items i false || list_any (does_miss l.plan (mark_at l.marks i)) l.entries);
}

abbrev pub decreases-loop-roots : goal.decreases-loop-roots
decreases-loop-roots l = length l.left
