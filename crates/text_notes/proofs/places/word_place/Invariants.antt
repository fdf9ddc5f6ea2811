use Rattle.std.proofs.Common.{◌≤◌, length}
use Rattle.text_notes.proofs.places.word_place.Given as goal

abbrev pub invariant-loop-left : goal.invariant-loop-left
invariant-loop-left l = l.start ≤ length l.line

abbrev pub decreases-loop-left : goal.decreases-loop-left
decreases-loop-left l = l.left
