use Rattle.std.proofs.Common.{◌≡◌, [], get_or}
use Rattle.coll_text.specs.Text.{lines}
use Rattle.text_notes.specs.Places.{line_at}
use Rattle.text_notes.proofs.explain.line_at.Given as goal

abbrev pub invariant-loop-left : goal.invariant-loop-left
invariant-loop-left l = line_at l.bytes l.number ≡ get_or (lines l.rest) l.left []

abbrev pub decreases-loop-left : goal.decreases-loop-left
decreases-loop-left l = l.left
