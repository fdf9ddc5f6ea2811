use Rattle.std.proofs.Common.{◌≡◌, ◌+◌, ◌<◌, ◌^◌, length}
use Rattle.coll_text.specs.Text.{lines}
use Rattle.given_lines.specs.Given.{marks_from}
use Rattle.given_lines.proofs.MarksRead.{left_over}
use Rattle.given_lines.proofs.marks.marks_in.Given as goal

-- all lines are read as what is left is
abbrev pub invariant-loop-marks : goal.invariant-loop-marks
invariant-loop-marks l = record {
  read : marks_from l.buffers l.fn.left.number (lines l.fn.left.rest.now)
      ≡ left_over l.buffers l.left.number l.marks.items (lines l.left.rest.now);
  at_most : l.left.number + length l.left.rest.now < 2 ^ 32;
}

abbrev pub decreases-loop-marks : goal.decreases-loop-marks
decreases-loop-marks l = length l.left.rest.now
