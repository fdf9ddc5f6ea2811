-- There are marks for all places.
use Rattle.std.proofs.Common.{◌≤◌, length}
use Rattle.engine_cases.proofs.parts.marks.marks_are_counted_and_found_in_order.Given as goal

abbrev pub invariant-loop-place : goal.invariant-loop-place
invariant-loop-place g l = 200 ≤ length l.marks

abbrev pub invariant-loop-i : goal.invariant-loop-i
invariant-loop-i g l = 200 ≤ length l.marks
