use Rattle.std.proofs.Common.{◌≡◌, ◌+◌, ◌<◌, ◌^◌, length}
use Rattle.coll_text.specs.Text.{lines}
use Rattle.given_lines.specs.Given.{rows}
use Rattle.given_lines.specs.Words.{done_of}
use Rattle.given_lines.proofs.RowsRead.{left_over}
use Rattle.given_lines.proofs.rows.done_in.Given as goal

-- all lines are read as what is left is
abbrev pub invariant-loop-r : goal.invariant-loop-r
invariant-loop-r l = record {
  read : rows done_of l.ranks 0 l.fn.left.number (lines l.fn.left.rest.now)
      ≡ left_over done_of l.ranks l.r l.left.number l.done.items (lines l.left.rest.now);
  number : l.left.number ≡ l.fn.left.number + l.r;
  at_most : l.left.number + length l.left.rest.now < 2 ^ 32;
}
