use Rattle.std.proofs.Common.{◌≡◌, ◌+◌, ◌<◌, ◌^◌, length}
use Rattle.coll_text.specs.Text.{lines}
use Rattle.given_lines.specs.Given.{rows}
use Rattle.given_lines.specs.Words.{link_of}
use Rattle.given_lines.proofs.RowsRead.{left_over}
use Rattle.given_lines.proofs.rows.links_in.Given as goal

-- all lines are read as what is left is
abbrev pub invariant-loop-n : goal.invariant-loop-n
invariant-loop-n l = record {
  read : rows link_of l.count 0 l.fn.left.number (lines l.fn.left.rest.now)
      ≡ left_over link_of l.count l.n l.left.number l.links.items (lines l.left.rest.now);
  number : l.left.number ≡ l.fn.left.number + l.n;
  at_most : l.left.number + length l.left.rest.now < 2 ^ 32;
}
