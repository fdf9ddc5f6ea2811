use Rattle.std.proofs.Common.{◌≡◌, ◌+◌, ◌≤◌, length}
use Rattle.coll_text.specs.Text.{lines}
use Rattle.order_lines.specs.Orders.{read_orders}
use Rattle.order_lines.proofs.Lines.{left_over}
use Rattle.order_lines.proofs.reading.orders_in.Given as goal

-- all lines are read as what is left is
abbrev pub invariant-loop-r : goal.invariant-loop-r
invariant-loop-r l = record {
  judged : read_orders l.ranks l.ranks 0 l.first (lines l.bytes) ≡ left_over l.ranks l.r l.number l.lists.items (lines l.rest);
  at_most : l.number + length l.rest ≤ l.first + length l.bytes;
}
