use Rattle.std.proofs.Common.{◌≡◌, ◌+◌, ◌≤◌, length}
use Rattle.coll_text.specs.Text.{lines}
use Rattle.coll_lang.specs.States.{past}
use Rattle.coll_lang.specs.Language.{nothing, read_from}
use Rattle.coll_lang.proofs.whole.read_lines.Given as goal

abbrev pub invariant-loop-reader : goal.invariant-loop-reader
invariant-loop-reader g l = record {
  judged : read_from nothing 1 (lines l.bytes) ≡ read_from (past l.reader) l.number (lines l.rest);
  at_most : l.number + length l.rest ≤ length l.bytes + 1;
}

abbrev pub decreases-loop-reader : goal.decreases-loop-reader
decreases-loop-reader g l = length l.rest
