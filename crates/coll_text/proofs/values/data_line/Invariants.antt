use Rattle.std.proofs.Common.{◌≡◌, length}
use Rattle.coll_text.specs.Text.{words}
use Rattle.coll_text.specs.Values.{data_line}
use Rattle.coll_text.proofs.Data.{left_over}
use Rattle.coll_text.proofs.values.data_line.Given as goal

-- the whole line is judged as what is left is
abbrev pub invariant-loop-word : goal.invariant-loop-word
invariant-loop-word l = data_line l.ty l.count (words l.line) ≡ left_over l.ty l.left l.is_bad l.out.items l.words

abbrev pub decreases-loop-word : goal.decreases-loop-word
decreases-loop-word l = length l.words
