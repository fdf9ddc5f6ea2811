use Rattle.std.proofs.Common.{◌≡◌}
use Rattle.order_lines.specs.Orders.{steps_of}
use Rattle.order_lines.proofs.Steps.{left_over}
use Rattle.order_lines.proofs.reading.steps_of.Given as goal

-- all words are read as what is left is
abbrev pub invariant-loop-word : goal.invariant-loop-word
invariant-loop-word l = steps_of l.ranks l.fn.words ≡ left_over l.ranks l.steps.items l.words
