use Rattle.std.proofs.Common.{◌≡◌, map}
use Rattle.number_lists.specs.Numbers.{from_to}
use Rattle.coll_shape.specs.Outline.{buffer_at, list_bytes}
use Rattle.given_verdicts.proofs.judging.input_lengths.Given as goal

abbrev pub invariant-loop-b : goal.invariant-loop-b
invariant-loop-b l = l.lengths.items ≡ map (λ b. list_bytes (buffer_at l.shape b)) (from_to 0 l.b)
