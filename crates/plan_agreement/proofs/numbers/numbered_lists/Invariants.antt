use Rattle.std.proofs.Common.{◌≡◌, ◌/◌, map}
use Rattle.number_lists.specs.Numbers.{from_to}
use Rattle.coll_shape.specs.Outline.{buffer_at, list_bytes}
use Rattle.plan_agreement.specs.Witness.{numbered_list}
use Rattle.plan_agreement.proofs.numbers.numbered_lists.Given as goal

abbrev pub invariant-loop-i : goal.invariant-loop-i
invariant-loop-i l =
    l.lists.items ≡ map (λ i. numbered_list l.unit i (list_bytes (buffer_at l.shape (i / l.shape.ranks)))) (from_to 0 l.i)
