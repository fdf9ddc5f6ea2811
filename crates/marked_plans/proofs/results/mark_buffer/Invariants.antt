use Rattle.std.proofs.Common.{◌≡◌, ◌++◌}
use Rattle.std.specs.List.{flat_map}
use Rattle.number_lists.specs.Numbers.{from_to}
use Rattle.plan_core.specs.Draw.{held_cell}
use Rattle.marked_plans.specs.Marks.{result_mark}
use Rattle.marked_plans.proofs.results.mark_buffer.Given as goal

abbrev pub invariant-loop-rank : goal.invariant-loop-rank
invariant-loop-rank l =
    l.marks.items ≡ l.fn.marks.items ++ flat_map (λ r. result_mark l.buffer r (held_cell l.held l.buffer r)) (from_to 0 l.rank)
