use Rattle.std.proofs.Common.{◌≡◌, ◌++◌}
use Rattle.std.specs.List.{flat_map}
use Rattle.number_lists.specs.Numbers.{from_to}
use Rattle.marked_plans.specs.Marks.{print_marks}
use Rattle.marked_plans.proofs.results.mark_results.Given as goal

abbrev pub invariant-loop-print : goal.invariant-loop-print
invariant-loop-print l = l.marks.items ≡ l.fn.marks.items ++ flat_map (print_marks l.shape l.held) (from_to 0 l.print)
