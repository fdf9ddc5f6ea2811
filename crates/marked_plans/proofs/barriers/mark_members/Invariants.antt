use Rattle.std.proofs.Common.{◌≡◌, ◌++◌}
use Rattle.std.specs.List.{flat_map}
use Rattle.number_lists.specs.Numbers.{from_to}
use Rattle.marked_plans.specs.Marks.{member_marks}
use Rattle.marked_plans.proofs.barriers.mark_members.Given as goal

abbrev pub invariant-loop-place : goal.invariant-loop-place
invariant-loop-place l = l.marks.items ≡ l.fn.marks.items ++ flat_map (member_marks l.step l.first l.members) (from_to 0 l.place)
