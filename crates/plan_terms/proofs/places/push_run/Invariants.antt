use Rattle.std.proofs.Common.{◌≡◌, ◌++◌}
use Rattle.number_lists.specs.Numbers.{from_to}
use Rattle.plan_terms.proofs.places.push_run.Given as goal

abbrev pub invariant-loop-k : goal.invariant-loop-k
invariant-loop-k l = l.places.items ≡ l.initial.places.items ++ from_to l.first l.k
