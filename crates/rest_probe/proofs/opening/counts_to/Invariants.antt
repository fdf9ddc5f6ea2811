use Rattle.std.proofs.Common.{◌≡◌, flat_map}
use Rattle.number_lists.specs.Numbers.{from_to}
use Rattle.rest_probe.specs.Lanes.{pair_lanes}
use Rattle.rest_probe.proofs.opening.counts_to.Given as goal

abbrev pub invariant-loop-s : goal.invariant-loop-s
invariant-loop-s l = l.counts.items ≡ flat_map (λ s. pair_lanes l.schedule.plan s l.r s) (from_to 0 l.s)
