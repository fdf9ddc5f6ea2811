use Rattle.std.proofs.Common.{◌≡◌, flat_map}
use Rattle.number_lists.specs.Numbers.{from_to}
use Rattle.rest_probe.specs.Lanes.{pair_lanes}
use Rattle.rest_probe.proofs.opening.counts_from.Given as goal

abbrev pub invariant-loop-d : goal.invariant-loop-d
invariant-loop-d l = l.counts.items ≡ flat_map (λ d. pair_lanes l.schedule.plan l.r d d) (from_to 0 l.d)
