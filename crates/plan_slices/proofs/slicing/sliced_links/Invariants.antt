use Rattle.std.proofs.Common.{◌≡◌, map}
use Rattle.number_lists.specs.Numbers.{from_to}
use Rattle.plan_core.specs.Plan.{link}
use Rattle.plan_slices.specs.Slices.{cut_at, sliced_link}
use Rattle.plan_slices.proofs.slicing.sliced_links.Given as goal

abbrev pub invariant-loop-l : goal.invariant-loop-l
invariant-loop-l l = l.links.items ≡ map (λ n. sliced_link (cut_at l.cuts (link l.plan n).target) (link l.plan n)) (from_to 0 l.l)
