use Rattle.std.proofs.Common.{◌≡◌, map}
use Rattle.plan_core.specs.Plan.{from_to}
use Rattle.plan_steps.proofs.collective.ends_of.Given as goal

abbrev pub invariant-loop-place : goal.invariant-loop-place
invariant-loop-place g l = l.ends.items ≡ map (g.C.Collective.end l.collective l.site) (from_to 0 l.place)
