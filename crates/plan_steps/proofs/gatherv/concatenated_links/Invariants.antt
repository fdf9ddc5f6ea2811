use Rattle.std.proofs.Common.{◌≡◌, ◌∷◌, map}
use Rattle.plan_core.specs.Plan.{from_to}
use Rattle.plan_steps.specs.StepContext.{bump, entry}
use Rattle.plan_steps.specs.Collectives.Gatherv.{holder_put}
use Rattle.plan_steps.proofs.gatherv.concatenated_links.Given as goal

abbrev pub invariant-loop-i : goal.invariant-loop-i
invariant-loop-i l = l.links.items ≡ bump (entry l.site l.root) ∷ map (holder_put l.site) (from_to 0 l.i)
