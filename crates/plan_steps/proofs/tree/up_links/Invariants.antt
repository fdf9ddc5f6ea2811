use Rattle.std.proofs.Common.{suc, ◌≡◌, ◌-◌, ◌∷◌, map}
use Rattle.plan_steps.specs.StepContext.{atomic, entry}
use Rattle.plan_steps.specs.Trees.{children, turned, up_number}
use Rattle.plan_steps.proofs.tree.up_links.Given as goal

abbrev pub invariant-loop-w : goal.invariant-loop-w
invariant-loop-w l = l.links.items ≡ map (atomic l.site.length)
    (entry l.site (turned l.site l.root l.v) ∷ map (up_number l.site) (children l.v (suc l.v) (l.w - suc l.v)))
