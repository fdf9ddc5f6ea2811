-- One holder more in each turn.
use Rattle.std.proofs.Common.{ap, ap₂, ◌∙◌, sym, ◌++◌, ◌∷◌, []}
use Rattle.plan_core.proofs.Drawing.{row-more}
use Rattle.plan_steps.specs.StepContext.{bump, entry}
use Rattle.plan_steps.specs.Collectives.Gatherv.{holder_put}
use Rattle.plan_steps.proofs.gatherv.concatenated_links.Goals as goal

pub loop-i-preserved : goal.loop-i-preserved
loop-i-preserved c =
    c.in_ok-push-2.ensures.items
    ∙ ap₂ (λ v k. v ++ k ∷ []) c.loop-i.invariant c.holder_put.ensures
    ∙ ap (λ v. bump (entry c.args.site.now c.args.root) ∷ v) (sym (row-more (holder_put c.args.site.now) c.loop-i.i))
