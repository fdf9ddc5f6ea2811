-- One cell more in each turn.
use Rattle.std.proofs.Common.{ap₂, ◌∙◌, sym, ◌++◌, ◌∷◌, []}
use Rattle.plan_core.proofs.Drawing.{row-more}
use Rattle.plan_costs.specs.State.{awaited_first}
use Rattle.plan_costs.proofs.state.all_awaited.Goals as goal

pub loop-c-preserved : goal.loop-c-preserved
loop-c-preserved c =
    c.in_ok-push.ensures.items
    ∙ ap₂ (λ v k. v ++ k ∷ []) c.loop-c.invariant c.awaited_by.ensures
    ∙ sym (row-more (awaited_first c.args.plan.now) c.loop-c.c)
