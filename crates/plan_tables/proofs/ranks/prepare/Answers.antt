-- The parts stand one after the other.
use Rattle.std.proofs.Common.{[], ◌∷◌, ◌++◌, map, ap, ap₂, ◌∙◌}
use Rattle.ptl_types.specs.declared.steps.Call.TheVariants.{PtAlloc, CtDone, CtCell, MdBind}
use Rattle.plan_core.specs.calls.RankOps.RankOp.{ForLink, ForDone}
use Rattle.plan_core.specs.calls.Areas.{classes}
use Rattle.plan_core.specs.calls.Calls.{area_call, trigger}
use Rattle.plan_tables.proofs.Assembling.{prepared}
use Rattle.plan_tables.proofs.ranks.prepare.Goals as goal

pub returns-clause-calls : goal.returns-clause-calls
returns-clause-calls c =
    let p = c.args.plan.now in
    let r = c.args.r in
    let own = c.own_at-own.ensures.value in
    let out = c.out_at-out.ensures.value in
    let first = c.in_ok-push_call.ensures ∙ ap (λ v. v ++ PtAlloc ∷ []) c.in_ok-calls.ensures in
    let areas = c.in_ok-length.ensures.calls ∙ ap (λ v. v ++ map (area_call p r) (classes p r)) first in
    let second = c.in_ok-push_call-2.ensures ∙ ap (λ v. v ++ CtDone ∷ []) areas in
    let counters = c.in_ok-add_counter_calls.ensures ∙ ap₂ (λ v w. v ++ map CtCell w) second own in
    let bound = ap₂ (λ n b. MdBind n b ∷ []) c.in_ok-length.ensures.end c.remote-remote.ensures in
    let third = c.in_ok-push_call-3.ensures ∙ ap₂ (λ v w. v ++ w) counters bound in
    let links = c.in_ok-add_link_calls.ensures ∙ ap₂ (λ v w. v ++ map (λ l. trigger p (ForLink l)) w) third out in
    c.in_ok-add_done_calls.ensures ∙ ap₂ (λ v w. v ++ map (λ k. trigger p (ForDone k)) w) links own ∙ prepared p r
