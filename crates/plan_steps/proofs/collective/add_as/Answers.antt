-- There is an end for each place.
use Rattle.std.proofs.Common.{◌≡◌, ap, ◌∙◌, length, map}
use Rattle.plan_core.specs.Draw.{add_all}
use Rattle.plan_core.proofs.Drawing.{length-row}
use Rattle.plan_steps.specs.Beginning.{site_of}
use Rattle.plan_steps.specs.Drawing.{site}
use Rattle.plan_steps.specs.StepContext.{StepContext, count, places}
use Rattle.plan_steps.proofs.Drawings.{left-as}
use Rattle.plan_steps.proofs.collective.add_as.Goals as goal

pub set_ends-requires-clause-places : goal.set_ends-requires-clause-places
set_ends-requires-clause-places g c =
    ap length c.deref.ensures.value
    ∙ ap length c.in_ok-ends.ensures
    ∙ length-row (g.C.Collective.end c.args.collective.now c.in_ok-begun.begun) 0 (count c.in_ok-begun.begun)
    ∙ ap (λ (s : StepContext). length s.members) c.in_ok-begun.ensures

pub returns : goal.returns
returns g c =
    let o = c.args.shape.now in
    let d = c.args.drawing.now in
    let m = c.args.members.now in
    let k = c.args.collective.now in
    let e : c.in_ok-begun.begun ≡ site o d c.args.step.now m =
    c.in_ok-begun.ensures ∙ ap (λ a. site_of o d.plan d.held d.exits a m) c.source.ensures in
    left-as d _ c.args.step.now m (g.C.Collective.cells k (site o d c.args.step.now m)) c.deref.result.now
    (map (g.C.Collective.end k (site o d c.args.step.now m)) (places (site o d c.args.step.now m))) c.result.result
    (c.deref.ensures.value ∙ c.in_ok-ends.ensures ∙ ap (λ v. map (g.C.Collective.end k v) (places v)) e)
    c.result.ensures
    (c.in_ok-draw.ensures ∙ ap (λ v. add_all d.plan (g.C.Collective.cells k v)) e)
    c.set_ends.ensures.held
    c.set_ends.ensures.exits
