-- One end more in each turn.
use Rattle.std.proofs.Common.{◌≡◌, ap, ap₂, ◌∙◌, sym, arith, map, ◌++◌, ◌∷◌, []}
use Rattle.plan_core.specs.Plan.{from_to}
use Rattle.plan_core.proofs.Drawing.{row-more}
use Rattle.plan_steps.specs.StepContext.{count}
use Rattle.plan_steps.proofs.collective.ends_of.Goals as goal

pub loop-place-preserved : goal.loop-place-preserved
loop-place-preserved g c =
    c.in_ok-push_end.ensures
    ∙ ap₂ (λ v k. v ++ k ∷ []) c.loop-place.invariant c.end.ensures
    ∙ sym (row-more (g.C.Collective.end c.args.collective.now c.args.site.now) c.loop-place.place)

pub returns : goal.returns
returns g c =
    let n = c.count-place-end.ensures.value in
    let t = c.loop-place-test.false in
    let u = c.loop-place.auto in
    c.loop-place.invariant
    ∙ ap (λ n. map (g.C.Collective.end c.args.collective.now c.args.site.now) (from_to 0 n))
    (let e : c.loop-place.place ≡ count c.args.site.now = omega (arith, n, t, u) in e)
