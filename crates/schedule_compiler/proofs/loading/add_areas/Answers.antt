-- One class more in each turn.
use Rattle.std.proofs.Common.{◌≡◌, ◌++◌, flat_map, ap, ap₂, ◌∙◌, sym, append_assoc, arith}
use Rattle.plan_core.specs.Plan.{from_to}
use Rattle.plan_core.specs.calls.Areas.{blank_area}
use Rattle.schedule_compiler.proofs.Memory.{all-areas, area_of, flat-next}
use Rattle.schedule_compiler.proofs.loading.add_areas.Goals as goal

pub loop-class-preserved : goal.loop-class-preserved
loop-class-preserved c =
    let p = c.args.plan.now in
    let r = c.args.r in
    let k = c.loop-class.class in
    let base = c.args.bytes.now.items in
    c.in_ok-add_area.ensures
    ∙ ap₂ (λ v n. v ++ blank_area k n) c.loop-class.invariant c.area.ensures
    ∙ append_assoc base (flat_map (area_of p r) (from_to 0 k)) (area_of p r k)
    ∙ ap (λ v. base ++ v) (sym (flat-next (area_of p r) k))

pub returns : goal.returns
returns c =
    let p = c.args.plan.now in
    let r = c.args.r in
    let t = c.loop-class-test.false in
    let u = c.loop-class.auto.class-end in
    let e : c.loop-class.class ≡ 81 = omega (arith, t, u) in
    c.loop-class.invariant ∙ ap (λ v. c.args.bytes.now.items ++ v) (ap (λ n. flat_map (area_of p r) (from_to 0 n)) e ∙ all-areas p r)
