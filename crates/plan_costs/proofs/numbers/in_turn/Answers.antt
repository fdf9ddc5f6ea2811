-- One link more in each turn.
use Rattle.std.proofs.Common.{◌≡◌, ◌<◌, ◌^◌, length, sum_by, arith, ◌∙◌, ap}
use Rattle.plan_core.specs.Plan.{from_to}
use Rattle.plan_costs.specs.Times.{alone, in_turn}
use Rattle.plan_costs.proofs.Sums.{one_more, sum_within}
use Rattle.plan_costs.proofs.numbers.in_turn.Goals as goal

pub returns-in_err-alone : goal.returns-in_err-alone
returns-in_err-alone c =
    let n = c.link_count-l-end.ensures in
    let t = c.loop-l-test.true in
    let below : c.loop-l.l < length c.args.plan.now.links = omega (arith, n, t) in
    let a = sum_within (alone c.args.numbers.now c.args.plan.now) c.loop-l.l (length c.args.plan.now.links) below in
    let no_time : in_turn c.args.numbers.now c.args.plan.now < 2 ^ 64 → ⊥ = λ h. c.in_err-alone.ensures (omega (arith, a, h)) in
    rw c.from_residual.ensures no_time

pub returns-in_err-sum : goal.returns-in_err-sum
returns-in_err-sum c =
    let n = c.link_count-l-end.ensures in
    let t = c.loop-l-test.true in
    let below : c.loop-l.l < length c.args.plan.now.links = omega (arith, n, t) in
    let a = sum_within (alone c.args.numbers.now c.args.plan.now) c.loop-l.l (length c.args.plan.now.links) below in
    let e = c.in_ok-alone.ensures.1 in
    let i = c.loop-l.invariant.0 in
    let no_time : in_turn c.args.numbers.now c.args.plan.now < 2 ^ 64 → ⊥ = λ h. c.in_err-sum.ensures (omega (arith, a, e, i, h)) in
    rw c.from_residual-in_err-sum.ensures no_time

pub loop-l-preserved : goal.loop-l-preserved
loop-l-preserved c =
    let a = one_more (alone c.args.numbers.now c.args.plan.now) c.loop-l.l in
    let e = c.in_ok-alone.ensures.1 in
    let f = c.in_ok-sum.ensures.1 in
    let i = c.loop-l.invariant.0 in
    let g = c.in_ok-sum.ensures.0 in
    (omega (arith, a, e, f, i), omega (arith, f, g))

pub returns : goal.returns
returns c =
    let n = c.link_count-l-end.ensures in
    let t = c.loop-l-test.false in
    let u = c.loop-l.auto in
    let end : c.loop-l.l ≡ length c.args.plan.now.links = omega (arith, n, t, u) in
    let e = c.loop-l.invariant.0 ∙ ap (λ k. sum_by (alone c.args.numbers.now c.args.plan.now) (from_to 0 k)) end in
    let s = c.loop-l.invariant.1 in
    (omega (arith, e, s), e)
