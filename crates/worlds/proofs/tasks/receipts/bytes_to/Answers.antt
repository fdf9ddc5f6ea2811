-- The bytes from one rank more in each turn.
use Rattle.std.proofs.Common.{◌+◌, ◌≡◌, ap, ap₂, ◌∙◌, sym, arith}
use Rattle.plan_core.specs.Plan.{Plan}
use Rattle.plan_core.specs.calls.Lanes.{lane_bytes}
use Rattle.worlds.proofs.tasks.Lanes.{all-bytes, bytes_below, at_most-bytes_below, more-bytes, no-bytes}
use Rattle.worlds.proofs.tasks.receipts.bytes_to.Goals as goal

pub loop-source-init : goal.loop-source-init
loop-source-init c = sym (no-bytes c.args.schedule.now.plan c.args.r)

pub overflow_add-bytes : goal.overflow_add-bytes
overflow_add-bytes c =
    let p = c.args.schedule.now.plan in
    let k = c.loop-source.source in
    let i : c.loop-source.bytes ≡ bytes_below p c.args.r k = c.loop-source.invariant in
    let e : c.lane_bytes-bytes.result ≡ lane_bytes p k c.args.r = c.lane_bytes-bytes.ensures in
    let m = more-bytes p c.args.r k in
    let at_most = at_most-bytes_below p c.args.schedule.now.inputs c.args.r (k + 1) c.plan.ensures.sound in
    omega (arith, i, e, m, at_most)

pub loop-source-preserved : goal.loop-source-preserved
loop-source-preserved c = ap₂ (λ a b. a + b) c.loop-source.invariant c.lane_bytes-bytes.ensures
    ∙ more-bytes c.args.schedule.now.plan c.args.r c.loop-source.source

pub returns : goal.returns
returns c =
    let p = c.args.schedule.now.plan in
    let t = c.loop-source-test.false in
    let u = c.loop-source.auto.source-end in
    let n = c.ranks-source-end.ensures in
    let e = ap (λ (q : Plan). q.ranks) c.plan.ensures.value in
    let all : c.loop-source.source ≡ p.ranks = omega (arith, t, u, n, e) in
    c.loop-source.invariant ∙ ap (bytes_below p c.args.r) all ∙ all-bytes p c.args.schedule.now.inputs c.args.r c.plan.ensures.sound
