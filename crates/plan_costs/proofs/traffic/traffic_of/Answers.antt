-- One link more in each turn.
use Rattle.std.proofs.Common.{◌<◌, length, arith, ap}
use Rattle.plan_costs.specs.declared.traffic.Traffic.{Traffic}
use Rattle.plan_costs.specs.Path.{bytes_by, messages_by}
use Rattle.plan_costs.proofs.Going.{bytes_fit, one_message}
use Rattle.plan_costs.proofs.Sums.{one_more}
use Rattle.plan_costs.proofs.traffic.traffic_of.Goals as goal

pub overflow_add-bytes : goal.overflow_add-bytes
overflow_add-bytes c =
    let p = c.args.plan.now in
    let n = c.link_count-l-end.ensures in
    let t = c.loop-l-test.true in
    let below : c.loop-l.l < length p.links = omega (arith, n, t) in
    let a = bytes_fit p c.loop-l.l c.requires below in
    let i = c.loop-l.invariant.1 in
    let e = ap (λ (m : Traffic). m.bytes) c.message_of-message.ensures in
    omega (arith, a, i, e)

pub loop-l-preserved : goal.loop-l-preserved
loop-l-preserved c =
    let p = c.args.plan.now in
    let a = one_more (messages_by p) c.loop-l.l in
    let b = one_more (bytes_by p) c.loop-l.l in
    let i = c.loop-l.invariant.0 in
    let j = c.loop-l.invariant.1 in
    let k = c.loop-l.invariant.2 in
    let m = one_message p c.loop-l.l in
    let e = ap (λ (m : Traffic). m.messages) c.message_of-message.ensures in
    let f = ap (λ (m : Traffic). m.bytes) c.message_of-message.ensures in
    (omega (arith, a, i, e), omega (arith, b, j, f), omega (arith, k, e, m))
