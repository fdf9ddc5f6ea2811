-- One link more in each turn.
use Rattle.std.proofs.Common.{◌+◌, arith, cond, get_or, set, nat_lt, length, map, ap, ◌∙◌}
use Rattle.plan_core.specs.Plan.{from_to}
use Rattle.plan_tables.specs.Rising.{nothing}
use Rattle.plan_tables.proofs.Sums.{counted-at_most, counted-more}
use Rattle.schedule_compiler.specs.done.Counts.{sent_key}
use Rattle.schedule_compiler.proofs.done.counting.count_messages.Goals as goal

pub loop-l-init : goal.loop-l-init
loop-l-init c = c.in_ok-counts.ensures ∙ ap (λ n. map nothing (from_to 0 n)) c.ranks.ensures

pub count-requires : goal.count-requires
count-requires c =
    let p = c.args.plan.now in
    let f = counted-at_most (sent_key p) c.loop-l.l p.ranks c.sender_of-key.result c.loop-l.counts c.loop-l.invariant in
    let n = ap length c.links.ensures in
    let t = c.loop-l-test.true in
    let r = c.requires.few_together in
    omega (arith, f, n, t, r)

pub loop-l-preserved : goal.loop-l-preserved
loop-l-preserved c =
    let p = c.args.plan.now in
    c.count.ensures
    ∙ ap (λ k. cond (nat_lt k (length c.loop-l.counts)) (set c.loop-l.counts k (get_or c.loop-l.counts k 0 + 1)) c.loop-l.counts)
    c.sender_of-key.ensures
    ∙ counted-more (sent_key p) c.loop-l.l p.ranks c.loop-l.counts c.loop-l.invariant
