-- One link more in each turn.
use Rattle.std.proofs.Common.{◌∙◌, arith, count_by}
use Rattle.std.specs.Prelude.{if◌then◌else◌}
use Rattle.std.proofs.lemmas.List.Sums.{count_by-le-length}
use Rattle.plan_core.specs.calls.RankOps.{is_message}
use Rattle.plan_tables.specs.Rising.{of_key}
use Rattle.plan_tables.specs.Tables.{from_rank}
use Rattle.plan_tables.proofs.Passes.{length-table}
use Rattle.mark_judge.proofs.Counts.{count-one-more, counted-more, few-counted}
use Rattle.mark_judge.proofs.done.messages_of_ranks.Goals as goal

pub count_message-requires-clause-rank : goal.count_message-requires-clause-rank
count_message-requires-clause-rank c =
    let p = c.args.plan.now in
    let n = c.link_count-l-end.ensures in
    let t = c.loop-l-test.true in
    let e = length-table (λ r. count_by (is_message p) (of_key (from_rank p) c.loop-l.l r)) p.ranks c.loop-l.sent c.loop-l.invariant in
    let h = c.requires.ranks_known _ (c.requires.sources c.loop-l.l (omega (arith, n, t))) in
    omega (arith, e, h)

pub count_message-requires-clause-fits : goal.count_message-requires-clause-fits
count_message-requires-clause-fits c =
    let p = c.args.plan.now in
    let n = c.link_count-l-end.ensures in
    let t = c.loop-l-test.true in
    let few = c.requires.few_together in
    few-counted (from_rank p) (count_by (is_message p)) c.loop-l.l p.ranks c.loop-l.sent
    (c.requires.ranks_known _ (c.requires.sources c.loop-l.l (omega (arith, n, t)))) c.loop-l.invariant (count_by-le-length (is_message p))
    (omega (arith, n, t, few))

pub loop-l-preserved : goal.loop-l-preserved
loop-l-preserved c =
    let p = c.args.plan.now in
    let n = c.link_count-l-end.ensures in
    let t = c.loop-l-test.true in
    let k = c.loop-l.l in
    c.count_message.ensures
    ∙ counted-more (from_rank p) (count_by (is_message p)) k p.ranks c.loop-l.sent
    (c.requires.ranks_known _ (c.requires.sources k (omega (arith, n, t)))) c.loop-l.invariant (if is_message p k then 1 else 0)
    (count-one-more (is_message p) (of_key (from_rank p) k (from_rank p k)) k)
