use Rattle.std.proofs.Common.{◌≤◌, sym, subst, ◌∙◌}
use Rattle.chain_list.specs.threads.Threads.{thread}
use Rattle.triggered_ops.specs.Layout.{wait_at}
use Rattle.triggered_ops.proofs.Hanging.{gap-none, gap-last, last-on-list}
use Rattle.triggered_ops.proofs.parts.gap.Goals as goal

pub returns-in-None : goal.returns-in-None
returns-in-None g c = gap-none (wait_at c.args.spots.now.spots) c.args.threshold (thread c.args.thread c.args.threads.now)
    (sym c.last-end.ensures.last ∙ c.in-None.is)

pub threshold-requires : goal.threshold-requires
threshold-requires g c = c.requires.waits c.in-Some.place (last-on-list (thread c.args.thread c.args.threads.now) c.in-Some.place
    (sym c.last-end.ensures.last ∙ c.in-Some.is))

pub returns-then-threshold : goal.returns-then-threshold
returns-then-threshold g c =
    gap-last (wait_at c.args.spots.now.spots) c.args.threshold (thread c.args.thread c.args.threads.now) c.in-Some.place
    c.last-end.ensures.apart c.requires.ordered (sym c.last-end.ensures.last ∙ c.in-Some.is)
    (subst (λ n. n ≤ c.args.threshold) c.threshold.ensures c.if-threshold.true)
