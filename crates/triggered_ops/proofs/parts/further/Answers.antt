use Rattle.std.proofs.Common.{◌≡◌, ◌≤◌, ◌<◌, sym, subst, ◌∙◌}
use Rattle.chain_list.specs.threads.Threads.{thread}
use Rattle.triggered_ops.specs.Hung.{threshold_of}
use Rattle.triggered_ops.specs.Layout.{wait_at}
use Rattle.triggered_ops.proofs.Hanging.{next-on}
use Rattle.triggered_ops.proofs.parts.further.Goals as goal

pub returns-in-None-clause-none : goal.returns-in-None-clause-none
returns-in-None-clause-none g c = λ p e. let is = sym c.in-None.is ∙ c.next_on.ensures ∙ e in cc

pub threshold-requires : goal.threshold-requires
threshold-requires g c = c.requires.waits c.in-Some.place (next-on c.args.after (thread c.args.thread c.args.threads.now) c.in-Some.place
    (sym c.next_on.ensures ∙ c.in-Some.is))

pub returns-then-threshold-clause-some : goal.returns-then-threshold-clause-some
returns-then-threshold-clause-some g c = (
  sym c.next_on.ensures ∙ c.in-Some.is,
  subst (λ n. n ≤ c.args.threshold) c.threshold.ensures
      c.if-threshold.true,
)

pub returns-else-threshold-clause-none : goal.returns-else-threshold-clause-none
returns-else-threshold-clause-none g c = λ p e.
    let some = sym c.in-Some.is ∙ c.next_on.ensures ∙ e in
    let same : c.in-Some.place ≡ p = cc in
    subst (λ i. c.args.threshold < threshold_of (wait_at c.args.spots.now.spots i)) same
    (subst (λ n. c.args.threshold < n) c.threshold.ensures c.if-threshold.false)
