use Rattle.std.proofs.Common.{◌≤◌}
use Rattle.chain_list.specs.threads.Threads.{thread}
use Rattle.triggered_ops.specs.Hung.{threshold_of}
use Rattle.triggered_ops.specs.Layout.{wait_at}
use Rattle.triggered_ops.proofs.Hanging.{walk-begin, walk-step, walk-end}
use Rattle.triggered_ops.proofs.parts.walk.Goals as goal

pub loop-place-init : goal.loop-place-init
loop-place-init g c = walk-begin (λ q. threshold_of (wait_at c.args.spots.now.spots q) ≤ c.args.threshold)
    (thread c.args.thread c.args.threads.now)

pub further-requires-clause-there : goal.further-requires-clause-there
further-requires-clause-there g c = c.loop-place.invariant.there

pub loop-place-smaller : goal.loop-place-smaller
loop-place-smaller g c =
    (walk-step (λ q. threshold_of (wait_at c.args.spots.now.spots q) ≤ c.args.threshold) c.loop-place.after
    (thread c.args.thread c.args.threads.now) c.in-Some.place c.loop-place.invariant c.requires.apart c.in-Some.ensures.some.0
    c.in-Some.ensures.some.1).1

pub loop-place-preserved : goal.loop-place-preserved
loop-place-preserved g c =
    (walk-step (λ q. threshold_of (wait_at c.args.spots.now.spots q) ≤ c.args.threshold) c.loop-place.after
    (thread c.args.thread c.args.threads.now) c.in-Some.place c.loop-place.invariant c.requires.apart c.in-Some.ensures.some.0
    c.in-Some.ensures.some.1).0

pub returns : goal.returns
returns g c = walk-end (wait_at c.args.spots.now.spots) c.args.threshold c.loop-place.after (thread c.args.thread c.args.threads.now)
    c.loop-place.invariant c.requires.ordered c.in_default.ensures.none
