-- By `Steps`.
use Rattle.std.proofs.Common.{ℕ, ◌≤◌, ◌<◌, ◌+◌, ◌^◌, max, get_or, arith, ap, sym, ◌∙◌, subst}
use Rattle.plan_core.specs.declared.Link.{Link}
use Rattle.plan_costs.specs.State.{StateOf, Further, Settled, after_count, awaited_of}
use Rattle.plan_costs.specs.Times.{receiving}
use Rattle.plan_costs.proofs.Opening.{carry}
use Rattle.plan_costs.proofs.Steps.{alone_fits, further_receipt, may_await, may_due, receiving_fits}
use Rattle.plan_costs.proofs.pass.take_receipt.Goals as goal

pub spans_of-spans-requires-clause-fits : goal.spans_of-spans-requires-clause-fits
spans_of-spans-requires-clause-fits c =
    let n = c.args.course.now.numbers in
    let p = c.args.course.now.plan.now in
    alone_fits n p c.args.event.link c.requires.course.can
    (may_due n p c.args.state.now c.args.event c.args.queue.now c.requires.may).known

pub receive-at-requires-clause-fits : goal.receive-at-requires-clause-fits
receive-at-requires-clause-fits c =
    let n = c.args.course.now.numbers in
    let p = c.args.course.now.plan.now in
    let f = receiving_fits n p c.args.state.now c.args.event c.args.queue.now c.requires.course.can c.requires.may c.requires.sent in
    let P : ℕ → ℕ → Type 0 = λ r b. max c.args.event.time (get_or c.args.state.now.receivers r 0) + b < 2 ^ 64 in
    let A : ℕ → Type 0 = λ r. P r (receiving n p c.args.event.link) in
    let B : ℕ → Type 0 = λ b. P c.to_rank-rank.result b in
    subst B (sym c.spans_of-spans.ensures.receiving) (subst A (sym c.to_rank-rank.ensures.value) f)

pub overflow_add-at : goal.overflow_add-at
overflow_add-at c =
    let n = c.args.course.now.numbers in
    let p = c.args.course.now.plan.now in
    let f = receiving_fits n p c.args.state.now c.args.event c.args.queue.now c.requires.course.can c.requires.may c.requires.sent in
    let a = c.receive-at.ensures.at ∙ ap (λ r. max c.args.event.time (get_or c.args.state.now.receivers r 0)) c.to_rank-rank.ensures.value
    in
    let b = c.spans_of-spans.ensures.handling in
    omega (arith, f, a, b)

pub settle-requires-clause-some : goal.settle-requires-clause-some
settle-requires-clause-some c =
    let n = c.args.course.now.numbers in
    let p = c.args.course.now.plan.now in
    let target = ap (λ (k : Link). k.target) c.link_at-target.ensures in
    let P : ℕ → Type 0 = λ t. 1 ≤ awaited_of c.args.state.now t in
    let R : StateOf → Type 0 = λ s. 1 ≤ awaited_of s c.link_at-target.result.target in
    subst R (sym c.receive-at.ensures.after)
    (subst P (sym target) (may_await n p c.args.state.now c.args.event c.args.queue.now c.requires.course.can c.requires.may))

pub returns : goal.returns
returns c =
    let n = c.args.course.now.numbers in
    let p = c.args.course.now.plan.now in
    let target = ap (λ (k : Link). k.target) c.link_at-target.ensures in
    carry c.settle.result (Settled p c.settle.new.state c.link_at-target.result.target c.args.queue.now c.settle.new.queue)
    (Further n p c.args.state.now c.settle.new.state c.settle.new.queue)
    (λ o. further_receipt n p c.args.state.now c.settle.new.state c.args.event c.receive-at.result c.args.queue.now c.settle.new.queue
    c.link_at-target.result.target c.to_rank-rank.result c.spans_of-spans.result.receiving
    (c.receive-at.result + c.spans_of-spans.result.handling) c.requires.course.can c.requires.may c.requires.away c.requires.sent target
    c.to_rank-rank.ensures.value c.to_rank-rank.ensures.rank c.spans_of-spans.ensures.receiving
    (ap (λ v. c.receive-at.result + v) c.spans_of-spans.ensures.handling) c.receive-at.ensures.at
    (c.settle.ensures.state
    ∙ ap (λ s. after_count s c.link_at-target.result.target (c.receive-at.result + c.spans_of-spans.result.handling))
    c.receive-at.ensures.after) o)
    c.settle.ensures.queue
