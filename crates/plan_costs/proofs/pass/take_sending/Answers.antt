-- By `Steps`.
use Rattle.std.proofs.Common.{ℕ, true, ◌<◌, ◌+◌, ◌^◌, max, get_or, arith, ap, sym, ◌∙◌, subst}
use Rattle.plan_costs.specs.declared.events.Event.{Event}
use Rattle.plan_costs.specs.Events.{Pushed}
use Rattle.plan_costs.specs.State.{Further}
use Rattle.plan_costs.specs.Times.{sending}
use Rattle.plan_costs.proofs.Opening.{carry}
use Rattle.plan_costs.proofs.Steps.{alone_fits, further_sending, may_due, sending_fits}
use Rattle.plan_costs.proofs.pass.take_sending.Goals as goal

pub spans_of-spans-requires-clause-fits : goal.spans_of-spans-requires-clause-fits
spans_of-spans-requires-clause-fits c =
    let n = c.args.course.now.numbers in
    let p = c.args.course.now.plan.now in
    alone_fits n p c.args.event.link c.requires.course.can
    (may_due n p c.args.state.now c.args.event c.args.queue.now c.requires.may).known

pub send-at-requires-clause-fits : goal.send-at-requires-clause-fits
send-at-requires-clause-fits c =
    let n = c.args.course.now.numbers in
    let p = c.args.course.now.plan.now in
    let f = sending_fits n p c.args.state.now c.args.event c.args.queue.now c.requires.course.can c.requires.may c.requires.away
    c.requires.waiting in
    let P : ℕ → ℕ → Type 0 = λ r b. max c.args.event.time (get_or c.args.state.now.senders r 0) + b < 2 ^ 64 in
    let A : ℕ → Type 0 = λ r. P r (sending n p c.args.event.link) in
    let B : ℕ → Type 0 = λ b. P c.from_rank-rank.result b in
    subst B (sym c.spans_of-spans.ensures.sending) (subst A (sym c.from_rank-rank.ensures.value) (omega (arith, f)))

pub overflow_add-at : goal.overflow_add-at
overflow_add-at c =
    let n = c.args.course.now.numbers in
    let p = c.args.course.now.plan.now in
    let f = sending_fits n p c.args.state.now c.args.event c.args.queue.now c.requires.course.can c.requires.may c.requires.away
    c.requires.waiting in
    let a = c.send-at.ensures.at ∙ ap (λ r. max c.args.event.time (get_or c.args.state.now.senders r 0)) c.from_rank-rank.ensures.value in
    let b = c.spans_of-spans.ensures.travel in
    omega (arith, f, a, b)

pub returns : goal.returns
returns c =
    let n = c.args.course.now.numbers in
    let p = c.args.course.now.plan.now in
    let e : Event = record { time = c.send-at.result + c.spans_of-spans.result.travel; between = true; link = c.args.event.link } in
    carry c.push.result (Pushed c.args.queue.now e c.push.new.self)
    (Further n p c.args.state.now c.send-at.new.self c.push.new.self)
    (λ o. further_sending n p c.args.state.now c.send-at.new.self c.args.event e c.send-at.result c.args.queue.now c.push.new.self
    c.from_rank-rank.result c.spans_of-spans.result.sending c.requires.course.can c.requires.may c.requires.away c.requires.waiting
    c.from_rank-rank.ensures.value c.from_rank-rank.ensures.rank c.spans_of-spans.ensures.sending c.send-at.ensures.at
    c.send-at.ensures.after
    (let P : ℕ → Event = λ v. record { time = c.send-at.result + v; between = true; link = c.args.event.link } in
    ap P c.spans_of-spans.ensures.travel) o)
    c.push.ensures
