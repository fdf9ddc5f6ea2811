-- By `Steps`.
use Rattle.std.proofs.Common.{ℕ, ◌≤◌, ap, sym, ◌∙◌, subst}
use Rattle.plan_core.specs.declared.Link.{Link}
use Rattle.plan_costs.specs.State.{StateOf, Further, Settled, after_count, awaited_of}
use Rattle.plan_costs.proofs.Opening.{carry}
use Rattle.plan_costs.proofs.Steps.{further_home, may_await}
use Rattle.plan_costs.proofs.pass.take_home.Goals as goal

pub settle-requires-clause-some : goal.settle-requires-clause-some
settle-requires-clause-some c =
    let n = c.args.course.now.numbers in
    let p = c.args.course.now.plan.now in
    let target = ap (λ (k : Link). k.target) c.link_at-target.ensures in
    let P : ℕ → Type 0 = λ t. 1 ≤ awaited_of c.args.state.now t in
    let R : StateOf → Type 0 = λ s. 1 ≤ awaited_of s c.link_at-target.result.target in
    subst R (sym c.stay.ensures) (subst P (sym target) (may_await n p c.args.state.now c.args.event c.args.queue.now c.requires.course.can
    c.requires.may))

pub returns : goal.returns
returns c =
    let n = c.args.course.now.numbers in
    let p = c.args.course.now.plan.now in
    let target = ap (λ (k : Link). k.target) c.link_at-target.ensures in
    carry c.settle.result (Settled p c.settle.new.state c.link_at-target.result.target c.args.queue.now c.settle.new.queue)
    (Further n p c.args.state.now c.settle.new.state c.settle.new.queue)
    (λ o. further_home n p c.args.state.now c.settle.new.state c.args.event c.args.queue.now c.settle.new.queue
    c.link_at-target.result.target c.requires.course.can c.requires.may c.requires.home target
    (c.settle.ensures.state ∙ ap (λ s. after_count s c.link_at-target.result.target c.args.event.time) c.stay.ensures) o)
    c.settle.ensures.queue
