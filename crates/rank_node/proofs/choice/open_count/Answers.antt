use Rattle.std.proofs.Common.{length, ap, sym, ◌∙◌, arith}
use Rattle.ni_model.specs.Ready.{ready_numbers, target_at}
use Rattle.rank_node.proofs.Opened.{is-none, none-closed, start-all, turn-lane}
use Rattle.rank_node.proofs.choice.open_count.Goals as goal

pub returns-then-not-any : goal.returns-then-not-any
returns-then-not-any c = c.ready_count-count.ensures.value ∙ sym
    (ap length (none-closed c.args.gates.now (target_at c.args.nic.now) (ready_numbers c.args.nic.now)
    (is-none c.any.result _ c.if-not-any.true c.any.ensures)))

pub loop-d-init : goal.loop-d-init
loop-d-init c = c.ready_count-count.ensures.value ∙ sym (ap length
    (start-all c.args.gates.now (target_at c.args.nic.now) (ready_numbers c.args.nic.now)))

pub overflow_sub-count : goal.overflow_sub-count
overflow_sub-count c =
    let t = turn-lane c.args.gates.now c.loop-d.d (target_at c.args.nic.now) (ready_numbers c.args.nic.now) in
    let i = c.loop-d.invariant in
    let b = c.held_up-count.ensures in
    omega arith

pub loop-d-preserved : goal.loop-d-preserved
loop-d-preserved c =
    let t = turn-lane c.args.gates.now c.loop-d.d (target_at c.args.nic.now) (ready_numbers c.args.nic.now) in
    let i = c.loop-d.invariant in
    let b = c.held_up-count.ensures in
    omega arith
