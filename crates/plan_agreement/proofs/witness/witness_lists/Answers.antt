-- One list more in each turn.
use Rattle.std.proofs.Common.{◌+◌, sym, subst, arith}
use Rattle.plan_agreement.proofs.Lists.{AreFirst, all_lists, none_first, one_more_list}
use Rattle.plan_agreement.proofs.witness.witness_lists.Goals as goal

pub loop-i-init : goal.loop-i-init
loop-i-init c = subst (λ v. AreFirst c.args.shape.now v 0) (sym c.new-lists.ensures.items) (none_first c.args.shape.now)

pub bytes_at-requires : goal.bytes_at-requires
bytes_at-requires c =
    let n = c.list_count-i-end.ensures in
    let t = c.loop-i-test.true in
    omega (arith, n, t)

pub loop-i-preserved : goal.loop-i-preserved
loop-i-preserved c =
    subst (λ v. AreFirst c.args.shape.now v (c.loop-i.i + 1)) (sym c.in_ok-push.ensures.items)
    (one_more_list c.args.shape.now c.loop-i.lists.items c.in_ok-list.list c.loop-i.i c.bytes_at.result c.loop-i.invariant
    c.bytes_at.ensures c.in_ok-list.ensures)

pub returns : goal.returns
returns c =
    all_lists c.args.shape.now c.loop-i.lists.items c.loop-i.i c.list_count-i-end.result c.list_count-i-end.ensures
    (let t = c.loop-i-test.false in omega (arith, t)) (let a = c.loop-i.auto.i-end in omega (arith, a)) c.loop-i.invariant
