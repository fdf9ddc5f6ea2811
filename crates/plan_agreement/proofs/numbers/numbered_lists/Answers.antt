-- One list more in each turn.
use Rattle.std.proofs.Common.{◌≡◌, ◌*◌, ◌/◌, map, ap, arith, ◌∙◌}
use Rattle.number_lists.specs.Numbers.{from_to}
use Rattle.coll_shape.specs.Outline.{buffer_at, list_bytes}
use Rattle.plan_agreement.specs.Witness.{numbered_list}
use Rattle.plan_agreement.proofs.Lists.{longer_row}
use Rattle.plan_agreement.proofs.numbers.numbered_lists.Goals as goal

pub loop-i-init : goal.loop-i-init
loop-i-init c = c.new-lists.ensures.items

pub bytes_at-requires : goal.bytes_at-requires
bytes_at-requires c =
    let n = c.list_count-i-end.ensures in
    let t = c.loop-i-test.true in
    omega (arith, n, t)

pub loop-i-preserved : goal.loop-i-preserved
loop-i-preserved c =
    let o = c.args.shape.now in
    longer_row (λ i. numbered_list c.args.unit i (list_bytes (buffer_at o (i / o.ranks)))) c.loop-i.i c.loop-i.lists.items _
    c.in_ok-list.list c.in_ok-push.ensures.items c.loop-i.invariant
    (c.in_ok-list.ensures ∙ ap (numbered_list c.args.unit c.loop-i.i) c.bytes_at.ensures)

pub returns : goal.returns
returns c =
    let o = c.args.shape.now in
    let t = c.loop-i-test.false in
    let a = c.loop-i.auto.i-end in
    let n = c.list_count-i-end.ensures in
    let end : c.loop-i.i ≡ o.inputs * o.ranks = omega (arith, t, a, n) in
    c.loop-i.invariant
    ∙ ap (λ k. map (λ i. numbered_list c.args.unit i (list_bytes (buffer_at o (i / o.ranks)))) (from_to 0 k)) end
