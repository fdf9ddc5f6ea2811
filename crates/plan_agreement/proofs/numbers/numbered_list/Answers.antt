-- One byte more in each turn.
use Rattle.std.proofs.Common.{◌≡◌, ap, arith, ◌∙◌}
use Rattle.plan_agreement.specs.Witness.{numbered_byte, numbered_list}
use Rattle.plan_agreement.proofs.Lists.{longer_row}
use Rattle.plan_agreement.proofs.numbers.numbered_list.Goals as goal

pub loop-k-init : goal.loop-k-init
loop-k-init c = c.in_ok-bytes.ensures.items

pub loop-k-preserved : goal.loop-k-preserved
loop-k-preserved c =
    longer_row (numbered_byte c.args.unit c.args.i) c.loop-k.k c.loop-k.bytes.items _ c.numbered_byte.result
    c.in_ok-push.ensures.items c.loop-k.invariant c.numbered_byte.ensures

pub returns : goal.returns
returns c =
    let t = c.loop-k-test.false in
    let a = c.loop-k.auto.k-end in
    let end : c.loop-k.k ≡ c.args.count = omega (arith, t, a) in
    c.of.ensures.made ∙ c.loop-k.invariant ∙ ap (numbered_list c.args.unit c.args.i) end
