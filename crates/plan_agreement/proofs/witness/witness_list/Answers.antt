-- One byte more in each turn.
use Rattle.std.proofs.Common.{◌+◌, sym, subst, arith}
use Rattle.plan_agreement.specs.Witness.{IsListOf}
use Rattle.plan_agreement.proofs.Lists.{all_bytes, no_bytes, one_more_byte}
use Rattle.plan_agreement.proofs.witness.witness_list.Goals as goal

pub loop-k-init : goal.loop-k-init
loop-k-init c = subst (IsListOf 0) (sym c.in_ok-bytes.ensures.items) no_bytes

pub loop-k-preserved : goal.loop-k-preserved
loop-k-preserved c =
    subst (IsListOf (c.loop-k.k + 1)) (sym c.in_ok-push.ensures.items)
    (one_more_byte c.loop-k.k c.byte_of.result c.loop-k.bytes.items (omega arith) c.loop-k.invariant)

pub returns : goal.returns
returns c =
    all_bytes c.args.count c.loop-k.k c.loop-k.bytes.items c.of.result (let t = c.loop-k-test.false in omega (arith, t))
    (let a = c.loop-k.auto.k-end in omega (arith, a)) c.of.ensures.made c.loop-k.invariant
