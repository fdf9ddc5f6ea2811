use Rattle.std.proofs.Common.{length, ap, arith}
use Rattle.triggered_ops.specs.Operations.{Operations}
use Rattle.portals_ni.specs.declared.posted_op.PostedOp.{PostedOp}
use Rattle.portals_ni.proofs.Uses.{length-parts}
use Rattle.portals_ni.proofs.triggers.Triggers.cancel.Goals as goal

pub overflow_sub-result : goal.overflow_sub-result
overflow_sub-result c =
    let left = ap (λ (o : Operations PostedOp). length o.waiting) c.drop_on.ensures.rest in
    omega (arith, length-parts c.args.ct c.self.inside.pending, left, c.len.ensures.len, c.len-before.ensures.len)

pub returns-clause-number : goal.returns-clause-number
returns-clause-number c =
    let left = ap (λ (o : Operations PostedOp). length o.waiting) c.drop_on.ensures.rest in
    rw (← c.self.view_is) (omega (arith, length-parts c.args.ct c.self.inside.pending, left, c.len.ensures.len, c.len-before.ensures.len))
