use Rattle.std.proofs.Common.{◌≤◌, ◌<◌, ◌/◌, ◌*◌, length, ◌∙◌, arith}
use Rattle.std.proofs.Math.Nat.{div-add-mod'}
use Rattle.ptl_types.specs.Operations.{op, bytes_of}
use Rattle.lane_ops.proofs.Steps.{combines}
use Rattle.lane_ops.proofs.bytes.combine_all.Goals as goal

pub loop-i-preserved : goal.loop-i-preserved
loop-i-preserved g c =
    let w = bytes_of g.E.Element.ty in
    let n = length c.args.into.now / w in
    let lt : c.loop-i.i < length c.args.into.now / bytes_of g.E.Element.ty = rw (← c.size.ensures) c.loop-i-test.true in
    let fits : length c.args.into.now / bytes_of g.E.Element.ty * bytes_of g.E.Element.ty ≤ length c.loop-i.into =
    omega (arith, div-add-mod' (length c.args.into.now) (bytes_of g.E.Element.ty), c.loop-i.auto.into) in
    c.loop-i.invariant ∙ rw c.combine_at.ensures (combines (op g.C.Combine.operation g.E.Element.ty) (bytes_of g.E.Element.ty) c.loop-i.i
    (length c.args.into.now / bytes_of g.E.Element.ty) c.loop-i.into c.args.with.now lt fits)
