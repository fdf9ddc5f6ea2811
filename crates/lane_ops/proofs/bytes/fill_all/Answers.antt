use Rattle.std.proofs.Common.{◌≤◌, ◌<◌, ◌/◌, ◌*◌, length, ◌∙◌, arith}
use Rattle.std.proofs.Math.Nat.{div-add-mod'}
use Rattle.ptl_types.specs.Operations.{bytes_of}
use Rattle.lane_ops.proofs.Steps.{fills}
use Rattle.lane_ops.proofs.bytes.fill_all.Goals as goal

pub loop-i-preserved : goal.loop-i-preserved
loop-i-preserved g c =
    let lt : c.loop-i.i < length c.args.into.now / bytes_of g.E.Element.ty = rw (← c.size.ensures) c.loop-i-test.true in
    let fits : length c.args.into.now / bytes_of g.E.Element.ty * bytes_of g.E.Element.ty ≤ length c.loop-i.into =
    omega (arith, div-add-mod' (length c.args.into.now) (bytes_of g.E.Element.ty), c.loop-i.auto.into) in
    c.loop-i.invariant ∙ rw c.fill_at.ensures (fills (bytes_of g.E.Element.ty) c.args.x c.loop-i.i
    (length c.args.into.now / bytes_of g.E.Element.ty) c.loop-i.into lt fits)
