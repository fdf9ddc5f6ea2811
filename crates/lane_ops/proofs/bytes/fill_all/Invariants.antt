use Rattle.std.proofs.Common.{◌≡◌, ◌*◌, ◌/◌, ◌-◌, ◌++◌, length, take}
use Rattle.ptl_types.specs.Operations.{bytes_of}
use Rattle.ptl_types.specs.Elements.{repeated}
use Rattle.lane_ops.proofs.bytes.fill_all.Given as goal

-- the elements before i are written
abbrev pub invariant-loop-i : goal.invariant-loop-i
invariant-loop-i g l =
    repeated (bytes_of g.E.Element.ty) (length l.initial.into / bytes_of g.E.Element.ty) l.x
    ≡ take (l.i * bytes_of g.E.Element.ty) l.into ++ repeated (bytes_of g.E.Element.ty)
    (length l.initial.into / bytes_of g.E.Element.ty - l.i) l.x
