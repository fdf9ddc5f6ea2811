use Rattle.std.proofs.Common.{◌≡◌, ◌*◌, ◌/◌, ◌-◌, ◌++◌, length, take, drop}
use Rattle.ptl_types.specs.Operations.{op, bytes_of}
use Rattle.ptl_types.specs.Elements.{by_element}
use Rattle.lane_ops.proofs.bytes.combine_all.Given as goal

-- the whole is what was combined, followed by what is left to combine
abbrev pub invariant-loop-i : goal.invariant-loop-i
invariant-loop-i g l =
    by_element (op g.C.Combine.operation g.E.Element.ty) (bytes_of g.E.Element.ty) (length l.initial.into / bytes_of g.E.Element.ty)
    l.initial.into l.with
    ≡ take (l.i * bytes_of g.E.Element.ty) l.into
    ++ by_element (op g.C.Combine.operation g.E.Element.ty) (bytes_of g.E.Element.ty)
    (length l.initial.into / bytes_of g.E.Element.ty - l.i) (drop (l.i * bytes_of g.E.Element.ty) l.into)
    (drop (l.i * bytes_of g.E.Element.ty) l.with)
