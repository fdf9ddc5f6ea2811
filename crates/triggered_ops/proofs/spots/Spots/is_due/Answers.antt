use Rattle.std.proofs.Common.{◌<◌, ◌≤◌, length, sym, ap, ◌∙◌, arith}
use Rattle.triggered_ops.specs.declared.spots.Spot.{Spot}
use Rattle.triggered_ops.specs.Operations.{is_due_op}
use Rattle.triggered_ops.specs.Layout.{op_of}
use Rattle.triggered_ops.proofs.Places.{op-get, op-past}
use Rattle.triggered_ops.proofs.spots.Spots.is_due.Goals as goal

pub returns-then-place-len : goal.returns-then-place-len
returns-then-place-len g c =
    let lt : c.args.place < length c.self.inside.spots.items = omega (arith, c.self.inside.spots.ok.0) in
    rw (← c.self.view_is) (c.is_due_in.ensures ∙ ap (λ (s : Spot _). is_due_op (op_of s)) c.index.ensures
    ∙ sym (ap is_due_op (op-get c.self.inside.spots.items c.args.place c.index.result.now lt)))

pub returns-else-place-len : goal.returns-else-place-len
returns-else-place-len g c =
    let le : length c.self.inside.spots.items ≤ c.args.place = omega (arith, c.self.inside.spots.ok.0) in
    rw (← c.self.view_is) (sym (ap is_due_op (op-past c.self.inside.spots.items c.args.place le)))
