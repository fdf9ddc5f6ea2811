use Rattle.std.specs.Prelude.{vec_capacity}
use Rattle.std.proofs.Common.{length, filter, ap, ◌∙◌}
use Rattle.triggered_ops.specs.Operations.{is_due}
use Rattle.triggered_ops.specs.Layout.{Spotted, operations_in}
use Rattle.triggered_ops.proofs.Spotting.{due-total}
use Rattle.triggered_ops.proofs.spots.Spots.due.Goals as goal

pub returns : goal.returns
returns g c = c.total.ensures ∙ due-total c.self.inside.spots.items c.self.inside.marks c.self.inside.waiting c.self.inside.room
    (vec_capacity c.self.inside.spots) c.self.invariant ∙ ap (λ (s : Spotted _). length (filter is_due (operations_in s.spots)))
    c.self.view_is
