use Rattle.std.specs.Prelude.{vec_capacity}
use Rattle.std.proofs.Common.{ap, sym, subst}
use Rattle.triggered_ops.specs.Layout.{Spotted, spotted, AreGone}
use Rattle.triggered_ops.proofs.Spotting.{spotted-taken}
use Rattle.triggered_ops.proofs.spots.Spots.truncate.Goals as goal

pub invariant_of-self : goal.invariant_of-self
invariant_of-self g c = rw c.truncate.ensures.items (spotted-taken c.self.inside.spots.items c.self.inside.marks c.self.inside.waiting
    c.self.inside.room (vec_capacity c.self.inside.spots) c.self.invariant c.args.len _
    (subst (λ (s : Spotted _). AreGone c.args.len s.spots) (sym c.self.view_is) c.requires) c.truncate.ensures.capacity)

pub returns : goal.returns
returns g c = rw (← c.self.view_is) (ap (λ l. spotted l c.self.inside.room) c.truncate.ensures.items)
