use Rattle.std.specs.Prelude.{vec_capacity}
use Rattle.std.proofs.Common.{◌<◌, length, filter, sym, subst, arith}
use Rattle.triggered_ops.specs.Operations.{is_due}
use Rattle.triggered_ops.specs.Layout.{Spotted, operations_in}
use Rattle.triggered_ops.proofs.Spotting.{due-total, due-place}
use Rattle.triggered_ops.proofs.spots.Spots.due_at.Goals as goal

pub find-place-requires : goal.find-place-requires
find-place-requires g c =
    rw (due-total c.self.inside.spots.items c.self.inside.marks c.self.inside.waiting c.self.inside.room
    (vec_capacity c.self.inside.spots) c.self.invariant)
    (subst (λ (s : Spotted _). c.args.i < length (filter is_due (operations_in s.spots))) (sym c.self.view_is) c.requires)

pub overflow_cast-place : goal.overflow_cast-place
overflow_cast-place g c =
    let d = due-place c.self.inside.spots.items c.self.inside.marks c.self.inside.waiting c.self.inside.room
    (vec_capacity c.self.inside.spots) c.self.invariant c.find-place.result c.args.i c.find-place.ensures.within
    c.find-place.ensures.before c.find-place.ensures.here in
    omega (arith, d.0, c.self.invariant.fits, c.self.invariant.at_most)

pub number_at-requires : goal.number_at-requires
number_at-requires g c =
    rw c.deref.ensures.value ((due-place c.self.inside.spots.items c.self.inside.marks c.self.inside.waiting c.self.inside.room
    (vec_capacity c.self.inside.spots) c.self.invariant c.find-place.result c.args.i c.find-place.ensures.within
    c.find-place.ensures.before c.find-place.ensures.here).0)

pub returns : goal.returns
returns g c =
    let d = due-place c.self.inside.spots.items c.self.inside.marks c.self.inside.waiting c.self.inside.room
    (vec_capacity c.self.inside.spots) c.self.invariant c.find-place.result c.args.i c.find-place.ensures.within
    c.find-place.ensures.before c.find-place.ensures.here in
    rw (← c.self.view_is, c.number_at.ensures, c.deref.ensures.value) d.1
