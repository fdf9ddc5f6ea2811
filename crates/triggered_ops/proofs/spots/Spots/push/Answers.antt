use Rattle.std.specs.Prelude.{vec_capacity}
use Rattle.std.specs.Vec.{vec_len}
use Rattle.std.proofs.Common.{◌≡◌, ◌<◌, ◌+◌, length, refl, sym, subst, arith}
use Rattle.triggered_ops.specs.Layout.{Spotted}
use Rattle.triggered_ops.proofs.Places.{ops-short}
use Rattle.triggered_ops.proofs.Spotting.{spotted-pushed}
use Rattle.triggered_ops.proofs.spots.Spots.push.Goals as goal

pub overflow_add-self : goal.overflow_add-self
overflow_add-self g c =
    let room = subst (λ (s : Spotted _). length s.spots < s.room) (sym c.self.view_is) c.requires in
    let short = ops-short c.self.inside.spots.items in
    omega (arith, room, short, c.self.invariant.counted, c.self.invariant.at_most)

pub invariant_of-self : goal.invariant_of-self
invariant_of-self g c =
    let room = subst (λ (s : Spotted _). length s.spots < s.room) (sym c.self.view_is) c.requires in
    let long : vec_len c.self.inside.spots ≡ length c.self.inside.spots.items = omega (arith, c.self.inside.spots.ok.0) in
    rw (c.push_reserved.ensures.items, c.push_reserved.ensures.capacity, c.mark.ensures, c.len-place.ensures, long)
    (spotted-pushed c.self.inside.spots.items c.self.inside.marks c.self.inside.waiting c.self.inside.room
    (vec_capacity c.self.inside.spots) c.self.invariant _ c.args.action (c.self.inside.waiting + 1) refl room refl)

pub returns : goal.returns
returns g c = rw (← c.self.view_is, c.push_reserved.ensures.items) refl
