use Rattle.std.specs.Prelude.{vec_capacity}
use Rattle.std.proofs.Common.{◌≡◌, true, cond, set, sym, ap, subst, ◌∙◌, arith}
use Rattle.std.specs.Prelude.{is_some}
use Rattle.triggered_ops.specs.declared.spots.Spot.{Spot}
use Rattle.triggered_ops.specs.Layout.{Spotted, spotted, wait_at, noted_due, IsSpotted}
use Rattle.triggered_ops.proofs.Places.{changed-set}
use Rattle.triggered_ops.proofs.Spotting.{spot-within, spotted-noted}
use Rattle.triggered_ops.proofs.spots.Spots.note_due.Goals as goal

pub index_mut-requires : goal.index_mut-requires
index_mut-requires g c =
    let e = subst (λ (s : Spotted _). is_some (wait_at s.spots c.args.place) ≡ true) (sym c.self.view_is) c.requires in
    let w = spot-within c.self.inside.spots.items c.self.inside.marks c.self.inside.waiting c.self.inside.room
    (vec_capacity c.self.inside.spots) c.self.invariant c.args.place e in
    omega (arith, w.0, c.self.inside.spots.ok.0)

pub mark-requires : goal.mark-requires
mark-requires g c =
    let e = subst (λ (s : Spotted _). is_some (wait_at s.spots c.args.place) ≡ true) (sym c.self.view_is) c.requires in
    (spot-within c.self.inside.spots.items c.self.inside.marks c.self.inside.waiting c.self.inside.room (vec_capacity c.self.inside.spots)
    c.self.invariant c.args.place e).1

pub invariant_of-self : goal.invariant_of-self
invariant_of-self g c =
    let e = subst (λ (s : Spotted _). is_some (wait_at s.spots c.args.place) ≡ true) (sym c.self.view_is) c.requires in
    let s = c.self.inside in
    let w = spot-within c.self.inside.spots.items c.self.inside.marks c.self.inside.waiting c.self.inside.room
    (vec_capacity c.self.inside.spots) c.self.invariant c.args.place e in
    let found = c.index_mut.result.now in
    let is : set s.spots.items c.args.place (record found { due = c.args.due }) ≡ noted_due c.args.place c.args.due s.spots.items =
    ap (λ (t : Spot _). set s.spots.items c.args.place (record t { due = c.args.due })) c.index_mut.ensures.value
    ∙ changed-set (λ t. record t { due = c.args.due }) c.args.place s.spots.items found w.0 in
    rw c.mark.ensures (subst (λ l. IsSpotted l (set s.marks c.args.place (cond c.args.due 1 0)) s.waiting s.room (vec_capacity s.spots))
    (sym is) (spotted-noted c.self.inside.spots.items c.self.inside.marks c.self.inside.waiting c.self.inside.room
    (vec_capacity c.self.inside.spots) c.self.invariant c.args.place c.args.due e))

pub returns : goal.returns
returns g c =
    let e = subst (λ (s : Spotted _). is_some (wait_at s.spots c.args.place) ≡ true) (sym c.self.view_is) c.requires in
    let s = c.self.inside in
    let w = spot-within c.self.inside.spots.items c.self.inside.marks c.self.inside.waiting c.self.inside.room
    (vec_capacity c.self.inside.spots) c.self.invariant c.args.place e in
    let found = c.index_mut.result.now in
    let is : set s.spots.items c.args.place (record found { due = c.args.due }) ≡ noted_due c.args.place c.args.due s.spots.items =
    ap (λ (t : Spot _). set s.spots.items c.args.place (record t { due = c.args.due })) c.index_mut.ensures.value
    ∙ changed-set (λ t. record t { due = c.args.due }) c.args.place s.spots.items found w.0 in
    rw (← c.self.view_is) (ap (λ l. spotted l s.room) is)
