use Rattle.std.specs.Prelude.{vec_capacity}
use Rattle.std.proofs.Common.{◌≡◌, ℕ, true, None, cond, set, sym, ap, subst, arith, length-set}
use Rattle.std.specs.Prelude.{is_some}
use Rattle.triggered_ops.specs.declared.spots.Spot.{Spot}
use Rattle.triggered_ops.specs.Layout.{Spotted, spotted, wait_at, IsSpotted}
use Rattle.triggered_ops.proofs.Spotting.{spot-within, spotted-swapped}
use Rattle.triggered_ops.proofs.spots.Spots.carry.Goals as goal

pub index-requires : goal.index-requires
index-requires g c =
    let full = subst (λ (s : Spotted _). is_some (wait_at s.spots c.args.from) ≡ true) (sym c.self.view_is) c.requires.full in
    let w = spot-within c.self.inside.spots.items c.self.inside.marks c.self.inside.waiting c.self.inside.room
    (vec_capacity c.self.inside.spots) c.self.invariant c.args.from full in
    omega (arith, w.0, c.self.inside.spots.ok.0)

pub swap-requires-clause-i_in_bounds : goal.swap-requires-clause-i_in_bounds
swap-requires-clause-i_in_bounds g c =
    let full = subst (λ (s : Spotted _). is_some (wait_at s.spots c.args.from) ≡ true) (sym c.self.view_is) c.requires.full in
    let w = spot-within c.self.inside.spots.items c.self.inside.marks c.self.inside.waiting c.self.inside.room
    (vec_capacity c.self.inside.spots) c.self.invariant c.args.from full in
    omega (arith, w.0, c.self.inside.spots.ok.0)

pub swap-requires-clause-j_in_bounds : goal.swap-requires-clause-j_in_bounds
swap-requires-clause-j_in_bounds g c =
    let full = subst (λ (s : Spotted _). is_some (wait_at s.spots c.args.from) ≡ true) (sym c.self.view_is) c.requires.full in
    let w = spot-within c.self.inside.spots.items c.self.inside.marks c.self.inside.waiting c.self.inside.room
    (vec_capacity c.self.inside.spots) c.self.invariant c.args.from full in
    omega (arith, w.0, c.requires.order, c.self.inside.spots.ok.0)

pub mark-requires : goal.mark-requires
mark-requires g c =
    let full = subst (λ (s : Spotted _). is_some (wait_at s.spots c.args.from) ≡ true) (sym c.self.view_is) c.requires.full in
    (spot-within c.self.inside.spots.items c.self.inside.marks c.self.inside.waiting c.self.inside.room (vec_capacity c.self.inside.spots)
    c.self.invariant c.args.from full).1

pub mark-requires-2 : goal.mark-requires-2
mark-requires-2 g c =
    let full = subst (λ (s : Spotted _). is_some (wait_at s.spots c.args.from) ≡ true) (sym c.self.view_is) c.requires.full in
    let w = spot-within c.self.inside.spots.items c.self.inside.marks c.self.inside.waiting c.self.inside.room
    (vec_capacity c.self.inside.spots) c.self.invariant c.args.from full in
    rw c.mark.ensures (omega (arith, w.1, c.requires.order, length-set c.self.inside.marks c.args.from 0))

pub invariant_of-self : goal.invariant_of-self
invariant_of-self g c =
    let s = c.self.inside in
    let full = subst (λ (s : Spotted _). is_some (wait_at s.spots c.args.from) ≡ true) (sym c.self.view_is) c.requires.full in
    let empty = subst (λ (s : Spotted _). wait_at s.spots c.args.to ≡ None) (sym c.self.view_is) c.requires.empty in
    rw (c.mark-2.ensures, c.mark.ensures) (subst (λ (n : ℕ). IsSpotted c.swap.new.self.items
    (set (set s.marks c.args.from 0) c.args.to (cond c.index.result.now.due 1 0)) s.waiting s.room n) (sym c.swap.ensures.capacity)
    (subst (λ l. IsSpotted l (set (set s.marks c.args.from 0) c.args.to (cond c.index.result.now.due 1 0)) s.waiting s.room
    (vec_capacity s.spots)) (sym c.swap.ensures.items)
    (spotted-swapped c.self.inside.spots.items c.self.inside.marks c.self.inside.waiting c.self.inside.room
    (vec_capacity c.self.inside.spots) c.self.invariant c.args.from c.args.to c.index.result.now c.index.result.now.due
    c.requires.order full empty (sym (ap (λ (t : Spot _). t.due) c.index.ensures)))))

pub returns : goal.returns
returns g c = rw (← c.self.view_is) (ap (λ l. spotted l c.self.inside.room) c.swap.ensures.items)
