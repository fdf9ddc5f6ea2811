use Rattle.std.specs.Prelude.{vec_capacity}
use Rattle.std.proofs.Common.{◌≡◌, ◌-◌, true, None, set, get_or, sym, ap, subst, ◌∙◌, arith}
use Rattle.std.specs.Prelude.{is_some, option_map}
use Rattle.triggered_ops.specs.declared.spots.Spot.{Spot}
use Rattle.triggered_ops.specs.Operations.{action_of}
use Rattle.triggered_ops.specs.Layout.{Spotted, spotted, wait_at, emptied, IsSpotted}
use Rattle.triggered_ops.proofs.Places.{changed-set, op-get, action-is}
use Rattle.triggered_ops.proofs.Spotting.{spot-within, spotted-emptied, waits-some}
use Rattle.triggered_ops.proofs.spots.Spots.take.Goals as goal

pub mark-requires : goal.mark-requires
mark-requires g c =
    let e = subst (λ (s : Spotted _). is_some (wait_at s.spots c.args.place) ≡ true) (sym c.self.view_is) c.requires in
    (spot-within c.self.inside.spots.items c.self.inside.marks c.self.inside.waiting c.self.inside.room (vec_capacity c.self.inside.spots)
    c.self.invariant c.args.place e).1

pub overflow_sub-self : goal.overflow_sub-self
overflow_sub-self g c =
    let e = subst (λ (s : Spotted _). is_some (wait_at s.spots c.args.place) ≡ true) (sym c.self.view_is) c.requires in
    waits-some c.self.inside.spots.items c.self.inside.marks c.self.inside.waiting c.self.inside.room (vec_capacity c.self.inside.spots)
    c.self.invariant c.args.place e

pub index_mut-requires : goal.index_mut-requires
index_mut-requires g c =
    let e = subst (λ (s : Spotted _). is_some (wait_at s.spots c.args.place) ≡ true) (sym c.self.view_is) c.requires in
    let w = spot-within c.self.inside.spots.items c.self.inside.marks c.self.inside.waiting c.self.inside.room
    (vec_capacity c.self.inside.spots) c.self.invariant c.args.place e in
    omega (arith, w.0, c.self.inside.spots.ok.0)

pub invariant_of-self : goal.invariant_of-self
invariant_of-self g c =
    let e = subst (λ (s : Spotted _). is_some (wait_at s.spots c.args.place) ≡ true) (sym c.self.view_is) c.requires in
    let s = c.self.inside in
    let w = spot-within c.self.inside.spots.items c.self.inside.marks c.self.inside.waiting c.self.inside.room
    (vec_capacity c.self.inside.spots) c.self.invariant c.args.place e in
    let found = c.index_mut.result.now in
    let some = waits-some c.self.inside.spots.items c.self.inside.marks c.self.inside.waiting c.self.inside.room
    (vec_capacity c.self.inside.spots) c.self.invariant c.args.place e in
    let is : set s.spots.items c.args.place (record found { action = c.take.new.self }) ≡ emptied c.args.place s.spots.items =
    (λ i. set s.spots.items c.args.place (record (c.index_mut.ensures.value i) { action = c.take.ensures.after i }))
    ∙ changed-set (λ t. record t { action = None }) c.args.place s.spots.items found w.0 in
    rw c.mark.ensures (subst (λ l. IsSpotted l (set s.marks c.args.place 0) (s.waiting - 1) s.room (vec_capacity s.spots)) (sym is)
    (spotted-emptied c.self.inside.spots.items c.self.inside.marks c.self.inside.waiting c.self.inside.room
    (vec_capacity c.self.inside.spots) c.self.invariant c.args.place (s.waiting - 1) e (omega (arith, some))))

pub returns-clause-value : goal.returns-clause-value
returns-clause-value g c =
    let e = subst (λ (s : Spotted _). is_some (wait_at s.spots c.args.place) ≡ true) (sym c.self.view_is) c.requires in
    let s = c.self.inside in
    let w = spot-within c.self.inside.spots.items c.self.inside.marks c.self.inside.waiting c.self.inside.room
    (vec_capacity c.self.inside.spots) c.self.invariant c.args.place e in
    let found = c.index_mut.result.now in
    rw (← c.self.view_is) (c.take.ensures.value ∙ ap (λ (t : Spot _). t.action) c.index_mut.ensures.value
    ∙ action-is (get_or s.spots.items c.args.place found) ∙ sym (ap (option_map action_of) (op-get s.spots.items c.args.place found w.0)))

pub returns-clause-rest : goal.returns-clause-rest
returns-clause-rest g c =
    let e = subst (λ (s : Spotted _). is_some (wait_at s.spots c.args.place) ≡ true) (sym c.self.view_is) c.requires in
    let s = c.self.inside in
    let w = spot-within c.self.inside.spots.items c.self.inside.marks c.self.inside.waiting c.self.inside.room
    (vec_capacity c.self.inside.spots) c.self.invariant c.args.place e in
    let found = c.index_mut.result.now in
    let is : set s.spots.items c.args.place (record found { action = c.take.new.self }) ≡ emptied c.args.place s.spots.items =
    (λ i. set s.spots.items c.args.place (record (c.index_mut.ensures.value i) { action = c.take.ensures.after i }))
    ∙ changed-set (λ t. record t { action = None }) c.args.place s.spots.items found w.0 in
    rw (← c.self.view_is) (ap (λ l. spotted l s.room) is)
