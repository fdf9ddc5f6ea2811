-- The place that the counts tell is that of the list.
use Rattle.std.proofs.Common.{ℕ, ◌+◌, ◌-◌, ◌<◌, ◌≡◌, ◌∙◌, Some, ap, arith, length, subst, sum, sym}
use Rattle.std.proofs.lemmas.List.{get_or_read}
use Rattle.std.specs.List.{slice_get}
use Rattle.cuts.specs.declared.orders.Step.{Step}
use Rattle.cuts.specs.view.Slots.{Slots}
use Rattle.rank_node.specs.Gates.{open_numbers}
use Rattle.rank_node.specs.Node.{NodeState}
use Rattle.worlds.specs.parts.Layout.{no_node}
use Rattle.worlds.specs.World.{AreSlots, WorldState, state_of, steps_in}
use Rattle.worlds.proofs.Ends.{given_slots, slots_given}
use Rattle.worlds.proofs.Standing.{delivery_in, firing_in, firings_there, number, stands, start_in}
use Rattle.worlds.proofs.world.World.enabled_step.Goals as goal

pub returns-then-i-starts : goal.returns-then-i-starts
returns-then-i-starts c = λ slots agree.
    let s = c.self.inside in
    let e = c.total-starts.ensures.sum in
    let t = c.if-i-starts.true in
    let back = subst (λ (w : WorldState). AreSlots w slots) (sym c.self.view_is) agree in
    ap (λ (w : WorldState). slice_get (steps_in w slots) c.args.i) (sym c.self.view_is)
    ∙ start_in s.job s.nodes.items s.traffic c.self.invariant slots back c.find-r.result.0
    c.find-r.result.1 c.args.i
    c.find-r.ensures.place c.find-r.ensures.before c.find-r.ensures.within (omega (arith, e, t))

pub returns-then-later-deliveries : goal.returns-then-later-deliveries
returns-then-later-deliveries c = λ slots agree.
    let s = c.self.inside in
    let e = c.total-starts.ensures.sum in
    let f = c.total-deliveries.ensures.sum in
    let t = c.if-i-starts.false in
    let u = c.if-later-deliveries.true in
    let back = subst (λ (w : WorldState). AreSlots w slots) (sym c.self.view_is) agree in
    let i : c.args.i ≡ sum s.traffic.starts + (c.args.i - c.total-starts.result) = omega (arith, e, t) in
    ap (λ (w : WorldState). slice_get (steps_in w slots) c.args.i) (sym c.self.view_is)
    ∙ ap (slice_get (steps_in (state_of s.job s.nodes.items s.traffic) slots)) i
    ∙ delivery_in s.job s.nodes.items s.traffic c.self.invariant slots back
    c.find-place.result.0 c.find-place.result.1 (c.args.i - c.total-starts.result)
    c.find-place.ensures.place c.find-place.ensures.before c.find-place.ensures.within (omega (arith, f, u))
    ∙ ap (λ (x : Step). Some x) (sym c.delivery_at.ensures)

pub find-r-requires-2 : goal.find-r-requires-2
find-r-requires-2 c =
    let s = c.self.inside in
    let e = c.total-starts.ensures.sum in
    let f = c.total-deliveries.ensures.sum in
    let t = c.if-i-starts.false in
    let u = c.if-later-deliveries.false in
    let back = slots_given (state_of s.job s.nodes.items s.traffic)
    (stands s.job s.nodes.items s.traffic c.self.invariant) in
    let k = number s.job s.nodes.items s.traffic c.self.invariant
    (given_slots (state_of s.job s.nodes.items s.traffic)) back in
    let h = subst (λ (w : WorldState). (slots : ℕ → Slots) → AreSlots w slots → c.args.i < length (steps_in w slots)) (sym c.self.view_is)
    c.requires (given_slots (state_of s.job s.nodes.items s.traffic)) back in
    omega (arith, e, f, t, u, k, h)

pub ready_at-requires : goal.ready_at-requires
ready_at-requires c =
    let s = c.self.inside in
    let there = firings_there s.job s.nodes.items s.traffic c.self.invariant
    c.find-r-2.result.0 c.find-r-2.result.1 c.find-r-2.ensures.place c.find-r-2.ensures.within in
    let q = get_or_read s.nodes.items c.find-r-2.result.0 c.index-node.result.now there.0 c.index-node.ensures no_node in
    let l = ap (λ (x : NodeState). length (open_numbers x.closed x.nic)) q in
    omega (arith, there.1, l)

pub returns : goal.returns
returns c = λ slots agree.
    let s = c.self.inside in
    let e = c.total-starts.ensures.sum in
    let f = c.total-deliveries.ensures.sum in
    let t = c.if-i-starts.false in
    let u = c.if-later-deliveries.false in
    let back = subst (λ (w : WorldState). AreSlots w slots) (sym c.self.view_is) agree in
    let k = number s.job s.nodes.items s.traffic c.self.invariant slots back in
    let h = subst (λ (w : WorldState). (slots : ℕ → Slots) → AreSlots w slots → c.args.i < length (steps_in w slots)) (sym c.self.view_is)
    c.requires slots back in
    let there = firings_there s.job s.nodes.items s.traffic c.self.invariant
    c.find-r-2.result.0 c.find-r-2.result.1 c.find-r-2.ensures.place c.find-r-2.ensures.within in
    let q = get_or_read s.nodes.items c.find-r-2.result.0 c.index-node.result.now there.0 c.index-node.ensures no_node in
    let i : c.args.i ≡ sum s.traffic.starts + (sum s.traffic.deliveries + (c.args.i - c.total-starts.result - c.total-deliveries.result))
    = omega
    (arith, e, f, t, u) in
    ap (λ (w : WorldState). slice_get (steps_in w slots) c.args.i) (sym c.self.view_is)
    ∙ ap (slice_get (steps_in (state_of s.job s.nodes.items s.traffic) slots)) i
    ∙ firing_in s.job s.nodes.items s.traffic c.self.invariant slots back
    c.find-r-2.result.0 c.find-r-2.result.1 (c.args.i - c.total-starts.result - c.total-deliveries.result) c.ready_at.result
    c.find-r-2.ensures.place c.find-r-2.ensures.before c.find-r-2.ensures.within (omega (arith, e, f, t, u, k, h))
    (ap (λ (x : NodeState). slice_get (open_numbers x.closed x.nic) c.find-r-2.result.1) (sym q) ∙ c.ready_at.ensures)
