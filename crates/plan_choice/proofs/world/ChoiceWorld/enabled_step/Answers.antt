-- The place that the counts tell is that of the list.
use Rattle.std.proofs.Common.{◌+◌, ◌-◌, ◌<◌, ◌≡◌, ◌∙◌, Some, ap, arith, length, subst, sum, sym}
use Rattle.std.proofs.lemmas.List.{get_or_read}
use Rattle.std.specs.List.{slice_get}
use Rattle.ni_model.specs.Ready.{ready_numbers}
use Rattle.cuts.specs.declared.orders.Step.{Step}
use Rattle.plan_choice.specs.ranks.Seats.{ChoiceRankState}
use Rattle.plan_choice.specs.Acts.{no_seated}
use Rattle.plan_choice.specs.World.{ChoiceState, state_of, steps_in}
use Rattle.plan_choice.proofs.Standing.{delivery_in, firing_in, firings_there, number, start_in}
use Rattle.plan_choice.proofs.world.ChoiceWorld.enabled_step.Goals as goal

pub returns-then-i-starts : goal.returns-then-i-starts
returns-then-i-starts c =
    let s = c.self.inside in
    let e = c.total-starts.ensures.sum in
    let t = c.if-i-starts.true in
    ap (λ (w : ChoiceState). slice_get (steps_in w) c.args.i) (sym c.self.view_is)
    ∙ start_in s.kinds.items s.seats.items s.traffic c.self.invariant c.find-r.result.0 c.find-r.result.1 c.args.i
    c.find-r.ensures.place c.find-r.ensures.before c.find-r.ensures.within (omega (arith, e, t))

pub delivery_at-requires-clause-at_most : goal.delivery_at-requires-clause-at_most
delivery_at-requires-clause-at_most c = c.self.invariant.standing.in_range.few_ranks

pub delivery_at-requires-clause-within : goal.delivery_at-requires-clause-within
delivery_at-requires-clause-within c = let a = c.find-place.ensures.place in let b = c.self.invariant.counted.wide_deliveries in
    omega (arith, a, b)

pub returns-then-later-deliveries : goal.returns-then-later-deliveries
returns-then-later-deliveries c =
    let s = c.self.inside in
    let w : ChoiceState = state_of s.kinds.items s.seats.items s.traffic in
    let e = c.total-starts.ensures.sum in
    let f = c.total-deliveries.ensures.sum in
    let t = c.if-i-starts.false in
    let u = c.if-later-deliveries.true in
    let i : c.args.i ≡ sum s.traffic.starts + (c.args.i - c.total-starts.result) = omega (arith, e, t) in
    ap (λ (w : ChoiceState). slice_get (steps_in w) c.args.i) (sym c.self.view_is)
    ∙ ap (slice_get (steps_in w)) i
    ∙ delivery_in s.kinds.items s.seats.items s.traffic c.self.invariant c.find-place.result.0 c.find-place.result.1
    (c.args.i - c.total-starts.result) c.find-place.ensures.place c.find-place.ensures.before c.find-place.ensures.within
    (omega (arith, f, u))
    ∙ ap (λ (x : Step). Some x) (sym c.delivery_at.ensures)

pub find-r-requires-2 : goal.find-r-requires-2
find-r-requires-2 c =
    let s = c.self.inside in
    let e = c.total-starts.ensures.sum in
    let f = c.total-deliveries.ensures.sum in
    let t = c.if-i-starts.false in
    let u = c.if-later-deliveries.false in
    let k = number s.kinds.items s.seats.items s.traffic c.self.invariant in
    let h = subst (λ (w : ChoiceState). c.args.i < length (steps_in w)) (sym c.self.view_is) c.requires in
    omega (arith, e, f, t, u, k, h)

pub overflow_cast-rest : goal.overflow_cast-rest
overflow_cast-rest c =
    let s = c.self.inside in
    let there = firings_there s.kinds.items s.seats.items s.traffic c.self.invariant c.find-r-2.result.0 c.find-r-2.result.1
    c.find-r-2.ensures.place c.find-r-2.ensures.within in
    let q = get_or_read s.seats.items c.find-r-2.result.0 c.index-seat.result.now there.0 c.index-seat.ensures no_seated in
    let l = ap (λ (x : ChoiceRankState). length (ready_numbers x.nic)) q in
    let n = c.ready.ensures in
    omega (arith, there.1, l, n)

pub ready_at-requires : goal.ready_at-requires
ready_at-requires c =
    let s = c.self.inside in
    let there = firings_there s.kinds.items s.seats.items s.traffic c.self.invariant c.find-r-2.result.0 c.find-r-2.result.1
    c.find-r-2.ensures.place c.find-r-2.ensures.within in
    let q = get_or_read s.seats.items c.find-r-2.result.0 c.index-seat.result.now there.0 c.index-seat.ensures no_seated in
    let l = ap (λ (x : ChoiceRankState). length (ready_numbers x.nic)) q in
    omega (arith, there.1, l)

pub returns : goal.returns
returns c =
    let s = c.self.inside in
    let w : ChoiceState = state_of s.kinds.items s.seats.items s.traffic in
    let e = c.total-starts.ensures.sum in
    let f = c.total-deliveries.ensures.sum in
    let t = c.if-i-starts.false in
    let u = c.if-later-deliveries.false in
    let k = number s.kinds.items s.seats.items s.traffic c.self.invariant in
    let h = subst (λ (w : ChoiceState). c.args.i < length (steps_in w)) (sym c.self.view_is) c.requires in
    let there = firings_there s.kinds.items s.seats.items s.traffic c.self.invariant c.find-r-2.result.0 c.find-r-2.result.1
    c.find-r-2.ensures.place c.find-r-2.ensures.within in
    let q = get_or_read s.seats.items c.find-r-2.result.0 c.index-seat.result.now there.0 c.index-seat.ensures no_seated in
    let i : c.args.i ≡ sum s.traffic.starts + (sum s.traffic.deliveries + (c.args.i - c.total-starts.result - c.total-deliveries.result)) =
    omega (arith, e, f, t, u) in
    ap (λ (w : ChoiceState). slice_get (steps_in w) c.args.i) (sym c.self.view_is)
    ∙ ap (slice_get (steps_in w)) i
    ∙ firing_in s.kinds.items s.seats.items s.traffic c.self.invariant c.find-r-2.result.0 c.find-r-2.result.1
    (c.args.i - c.total-starts.result - c.total-deliveries.result) c.ready_at.result c.find-r-2.ensures.place c.find-r-2.ensures.before
    c.find-r-2.ensures.within (omega (arith, e, f, t, u, k, h))
    (ap (λ (x : ChoiceRankState). slice_get (ready_numbers x.nic) c.find-r-2.result.1) (sym q) ∙ c.ready_at.ensures)
