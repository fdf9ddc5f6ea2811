use Rattle.std.proofs.Common.{rules, arith, ◌≡◌, ◌<◌, ◌≤◌, ◌++◌, ◌∷◌, [], suc, List, length, sym, ap, ◌∙◌, subst, refl, append-nil}
use Rattle.std.proofs.Common.{append_assoc, length-append, set}
use mathlib.Core.Option.{some}
use lib.ListN.{get_elem?}
use Rattle.pair_wires.specs.Lanes.{Plain}
use Rattle.pair_wires.specs.Wires.{WireState}
use Rattle.cuts.specs.windows.Places.{lane_place}
use Rattle.schedule_compiler.specs.Schedules.{ScheduleOf}
use Rattle.worlds.specs.parts.Layout.{lane_at}
use Rattle.worlds.specs.FrameState.{FrameState}
use Rattle.worlds.specs.Frames.{frame_lane}
use Rattle.rank_slots.specs.Lanes.{IsLane}
use Rattle.rank_threads.specs.Closing.{IsLifted}
use Rattle.rank_wiring.specs.Opening.{AllLaid}
use Rattle.rank_threads.proofs.Lifts.{AreLifted, between, in-lanes, is-lane, lane-first, lifted-before, lifted-more, none-lifted}
use Rattle.rank_threads.proofs.Lifts.{some-room, unused-left}
use Rattle.rank_slots.proofs.Slotwise.{chain, stay}
use Rattle.rank_slots.proofs.Snocs.{front_some, last_at}
use Rattle.rank_threads.proofs.close.lift_wires.Goals as goal

one_more : {A : Type 0} (xs ys : List A) (a : A) → xs ≡ ys ++ a ∷ [] → length xs ≡ suc (length ys)
one_more xs ys a e = let q = length-append ys (a ∷ []) in omega (arith, q, ap (λ (l : List _). length l) e)

-- the wire that was popped stands at its place among all
wire_at : (all wires new : List WireState) (w : WireState) → ((rest : List WireState) × (all ≡ wires ++ rest)) → wires ≡ new ++ w ∷ [] →
    get_elem? all (length new) ≡ some w
wire_at all wires new w f e = ap (λ l. get_elem? l (length new)) f.1
    ∙ front_some wires f.0 (length new) w (ap (λ l. get_elem? l (length new)) e ∙ last_at new w)

pub loop-wire-init : goal.loop-wire-init
loop-wire-init g c = let f = c.args.frame.now in record {
  front = ([], sym (append-nil c.args.wires.now));
  count = refl;
  nodes = stay c.args.slots.now;
  laid = c.requires.laid;
  schedule = refl;
  inputs = refl;
  lifted = none-lifted f.schedule.plan f.schedule.plan.ranks refl c.args.wires.now c.requires.lanes c.args.slots.now f.lanes;
}

pub lift_wire-requires-clause-laid : goal.lift_wire-requires-clause-laid
lift_wire-requires-clause-laid g c = let w = c.in-Some.ensures.cases.0 in
    (c.in-Some.before.now, subst (λ l. AllLaid l c.loop-wire.slots) w c.loop-wire.invariant.laid)

pub lift_wire-requires-clause-between : goal.lift_wire-requires-clause-between
lift_wire-requires-clause-between g c = let i = c.loop-wire.invariant in let f = c.args.frame.now in
    let w = c.in-Some.ensures.cases.0 in
    let at = wire_at c.args.wires.now c.loop-wire.wires.now c.in-Some.before.now c.in-Some.wire.now i.front w in
    let b = between f.schedule.plan f.schedule.plan.ranks refl c.args.wires.now c.requires.lanes c.args.slots.now f.lanes
    (length c.in-Some.before.now) c.in-Some.wire.now at in
    let n = i.count in let m = c.requires.ranks in
    record { source = (let h = b.0 in omega (arith, h, n, m)); target = (let h = b.1 in omega (arith, h, n, m)) }

pub lift_wire-requires-clause-ranks : goal.lift_wire-requires-clause-ranks
lift_wire-requires-clause-ranks g c = let i = c.loop-wire.invariant in
    i.count ∙ (c.requires.ranks ∙ sym (ap (λ (o : ScheduleOf). o.plan.ranks) i.schedule))

pub lift_wire-requires-clause-lane : goal.lift_wire-requires-clause-lane
lift_wire-requires-clause-lane g c = let i = c.loop-wire.invariant in let f = c.args.frame.now in let v = c.in-Some.wire.now in
    let w = c.in-Some.ensures.cases.0 in
    let at = wire_at c.args.wires.now c.loop-wire.wires.now c.in-Some.before.now v i.front w in
    subst (λ (o : ScheduleOf). IsLane o.plan v.bounds) (sym i.schedule)
    (is-lane f.schedule.plan f.schedule.plan.ranks refl c.args.wires.now c.requires.lanes c.args.slots.now f.lanes
    (length c.in-Some.before.now) v at)

pub lift_wire-requires-clause-room : goal.lift_wire-requires-clause-room
lift_wire-requires-clause-room g c = let i = c.loop-wire.invariant in let v = c.in-Some.wire.now in
    let w = c.in-Some.ensures.cases.0 in
    c.requires.rooms (length c.in-Some.before.now) v (wire_at c.args.wires.now c.loop-wire.wires.now c.in-Some.before.now v i.front w)

pub lift_wire-requires-clause-empty : goal.lift_wire-requires-clause-empty
lift_wire-requires-clause-empty g c = let i = c.loop-wire.invariant in let f = c.args.frame.now in let v = c.in-Some.wire.now in
    let m = length c.in-Some.before.now in
    let w = c.in-Some.ensures.cases.0 in
    let lw = one_more c.loop-wire.wires.now c.in-Some.before.now v w in
    let at = wire_at c.args.wires.now c.loop-wire.wires.now c.in-Some.before.now v i.front w in
    let p = f.schedule.plan in let n = f.schedule.plan.ranks in let r = c.requires in
    let b = between p n refl c.args.wires.now r.lanes c.args.slots.now f.lanes m v at in
    let lifted = subst (λ k. AreLifted n c.args.wires.now c.args.slots.now f.lanes k c.loop-wire.frame.lanes) lw i.lifted in
    ap (λ (o : ScheduleOf). lane_at c.loop-wire.frame.lanes (lane_place o.plan.ranks v.bounds.source v.bounds.target v.bounds.lane))
    i.schedule
    ∙ (lane-first p n refl c.args.wires.now r.lanes c.args.slots.now f.lanes m c.loop-wire.frame.lanes lifted v at
    ∙ (r.empty v.bounds.source v.bounds.target v.bounds.lane b.0 b.1
    ∙ ap (λ (o : ScheduleOf). frame_lane o.plan v.bounds.source v.bounds.target v.bounds.lane) (sym i.schedule)))

pub loop-wire-preserved : goal.loop-wire-preserved
loop-wire-preserved g c = let i = c.loop-wire.invariant in let f = c.args.frame.now in let v = c.in-Some.wire.now in
    let m = length c.in-Some.before.now in
    let w = c.in-Some.ensures.cases.0 in
    let lw = one_more c.loop-wire.wires.now c.in-Some.before.now v w in
    let at = wire_at c.args.wires.now c.loop-wire.wires.now c.in-Some.before.now v i.front w in
    let p = f.schedule.plan in let n = f.schedule.plan.ranks in let r = c.requires in let e = c.lift_wire.ensures in let t = e.lifted in
    let b = between p n refl c.args.wires.now r.lanes c.args.slots.now f.lanes m v at in
    let ls = c.loop-wire.frame.lanes in
    let lifted = subst (λ k. AreLifted n c.args.wires.now c.args.slots.now f.lanes k ls) lw i.lifted in
    let place = lane_place n v.bounds.source v.bounds.target v.bounds.lane in
    let empty = lane-first p n refl c.args.wires.now r.lanes c.args.slots.now f.lanes m ls lifted v at
    ∙ r.empty v.bounds.source v.bounds.target v.bounds.lane b.0 b.1 in
    let some = some-room p v.bounds (is-lane p n refl c.args.wires.now r.lanes c.args.slots.now f.lanes m v at) in
    let low = in-lanes ls place (subst (λ (z : Plain). 0 < z.capacity) (sym empty) some) in
    let more = lifted-more p n refl c.args.wires.now r.lanes c.args.slots.now f.lanes m ls lifted v at t.0
    (lifted-before v.bounds c.args.slots.now c.loop-wire.slots t.0 i.nodes i.count t.2) low in
    let lanes = ap (λ (z : FrameState). z.lanes) t.1 in record {
      front = (v ∷ i.front.0, i.front.1 ∙ (ap (λ l. l ++ i.front.0) w ∙ append_assoc c.in-Some.before.now (v ∷ []) i.front.0));
      count = e.count ∙ i.count;
      nodes = chain c.args.slots.now c.loop-wire.slots c.lift_wire.new.slots i.nodes e.nodes;
      laid = e.laid c.in-Some.before.now (subst (λ l. AllLaid l c.loop-wire.slots) w i.laid);
      schedule = ap (λ (z : FrameState). z.schedule) t.1 ∙ i.schedule;
      inputs = ap (λ (z : FrameState). z.inputs) t.1 ∙ i.inputs;
      lifted = subst (AreLifted n c.args.wires.now c.args.slots.now f.lanes m)
          (sym (lanes ∙ ap (λ (o : ScheduleOf). set ls (lane_place o.plan.ranks v.bounds.source v.bounds.target v.bounds.lane) t.0)
          i.schedule)) more;
    }

pub returns-clause-lifted : goal.returns-clause-lifted
returns-clause-lifted g c = λ k w at. let i = c.loop-wire.invariant in let f = c.args.frame.now in
    let none : length c.loop-wire.wires.now ≤ k = search (rules, arith, c.split_last.ensures, c.in_default.ensures) in
    subst (λ (o : ScheduleOf). IsLifted w.bounds c.args.slots.now
    (lane_at c.loop-wire.frame.lanes (lane_place o.plan.ranks w.bounds.source w.bounds.target w.bounds.lane))) (sym i.schedule)
    (i.lifted.done k w none at)

pub returns-clause-unused : goal.returns-clause-unused
returns-clause-unused g c = λ s d lane hs hd unused. let i = c.loop-wire.invariant in let f = c.args.frame.now in let r = c.requires in
    let none : length c.loop-wire.wires.now ≡ 0 = search (rules, arith, c.split_last.ensures, c.in_default.ensures) in
    let lifted = subst (λ k. AreLifted f.schedule.plan.ranks c.args.wires.now c.args.slots.now f.lanes k c.loop-wire.frame.lanes) none
    i.lifted in
    ap (λ (o : ScheduleOf). lane_at c.loop-wire.frame.lanes (lane_place o.plan.ranks s d lane)) i.schedule
    ∙ (unused-left f.schedule.plan f.schedule.plan.ranks refl c.args.wires.now r.lanes c.args.slots.now f.lanes
    c.loop-wire.frame.lanes lifted s d lane hs hd unused
    ∙ r.empty s d lane hs hd)
