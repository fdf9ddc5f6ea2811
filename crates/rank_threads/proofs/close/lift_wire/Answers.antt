use Rattle.std.proofs.Common.{◌≡◌, ◌<◌, ◌≤◌, ◌++◌, Bool, true, false, List, length, min, sym, ap, ◌∙◌, subst, arith}
use lib.ListN.{get_elem?}
use Rattle.pair_wires.specs.declared.bounds.Bounds.{Bounds}
use Rattle.pair_wires.specs.Lanes.{Plain}
use Rattle.pair_wires.specs.Wires.{one_if}
use Rattle.plan_core.specs.calls.Lanes.{is_used_lane}
use Rattle.cuts.specs.windows.Places.{lane_place}
use Rattle.rank_node.specs.Node.{NodeState}
use Rattle.schedule_compiler.specs.Jobs.{JobOf}
use Rattle.worlds.specs.FrameLends.{with_lane}
use Rattle.worlds.specs.Frames.{lane_in}
use Rattle.rank_slots.specs.declared.ports.InPort.{InPort}
use Rattle.rank_slots.specs.Slots.{InOk}
use Rattle.rank_threads.proofs.Lifts.{held-between}
use Rattle.rank_slots.proofs.Slotwise.{chain}
use Rattle.rank_threads.proofs.Leaving.{laid_less, last_in, last_out, less_in, less_out, lost_in, lost_out, node_before, wire_ends}
use Rattle.rank_threads.proofs.close.lift_wire.Goals as goal

pub pull_out-out-requires-clause-rank : goal.pull_out-out-requires-clause-rank
pull_out-out-requires-clause-rank g c = subst (λ (z : Bounds). z.source < length c.args.slots.now) (sym c.bounds-bounds.ensures)
    c.requires.between.source

pub pull_out-out-requires-clause-nonempty : goal.pull_out-out-requires-clause-nonempty
pull_out-out-requires-clause-nonempty g c = let b = c.bounds-bounds.ensures in λ x at.
    let there = ap (λ (z : Bounds). get_elem? c.args.slots.now z.source) (sym b) ∙ at in
    last_out c.requires.laid.0 c.args.wire.now x (c.requires.laid.1 c.args.wire.now.bounds.source x there)

pub pull_in-into-requires-clause-rank : goal.pull_in-into-requires-clause-rank
pull_in-into-requires-clause-rank g c = let n = c.pull_out-out.ensures.count in let h = c.requires.between.target in
    subst (λ (z : Bounds). z.target < length c.pull_out-out.new.slots) (sym c.bounds-bounds.ensures) (omega (arith, n, h))

pub pull_in-into-requires-clause-nonempty : goal.pull_in-into-requires-clause-nonempty
pull_in-into-requires-clause-nonempty g c = let b = c.bounds-bounds.ensures in λ x at.
    let there = ap (λ (z : Bounds). get_elem? c.pull_out-out.new.slots z.target) (sym b) ∙ at in
    let y = c.pull_out-out.ensures.pulled c.args.wire.now.bounds.target x there in
    subst (λ (l : List InPort). 0 < length l) y.2.ins_are
    (last_in c.requires.laid.0 c.args.wire.now y.0 (c.requires.laid.1 c.args.wire.now.bounds.target y.0 y.1))

pub lane-lane-requires-clause-source : goal.lane-lane-requires-clause-source
lane-lane-requires-clause-source g c = let n = c.requires.ranks in let h = c.requires.between.source in
    subst (λ (z : Bounds). z.source < c.args.frame.now.schedule.plan.ranks) (sym c.bounds-bounds.ensures) (omega (arith, n, h))

pub lane-lane-requires-clause-target : goal.lane-lane-requires-clause-target
lane-lane-requires-clause-target g c = let n = c.requires.ranks in let h = c.requires.between.target in
    subst (λ (z : Bounds). z.target < c.args.frame.now.schedule.plan.ranks) (sym c.bounds-bounds.ensures) (omega (arith, n, h))

pub lane-lane-requires-clause-used : goal.lane-lane-requires-clause-used
lane-lane-requires-clause-used g c =
    subst (λ (z : Bounds). is_used_lane c.args.frame.now.schedule.plan z.source z.target z.lane ≡ true)
    (sym c.bounds-bounds.ensures) c.requires.lane.used

pub drain-requires-clause-ends : goal.drain-requires-clause-ends
drain-requires-clause-ends g c = let b = c.bounds-bounds.ensures in let o = c.pull_out-out in let i = c.pull_in-into in
    wire_ends c.requires.laid.0 c.args.wire.now o.result i.result c.args.slots.now o.new.slots i.new.slots c.requires.laid.1
    c.requires.between o.ensures.count i.ensures.count
    (lost_out c.bounds-bounds.result c.args.wire.now.bounds o.result c.args.slots.now o.new.slots b o.ensures.pulled)
    (lost_in c.bounds-bounds.result c.args.wire.now.bounds i.result o.new.slots i.new.slots b i.ensures.pulled)

at-most-one : (b : Bool) → one_if b ≤ 1
at-most-one true = omega arith
at-most-one false = omega arith

pub drain-requires-clause-room : goal.drain-requires-clause-room
drain-requires-clause-room g c =
    let f = c.args.frame.now in
    let is = c.lane-lane.ensures.value
    ∙ (ap (λ (z : Bounds). lane_in f z.source z.target z.lane) c.bounds-bounds.ensures ∙ c.requires.empty) in
    let m = ap (λ (l : Plain). length l.messages) is in let n = ap (λ (l : Plain). l.capacity) is in
    let all = ap (λ (z : Bounds). z.messages) c.requires.lane.bounds in
    let one = at-most-one c.pull_out-out.result.end.waits in let r = c.requires.room in omega (arith, m, n, all, one, r)

pub returns-clause-nodes : goal.returns-clause-nodes
returns-clause-nodes g c = let o = c.pull_out-out in let i = c.pull_in-into in
    chain c.args.slots.now o.new.slots i.new.slots (less_out c.bounds-bounds.result.source o.result c.args.slots.now o.new.slots
    o.ensures.pulled)
    (less_in c.bounds-bounds.result.target i.result o.new.slots i.new.slots i.ensures.pulled)

pub returns-clause-laid : goal.returns-clause-laid
returns-clause-laid g c = let b = c.bounds-bounds.ensures in let o = c.pull_out-out in let i = c.pull_in-into in λ before h.
    laid_less before c.args.wire.now o.result i.result c.args.slots.now o.new.slots i.new.slots
    (lost_out c.bounds-bounds.result c.args.wire.now.bounds o.result c.args.slots.now o.new.slots b o.ensures.pulled)
    (lost_in c.bounds-bounds.result c.args.wire.now.bounds i.result o.new.slots i.new.slots b i.ensures.pulled) h

pub returns-clause-lifted : goal.returns-clause-lifted
returns-clause-lifted g c = let b = c.bounds-bounds.ensures in let o = c.pull_out-out in let i = c.pull_in-into in let f =
    c.args.frame.now in
    let is = c.lane-lane.ensures.value ∙ (ap (λ (z : Bounds). lane_in f z.source z.target z.lane) b ∙ c.requires.empty) in
    let w = wire_ends c.requires.laid.0 c.args.wire.now o.result i.result c.args.slots.now o.new.slots i.new.slots c.requires.laid.1
    c.requires.between o.ensures.count i.ensures.count
    (lost_out c.bounds-bounds.result c.args.wire.now.bounds o.result c.args.slots.now o.new.slots b o.ensures.pulled)
    (lost_in c.bounds-bounds.result c.args.wire.now.bounds i.result o.new.slots i.new.slots b i.ensures.pulled) in
    let h = c.drain.ensures.held in let l = c.drain.new.rest in
    let all = ap (λ (z : Bounds). min 4 z.messages) c.requires.lane.bounds in
    let capacity : l.capacity ≡ min 4 c.args.wire.now.bounds.messages =
    c.drain.ensures.capacity ∙ (ap (λ (z : Plain). z.capacity) is ∙ sym all) in (
      l,
      ap (λ (z : Bounds). with_lane f (lane_place f.schedule.plan.ranks z.source z.target z.lane) l) b,
      record {
        held = λ x y ex ey.
            (let u = node_before c.args.slots.now o.new.slots
            (less_out c.bounds-bounds.result.source o.result c.args.slots.now o.new.slots o.ensures.pulled) o.ensures.count
            c.args.wire.now.bounds.target y ey in
            held-between c.args.wire.now.bounds x y o.result i.result h.0 l
            (o.ensures.port x (ap (λ (z : Bounds). get_elem? c.args.slots.now z.source) b ∙ ex))
            (subst (λ (z : JobOf × NodeState). InOk z.0.schedule.plan z.1 i.result) (λ k. (u.2.job_is k, u.2.node k))
            (i.ensures.port u.0 (ap (λ (z : Bounds). get_elem? o.new.slots z.target) b ∙ u.1)))
            w.0.1 w.1.1 h.2 (h.1 ∙ ap (λ (z : Plain). z.messages ++ h.0) is));
        at_most = (let k = c.drain.ensures.at_most in omega (arith, k, capacity));
        room = capacity;
      },
    )
