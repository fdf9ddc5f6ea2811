use Rattle.std.proofs.Common.{◌≡◌, ◌<◌, ◌++◌, ◌∙◌, ℕ, false, List, length, map, sym, ap, subst, take, drop, arith}
use mathlib.Core.Option.{some}
use lib.ListN.{get_elem?}
use Rattle.ptl_types.specs.declared.headers.Lane.{Lane}
use Rattle.schedule_compiler.specs.Schedules.{ScheduleOf}
use Rattle.pair_wires.specs.Wires.{WireState}
use Rattle.plan_core.specs.calls.Lanes.{is_used_lane}
use Rattle.cuts.specs.orders.Chosen.{Scene}
use Rattle.cuts.specs.windows.Places.{lane_place}
use Rattle.rank_node.specs.Handles.{Agrees}
use Rattle.rank_node.specs.Node.{NodeState}
use Rattle.worlds.specs.Frames.{frame_lane}
use Rattle.worlds.specs.parts.Layout.{lane_at}
use Rattle.worlds.proofs.Ends.{barriers_in}
use Rattle.rank_slots.specs.declared.turn_rank.TurnRank.{TurnRank}
use Rattle.rank_threads.specs.Closing.{IsLifted, IsWorldOf}
use Rattle.rank_threads.specs.Fabrics.{FabricState, IsNamed}
use Rattle.rank_slots.specs.Lanes.{AreLanes}
use Rattle.rank_slots.specs.Lists.{Each}
use Rattle.rank_wiring.specs.Opening.{AllLaid, HasWireRoom}
use Rattle.rank_slots.specs.Names.{plate}
use Rattle.rank_wiring.specs.Wiring.{bounds_of}
use Rattle.rank_threads.proofs.Closing.{may-close}
use Rattle.rank_threads.proofs.Ending.{as-many, kept-at, laid-left, left-history, may-frame, named-left, node-of-slot}
use Rattle.rank_slots.proofs.Snocs.{written}
use Rattle.rank_threads.proofs.fabric.Fabric.close_keeping.Goals as goal

pub lift_wires-requires-clause-laid : goal.lift_wires-requires-clause-laid
lift_wires-requires-clause-laid g c =
    let s = c.self.inside in let k = c.self.invariant in let e = c.close-slots.ensures in
    subst (λ (l : List WireState). AllLaid l c.deref_mut.result.now) (sym c.deref.ensures.value)
    (subst (AllLaid s.wires.items) (sym c.deref_mut.ensures.value)
    (laid-left s.job s.wires.items c.close-slots.result.items
    (named-left s.job s.wires.items s.turns.start c.close-slots.result.items e.length k.fabric.named
    (λ r x y a b. (e.values r x a).named y b))))

pub lift_wires-requires-clause-ranks : goal.lift_wires-requires-clause-ranks
lift_wires-requires-clause-ranks g c =
    let s = c.self.inside in let k = c.self.invariant in let e = c.close-slots.ensures in
    ap (λ (l : List TurnRank). length l) c.deref_mut.ensures.value
    ∙ (e.length ∙ (k.fabric.count ∙ sym (ap (λ (o : ScheduleOf). o.plan.ranks) k.frame_is.schedule)))

pub lift_wires-requires-clause-lanes : goal.lift_wires-requires-clause-lanes
lift_wires-requires-clause-lanes g c = let s = c.self.inside in let k = c.self.invariant in
    subst (λ (l : List WireState). AreLanes s.frame.schedule.plan (bounds_of l)) (sym c.deref.ensures.value)
    (subst (λ (o : ScheduleOf). AreLanes o.plan (bounds_of s.wires.items)) (sym k.frame_is.schedule) k.fabric.lanes)

pub lift_wires-requires-clause-rooms : goal.lift_wires-requires-clause-rooms
lift_wires-requires-clause-rooms g c = subst (Each HasWireRoom) (sym c.deref.ensures.value) c.self.invariant.rooms

pub lift_wires-requires-clause-empty : goal.lift_wires-requires-clause-empty
lift_wires-requires-clause-empty g c = let s = c.self.inside in let k = c.self.invariant in
    subst (λ (o : ScheduleOf). (q d : ℕ) (lane : Lane) → q < o.plan.ranks → d < o.plan.ranks
    → lane_at s.frame.lanes (lane_place o.plan.ranks q d lane) ≡ frame_lane o.plan q d lane)
    (sym k.frame_is.schedule) k.frame_is.lanes

pub take_nodes-nodes-requires : goal.take_nodes-nodes-requires
take_nodes-nodes-requires g c =
    let s = c.self.inside in let k = c.self.invariant in let e = c.close-slots.ensures in let v = c.lift_wires.ensures in
    let slots : take c.close-slots.result.len (c.lift_wires.new.slots ++ drop (length c.lift_wires.new.slots) c.close-slots.result.items)
    ≡ c.lift_wires.new.slots =
    written c.close-slots.result.len c.lift_wires.new.slots _ (sym (v.count ∙ c.deref_mut.ensures.len)) in
    let many = ap (λ (l : List TurnRank). length l) slots in
    let n = v.count in let m = ap (λ (l : List TurnRank). length l) c.deref_mut.ensures.value in let l = e.length in let r = k.roomy in
    record { room = (k.empty, omega (arith, many, n, m, l, r)) }

pub into_world-world-requires : goal.into_world-world-requires
into_world-world-requires g c =
    let s = c.self.inside in let k = c.self.invariant in let e = c.close-slots.ensures in let v = c.lift_wires.ensures in let t =
    c.take_nodes-nodes.ensures in
    let lent = c.deref_mut.result.now in let last = c.lift_wires.new.slots in let f = c.lift_wires.new.frame in let nodes =
    c.take_nodes-nodes.result.items in
    let slots : take c.close-slots.result.len (last ++ drop (length last) c.close-slots.result.items) ≡ last =
    written c.close-slots.result.len last _ (sym (v.count ∙ c.deref_mut.ensures.len)) in
    let is : nodes ≡ map (λ (x : TurnRank). x.node.value) last = t.nodes
    ∙ ap (λ (l : List TurnRank). map (λ (x : TurnRank). x.node.value) l) slots in
    let many : length lent ≡ s.job.schedule.plan.ranks = ap (λ (l : List TurnRank). length l) c.deref_mut.ensures.value
    ∙ (e.length ∙ k.fabric.count) in
    let size : length nodes ≡ s.job.schedule.plan.ranks = as-many last nodes is ∙ (v.count ∙ many) in
    let same : f.schedule ≡ s.job.schedule = v.schedule ∙ k.frame_is.schedule in
    let named = subst (λ (l : List TurnRank). (r : ℕ) (x : TurnRank) → get_elem? l r ≡ some x → IsNamed s.job s.wires.items r (plate x))
    (sym c.deref_mut.ensures.value)
    (named-left s.job s.wires.items s.turns.start c.close-slots.result.items e.length k.fabric.named
    (λ r x y a b. (e.values r x a).named y b)) in
    may-frame s.job f nodes same (v.inputs ∙ k.frame_is.inputs)
    (may-close s.job k.fabric.sound lent s.wires.items nodes f.lanes size
    (λ r h. kept-at nodes t.kept r (omega (arith, h, size)))
    (λ r h. node-of-slot lent last nodes v.nodes v.count is r (omega (arith, h, many)))
    named k.fabric.lanes
    (λ i w at. subst (λ (o : ScheduleOf). IsLifted w.bounds lent
    (lane_at f.lanes (lane_place o.plan.ranks w.bounds.source w.bounds.target w.bounds.lane))) same
    (v.lifted i w (ap (λ (l : List WireState). get_elem? l i) c.deref.ensures.value ∙ at)))
    (λ q d lane hq hd none.
    subst (λ (o : ScheduleOf). lane_at f.lanes (lane_place o.plan.ranks q d lane) ≡ frame_lane s.job.schedule.plan q d lane) same
    (v.unused q d lane (subst (λ (o : ScheduleOf). q < o.plan.ranks) (sym k.frame_is.schedule) hq)
    (subst (λ (o : ScheduleOf). d < o.plan.ranks) (sym k.frame_is.schedule) hd)
    (subst (λ (o : ScheduleOf). is_used_lane o.plan q d lane ≡ false) (sym k.frame_is.schedule) none)
    ∙ ap (λ (o : ScheduleOf). frame_lane o.plan q d lane) k.frame_is.schedule)))

pub returns-clause-world : goal.returns-clause-world
returns-clause-world g c =
    let s = c.self.inside in let k = c.self.invariant in let e = c.close-slots.ensures in let v = c.lift_wires.ensures in let t =
    c.take_nodes-nodes.ensures in
    let lent = c.deref_mut.result.now in let last = c.lift_wires.new.slots in let f = c.lift_wires.new.frame in let nodes =
    c.take_nodes-nodes.result.items in
    let slots : take c.close-slots.result.len (last ++ drop (length last) c.close-slots.result.items) ≡ last =
    written c.close-slots.result.len last _ (sym (v.count ∙ c.deref_mut.ensures.len)) in
    let is : nodes ≡ map (λ (x : TurnRank). x.node.value) last = t.nodes
    ∙ ap (λ (l : List TurnRank). map (λ (x : TurnRank). x.node.value) l) slots in
    let many : length lent ≡ s.job.schedule.plan.ranks = ap (λ (l : List TurnRank). length l) c.deref_mut.ensures.value
    ∙ (e.length ∙ k.fabric.count) in
    let w = c.into_world-world.ensures in
    let same : f.schedule ≡ s.job.schedule = v.schedule ∙ k.frame_is.schedule in
    subst (λ (z : FabricState). IsWorldOf z c.args.hands.items c.into_world-world.result) c.self.view_is (record {
      schedule = w.schedule ∙ same;
      inputs = w.inputs ∙ (v.inputs ∙ k.frame_is.inputs);
      window = w.window;
      strays = w.strays;
      spare = w.spare;
      ranks = λ r h.
          (let x = node-of-slot lent last nodes v.nodes v.count is r (omega (arith, h, many)) in record {
            slot = x.slot;
            history_is = ap (λ (z : Scene). z.world r) w.scene ∙ ap (λ (n : NodeState). n.diary.locals) x.node_is;
            left = left-history s.turns.start c.args.hands.items r x.slot
                (e.values r x.slot (ap (λ (l : List TurnRank). get_elem? l r) (sym c.deref_mut.ensures.value) ∙ x.there));
            dated = (e.values r x.slot (ap (λ (l : List TurnRank). get_elem? l r) (sym c.deref_mut.ensures.value) ∙ x.there)).begun;
            slots = λ k a. subst (λ (n : NodeState). Agrees (k r) n.kept) x.node_is
                (w.slots k a r (subst (λ (o : ScheduleOf). r < o.plan.ranks) (sym same) h));
          });
    })

pub returns-clause-barriers : goal.returns-clause-barriers
returns-clause-barriers g c = λ slots agree. barriers_in c.into_world-world.result slots c.enabled.ensures.kept agree
