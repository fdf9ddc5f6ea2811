use Rattle.std.proofs.Common.{◌≡◌, ◌∙◌, ◌∷◌, ◌++◌, [], sym, refl, ap, map, arith}
use Rattle.pair_wires.specs.declared.bounds.Bounds.{Bounds}
use Rattle.rank_slots.specs.declared.ports.OutPort.{OutPort}
use Rattle.rank_slots.specs.Joints.{Joint, joint, out_joint}
use Rattle.rank_wiring.specs.Opening.{wire_room}
use Rattle.rank_wiring.proofs.Handing.{fresh-of}
use Rattle.rank_wiring.proofs.Fresh.{fresh_out}
use Rattle.rank_wiring.proofs.UsedLanes.{lane-sends}
use Rattle.rank_slots.proofs.Snocs.{map_snoc}
use Rattle.rank_wiring.proofs.open.lay_line.Goals as goal

pub open-requires : goal.open-requires
open-requires c = let sends = lane-sends c.args.job.now.schedule.plan c.args.lane c.requires.lane in let least = c.min.ensures in
    omega (arith, sends, least)

pub add_out-requires : goal.add_out-requires
add_out-requires c = let o = c.in_ok-wire.ensures in let lane = c.args.lane in
    fresh_out c.args.job.now lane.source c.args.slot.now c.requires.fresh lane _ c.requires.lane refl refl refl
    (o.out_is.1 ∙ o.bounds_are) o.sent o.waits c.requires.apart

pub returns-clause-fresh : goal.returns-clause-fresh
returns-clause-fresh c = let e = c.add_out.ensures in
    fresh-of c.args.job.now c.args.lane.source c.args.slot.now c.add_out.new.self e.job e.node c.requires.fresh

pub returns-clause-line : goal.returns-clause-line
returns-clause-line c = let o = c.in_ok-wire.ensures in (
  record {
    room = o.capacity_is ∙ (c.min.ensures ∙ ap wire_room (sym o.bounds_are));
    number_is = refl;
    in_is = o.in_is;
    source = sym (ap (λ (b : Bounds). b.source) o.bounds_are);
    lane = sym (ap (λ (b : Bounds). b.lane) o.bounds_are);
    received = o.received;
  },
  o.bounds_are,
)

pub returns-clause-out : goal.returns-clause-out
returns-clause-out c = let o = c.in_ok-wire.ensures in let old = c.args.slot.now.outs.items in
    let out : OutPort = record { end = c.in_ok-wire.out; wire = c.args.number; target = c.args.lane.target; lane = c.args.lane.lane } in
    let same : out_joint out ≡ joint c.args.number c.in_ok-wire.wire = λ i.
    record { number = c.args.number; wire = o.out_is.0 i; bounds = o.out_is.1 i } in
    ap (map out_joint) c.in_ok-add_out.ensures.outs ∙ (map_snoc out_joint old out ∙ ap (λ (j : Joint). map out_joint old ++ j ∷ []) same)

pub returns-in_err-add_out-clause-fresh : goal.returns-in_err-add_out-clause-fresh
returns-in_err-add_out-clause-fresh c = let e = c.add_out.ensures in
    fresh-of c.args.job.now c.args.lane.source c.args.slot.now c.add_out.new.self e.job e.node c.requires.fresh
