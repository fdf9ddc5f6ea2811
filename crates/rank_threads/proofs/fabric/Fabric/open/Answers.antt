use Rattle.std.proofs.Common.{arith, ◌≡◌, ℕ, List, length, map, sym, ap, ◌∙◌, subst}
use mathlib.Core.Option.{some}
use lib.ListN.{get_elem?}
use Rattle.schedule_compiler.specs.Schedules.{ScheduleOf}
use Rattle.rank_slots.specs.declared.turn_rank.TurnRank.{TurnRank}
use Rattle.schedule_compiler.specs.Jobs.{JobOf}
use Rattle.worlds.specs.Frames.{IsFrameOf}
use Rattle.rank_slots.specs.Chronicles.{chronicle, entry}
use Rattle.rank_threads.specs.Fabrics.{IsFabric, IsNamed}
use Rattle.rank_slots.specs.Lanes.{AreLanes}
use Rattle.rank_slots.specs.Names.{plate}
use Rattle.rank_wiring.specs.Opening.{AllFresh}
use Rattle.rank_wiring.proofs.Fans.{whole-lanes}
use Rattle.rank_slots.proofs.Pairs.{exists_at}
use Rattle.rank_slots.proofs.Snocs.{read}
use Rattle.rank_threads.proofs.fabric.Fabric.open.Goals as goal

pub open-requires-clause-empty : goal.open-requires-clause-empty
open-requires-clause-empty g c =
    let w = c.in_ok-slots.ensures.wired in let slots = c.in_ok-slots.slots.items in
    λ k d h. let x = exists_at slots k h in
    ap chronicle (read slots k x.0 d x.1) ∙ ap (map (entry x.0.node.value.kept)) (w.fresh k x.0 x.1).history_is

pub invariant_of-fabric : goal.invariant_of-fabric
invariant_of-fabric g c =
    let job = c.args.job.now in let p = job.schedule.plan in let w = c.in_ok-slots.ensures.wired in
    let wires = c.in_ok-slots.wires.items in let same = c.in_ok-shared.ensures in let sound = c.recall_soundness.ensures in
    let start : c.in_ok-turns.turns.start ≡ c.in_ok-slots.slots.items = c.in_ok-turns.ensures.table in
    let count : length c.in_ok-turns.turns.start ≡ job.schedule.plan.ranks = ap (λ (l : List TurnRank). length l) start ∙ w.count in
    let ranks : c.ranks-ranks.result ≡ job.schedule.plan.ranks = c.ranks-ranks.ensures.value
    ∙ ap (λ (o : ScheduleOf). o.plan.ranks) c.schedule.ensures in
    let room = c.in_ok-room.ensures.capacity in
    let fabric : IsFabric job c.in_ok-turns.turns.start wires = record {
      sound = sound;
      count = count;
      lanes = subst (AreLanes p) (sym w.wires_are.bounds_are) (whole-lanes p (length job.inputs) sound.plan);
      named = subst (λ (l : List TurnRank). (r : ℕ) (x : TurnRank) → get_elem? l r ≡ some x → IsNamed job wires r (plate x)) (sym start)
          (λ r x at. let f = w.fresh r x at in record { job_is = f.job_is; rank = f.compiled.rank; laid = w.laid r x at });
    } in record {
      fabric = subst (λ (j : JobOf). IsFabric j c.in_ok-turns.turns.start wires) (sym same) fabric;
      ranks_are = ranks ∙ sym (ap (λ (j : JobOf). j.schedule.plan.ranks) same);
      rooms = w.wires_are.rooms;
      frame_is = subst (λ (j : JobOf). IsFrameOf j c.in_ok-slots.frame) (sym same) c.in_ok-slots.ensures.frame;
      empty = c.in_ok-room.ensures.items;
      roomy = omega (arith, count, ranks, room);
    }

pub returns-clause-fresh : goal.returns-clause-fresh
returns-clause-fresh g c = subst (AllFresh c.args.job.now) (sym c.in_ok-turns.ensures.table) c.in_ok-slots.ensures.wired.fresh
