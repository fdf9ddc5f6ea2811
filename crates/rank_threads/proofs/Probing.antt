-- What is noted of a rank in its turn.
use Rattle.std.proofs.Common.{◌≡◌, ◌∙◌, ℕ, List, ap, sym, subst}
use mathlib.Core.Option.{some}
use lib.ListN.{get_elem?}
use Rattle.atomic_table.proofs.Lists.{at_map}
use Rattle.pair_wires.specs.Wires.{WireState}
use Rattle.plan_core.specs.Plan.{Plan}
use Rattle.schedule_compiler.specs.Jobs.{JobOf}
use Rattle.ni_model.specs.Calls.{AnswersReady}
use Rattle.ni_model.specs.State.{State}
use Rattle.rank_node.specs.Node.{IsNode}
use Rattle.rest_probe.specs.declared.notes.LaneCount.{LaneCount}
use Rattle.rest_probe.specs.declared.notes.RankNote.{RankNote}
use Rattle.rest_probe.specs.Counted.{counted}
use Rattle.rest_probe.specs.Waves.{IsFor}
use Rattle.rest_probe.proofs.Used.{from-used, to-used}
use Rattle.rank_slots.specs.declared.turn_rank.TurnRank.{TurnRank}
use Rattle.rank_threads.specs.Fabrics.{IsNamed}
use Rattle.rank_slots.specs.Lanes.{AreLanes}
use Rattle.rank_slots.specs.Names.{history, plate}
use Rattle.rank_slots.specs.Probes.{CountsSent, HasIn, HasOut, IsNoted, Says}
use Rattle.rank_slots.specs.Sound.{IsSound}
use Rattle.rank_wiring.specs.Wiring.{bounds_of}
use Rattle.rank_threads.proofs.Idles.{in-at, of-history, out-at}

-- ---- the ends of a rank's lanes
module _ (job : JobOf) (sound : IsSound job) (wires : List WireState) (lanes : AreLanes job.schedule.plan (bounds_of wires))
    (r : ℕ) (x : TurnRank) (named : IsNamed job wires r (plate x)) (w : List RankNote) (for : IsFor job.schedule.plan w) where
  abbrev p : Plan
  p = job.schedule.plan

  pub has-out : (y : RankNote) (i : ℕ) (c : LaneCount) → get_elem? w r ≡ some y → get_elem? y.note.sent i ≡ some c → HasOut x c.rank c.lane
  has-out y i c at there =
      let u = from-used p r i (counted c 0) (ap (λ (l : List LaneCount). get_elem? l i) (sym (for.sent r y at))
      ∙ at_map (λ (z : LaneCount). counted z 0) y.note.sent i c there) in
      let o = out-at job sound wires lanes r x named c.rank c.lane u.used in (o.at, o.port, o.there, o.target, o.lane_is)

  pub has-in : (y : RankNote) (i : ℕ) (c : LaneCount) → get_elem? w r ≡ some y → get_elem? y.note.got i ≡ some c → HasIn x c.rank c.lane
  has-in y i c at there =
      let u = to-used p r i (counted c 0) (ap (λ (l : List LaneCount). get_elem? l i) (sym (for.got r y at))
      ∙ at_map (λ (z : LaneCount). counted z 0) y.note.got i c there) in
      in-at job sound wires lanes r x named c.rank c.lane u.used

  -- the note of the slot says what its history says
  pub says : (y z : RankNote) → IsNode x.node.value → IsNoted x y z → Says job r (history x) x.node.value.kept z.note
  says y z is noted = record {
    started = noted.started;
    ready = λ k agree. subst (λ (s : State). AnswersReady s z.note.ready) (of-history job sound wires lanes r x named is (λ _. k) agree)
        noted.ready;
    sent = λ i c at. subst (λ (j : JobOf × ℕ). CountsSent j.0 j.1 (history x) x.node.value.kept c) (λ m. (named.job_is m, named.rank m))
        (noted.sent i c at);
    got = noted.got;
  }
