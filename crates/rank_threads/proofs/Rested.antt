-- A wave of probes that found rest: the fronts that were noted are the histories of the world that the fabric is closed as.
use Rattle.std.proofs.Common.{◌≡◌, ◌<◌, ◌∙◌, ⊎_elim, ℕ, suc, true, false, List, length, sym, ap, subst, arith}
use Rattle.std.specs.Prelude.{Option, Some, None, count_by}
use borrow.Author.Tests.{ltb-true}
use mathlib.Core.Option.{some}
use mathlib.Core.List.{IsPrefix}
use lib.ListN.{get_elem?}
use Rattle.ptl_types.specs.declared.headers.Lane.{Lane}
use Rattle.ni_model.specs.Calls.{AnswersReady}
use Rattle.ni_model.specs.Ready.{is_ready}
use Rattle.ni_model.specs.State.{State}
use Rattle.plan_core.specs.Plan.{Plan}
use Rattle.plan_core.specs.calls.Lanes.{is_used_lane}
use Rattle.cuts.specs.view.Slots.{Slots}
use Rattle.cuts.specs.histories.Cut.{IsAtRest, owned}
use Rattle.cuts.specs.histories.History.{Local, got, is_start, sent, state}
use Rattle.cuts.specs.histories.Plans.{system_of}
use Rattle.cuts.specs.histories.System.{Histories, System}
use Rattle.cuts.specs.histories.Wave.{HasNoStray, IsWave}
use Rattle.schedule_compiler.specs.Jobs.{JobOf}
use Rattle.turn_table.specs.States.{HandState}
use Rattle.turn_table.proofs.Sums.{prefix_trans}
use Rattle.rank_node.specs.Copies.{has_start}
use Rattle.rank_node.specs.Handles.{Agrees, slots_of}
use Rattle.rank_node.proofs.Nodes.{agrees}
use Rattle.rest_probe.specs.declared.answers.WaveAnswer.TheVariants.{Rest}
use Rattle.rest_probe.specs.declared.notes.LaneCount.{LaneCount}
use Rattle.rest_probe.specs.declared.notes.RankNote.{RankNote}
use Rattle.rest_probe.specs.Answered.{Answered}
use Rattle.rest_probe.specs.Counted.{Tells, TellsNone, counted}
use Rattle.rest_probe.specs.Waves.{IsFor}
use Rattle.rest_probe.proofs.Used.{used-from, used-to}
use Rattle.worlds.specs.parts.Layout.{node_at}
use Rattle.worlds.specs.Standing.{IsStanding}
use Rattle.worlds.specs.World.{AreSlots, WorldState, histories_in}
use Rattle.rank_slots.specs.declared.turn_rank.TurnRank.{TurnRank}
use Rattle.rank_slots.specs.Chronicles.{chronicle}
use Rattle.rank_threads.specs.Closing.{IsLeft, IsWorldOf}
use Rattle.rank_threads.specs.Fabrics.{FabricState}
use Rattle.rank_slots.specs.Names.{history}
use Rattle.rank_slots.specs.Probes.{sent_on, state_after}
use Rattle.rank_threads.specs.Resting.{AreFrontsOf, SeenBy}
use Rattle.rank_slots.specs.Sound.{IsSound}
use Rattle.rank_slots.proofs.Chronicles.{begins-history, same-handles, started-prefix}
use Rattle.rank_slots.proofs.Pairs.{at_map_back, exists_at, within}
use Rattle.rank_slots.proofs.Snocs.{read}
use Rattle.rank_threads.proofs.Strays.{none-stray}

-- what is said of a rank's front, once the fabric is closed
record AtRank (job : JobOf) (w : WorldState) (k : Slots) (r : ℕ) (front : List Local) (x : RankNote) : Type 0 where
  begins : IsPrefix front (histories_in w r)
  started : has_start front ≡ true
  ready : AnswersReady (state_after job r k front) x.note.ready
  sent : (i : ℕ) (c : LaneCount) → get_elem? x.note.sent i ≡ some c → c.number ≡ sent_on job r k front c.rank c.lane
  got_is : (i : ℕ) (c : LaneCount) → get_elem? x.note.got i ≡ some c → c.number ≡ length (got front c.rank c.lane)

at-rank : (f : FabricState) (hands : List (HandState TurnRank)) (w : WorldState) (k : ℕ → Slots) (r : ℕ) (fronts : Histories) (x : RankNote)
    → IsLeft f.turns.start hands r w → SeenBy f.job hands r fronts x.note → x.note.started ≡ true → AreSlots w k →
    AtRank f.job w (k r) r (fronts r) x
at-rank f hands w k r fronts x l s started agree =
    let says = s.says in let n = says.says in
    let dated = subst (λ (h : HandState TurnRank). IsPrefix (chronicle says.turn.given) (chronicle l.slot))
    (read hands s.at s.hand s.hand s.hand_is)
    (l.dated s.at s.hand (within hands s.at s.hand s.hand_is) says.slot says.at says.turn
    (ap (λ (h : HandState TurnRank). get_elem? h.knows.slots r) (read hands s.at s.hand s.hand s.hand_is) ∙ says.slot_is) says.turn_is) in
    let first : has_start (fronts r) ≡ true = sym n.started ∙ started in
    let same = same-handles says.turn.given.node.value.kept l.slot.node.value.kept (history says.turn.given) (history l.slot)
    (started-prefix (fronts r) (history says.turn.given) says.begins first) dated in
    let a = subst (λ hs. Agrees (k r) hs) same (l.slots k agree) in record {
      begins = subst (IsPrefix (fronts r)) (sym l.history_is)
          (prefix_trans (fronts r) (history says.turn.given) (history l.slot) says.begins (begins-history says.turn.given l.slot dated));
      started = first;
      ready = n.ready (k r) a;
      sent = λ i c at. n.sent i c at (k r) a;
      got_is = n.got;
    }

none-ready : (s : State) (o : Option ℕ) → o ≡ None → AnswersReady s o → (t : ℕ) → is_ready s t ≡ false
none-ready s None e a = a
none-ready s (Some t) e a = absurd (let h = e in cc)

module _ (f : FabricState) (sound : IsSound f.job) (hands : List (HandState TurnRank)) (w : WorldState) (is : IsWorldOf f hands w)
    (v : List RankNote) (for : IsFor f.job.schedule.plan v) (answer : Answered v Rest) (fronts : Histories)
    (seen : AreFrontsOf f.job hands fronts v)
    (k : ℕ → Slots) (agree : AreSlots w k) where
  abbrev p : Plan
  p = f.job.schedule.plan

  note-at : (r : ℕ) → r < p.ranks → (x : RankNote) × (get_elem? v r ≡ some x)
  note-at r low = exists_at v r (let e = for.count in omega (arith, low, e))

  told : (r : ℕ) (low : r < p.ranks) (x : RankNote) → get_elem? v r ≡ some x → AtRank f.job w (k r) r (fronts r) x
  told r low x at = at-rank f hands w k r fronts x (is.ranks r low) (seen r x at) (answer.0 (suc r) r x (omega arith) at) agree

  -- as much was received on a used lane as was sent
  even : (s d : ℕ) (lane : Lane) → s < p.ranks → d < p.ranks → is_used_lane p s d lane ≡ true →
      length (got (fronts d) s lane) ≡ sent_on f.job s (k s) (fronts s) d lane
  even s d lane hs hd used =
      let x = note-at s hs in let y = note-at d hd in let a = told s hs x.0 x.1 in let b = told d hd y.0 y.1 in
      let i = used-from p s d lane hd used in
      let c = at_map_back (λ (z : LaneCount). counted z 0) x.0.note.sent i.0 _
      (ap (λ (l : List LaneCount). get_elem? l i.0) (for.sent s x.0 x.1) ∙ i.1) in
      let rank : c.0.rank ≡ d = ap (λ (z : LaneCount). z.rank) c.2 in
      let kind : c.0.lane ≡ lane = ap (λ (z : LaneCount). z.lane) c.2 in
      let sent : c.0.number ≡ sent_on f.job s (k s) (fronts s) d lane = a.sent i.0 c.0 c.1
      ∙ (λ m. sent_on f.job s (k s) (fronts s) (rank m) (kind m)) in ⊎_elim
      (λ (t : Tells y.0.note.got s c.0.lane c.0.number).
      ap (λ (l : Lane). length (got (fronts d) s l)) (sym kind) ∙ (sym (b.got_is t.at _ t.there) ∙ sent))
      (λ (none : TellsNone y.0.note.got s c.0.lane).
      let j = used-to p d s lane hs used in
      let e = at_map_back (λ (z : LaneCount). counted z 0) y.0.note.got j.0 _
      (ap (λ (l : List LaneCount). get_elem? l j.0) (for.got d y.0 y.1) ∙ j.1) in
      absurd (none j.0 e.0 e.1 (ap (λ (z : LaneCount). z.rank) e.2) (ap (λ (z : LaneCount). z.lane) e.2 ∙ sym kind)))
      (answer.2 s i.0 x.0 y.0 c.0 x.1 c.1 (ap (get_elem? v) rank ∙ y.1))

  pub is-wave : IsWave (system_of p f.job.inputs k) fronts (histories_in w)
  is-wave = record {
    front = λ r low. (let x = note-at r low in (told r low x.0 x.1).begins);
    started = λ r low. (let x = note-at r low in ltb-true 0 (count_by is_start (fronts r)) (told r low x.0 x.1).started);
    idle = λ r t low. (let x = note-at r low in none-ready (state_after f.job r (k r) (fronts r)) x.0.note.ready
        (answer.1 (suc r) r x.0 (omega arith) x.1) (told r low x.0 x.1).ready t);
    balanced = even;
  }

-- a world without room for strays received none
pub no-stray : (w : WorldState) (slots : ℕ → Slots) → IsStanding w → w.spare ≡ 0
    → HasNoStray (system_of w.schedule.plan w.inputs slots) (histories_in w)
no-stray w slots s spare r q lane m low low' i =
    let at_most = s.at_most r low in none-stray (histories_in w r) q lane m (omega (arith, at_most, spare)) i

-- a cut at rest is one in other words
pub rest-same : (s : System) (v w : Histories) → ((r : ℕ) → r < s.count → v r ≡ w r) → IsAtRest s v → IsAtRest s w
rest-same s v w same rest = record {
  started = λ r h. subst (λ es. 0 < count_by is_start es) (same r h) (rest.started r h);
  empty = λ q d lane hq hd. ap (λ es. owned (got es q lane)) (sym (same d hd))
      ∙ (rest.empty q d lane hq hd ∙ ap (λ es. sent (s.go q) (s.first q) es d lane) (same q hq));
  idle = λ r t h. subst (λ es. is_ready (state (s.go r) (s.first r) es) t ≡ false) (same r h) (rest.idle r t h);
}

-- the job of the world is the fabric's
pub job-of : (f : FabricState) (hands : List (HandState TurnRank)) (w : WorldState) → IsWorldOf f hands w
    → f.job ≡ record { schedule = w.schedule; inputs = w.inputs }
job-of f hands w is = λ k. record { schedule = sym is.schedule k; inputs = sym is.inputs k }

-- slots that agree with a world's handles
pub some-slots : (w : WorldState) → IsStanding w → AreSlots w (λ r. slots_of (node_at w.nodes r).kept)
some-slots w s = λ r low. agrees (node_at w.nodes r).kept (s.node r low).descriptors
