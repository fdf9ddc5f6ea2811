-- Wires that end one after the other, and the lanes that take what they held.
use Rattle.std.proofs.Common.{ℕ, zero, suc, Bool, true, false, ◌<◌, ◌≤◌, ◌≡◌, ◌∙◌, ⊎_elim, List, [], ◌∷◌, ◌++◌, length, set}
use Rattle.std.proofs.Common.{refl, sym, ap, ap₂, subst, arith, get_or-set_same, get_or-set_other}
use Rattle.std.proofs.lemmas.Bool.{cases_eq, cases_lt}
use mathlib.Core.Option.{some, some-injective}
use lib.ListN.{get_elem?}
use Rattle.atomic_table.proofs.Lists.{at_map}
use Rattle.ptl_types.specs.declared.headers.Lane.{Lane}
use Rattle.ptl_types.specs.Messages.{Sent}
use Rattle.pair_wires.specs.declared.bounds.Bounds.{Bounds}
use Rattle.pair_wires.specs.Lanes.{Plain, plain}
use Rattle.pair_wires.specs.Wires.{WireState}
use Rattle.plan_core.specs.Plan.{Plan}
use Rattle.plan_core.specs.calls.Lanes.{is_used_lane}
use Rattle.cuts.specs.histories.History.{got}
use Rattle.cuts.specs.windows.Places.{lane_place}
use Rattle.schedule_compiler.specs.Jobs.{JobOf}
use Rattle.rank_node.specs.Node.{NodeState}
use Rattle.worlds.specs.Frames.{frame_lane}
use Rattle.worlds.specs.parts.Layout.{lane_at}
use Rattle.worlds.proofs.parts.Placed.{OneLane, lane_apart}
use Rattle.rank_slots.specs.declared.turn_rank.TurnRank.{TurnRank}
use Rattle.rank_slots.specs.declared.ports.OutPort.{OutPort}
use Rattle.rank_slots.specs.declared.ports.InPort.{InPort}
use Rattle.rank_threads.specs.Closing.{IsHeldOn, IsLifted}
use Rattle.rank_slots.specs.Lanes.{AreLanes, IsLane}
use Rattle.rank_slots.specs.Moves.{SameNode, Slotwise}
use Rattle.rank_slots.specs.Names.{history}
use Rattle.rank_slots.specs.Slots.{HasSent, InOk, OutOk}
use Rattle.rank_wiring.specs.Wiring.{bounds_of}
use Rattle.rank_wiring.proofs.UsedLanes.{lane-sends}
use Rattle.rank_threads.proofs.Leaving.{node_before}

two : {b : Bool} → b ≡ true → b ≡ false → ⊥
two e f = cc

-- a lane of the plan has room in the frame
pub some-room : (p : Plan) (b : Bounds) → IsLane p b → 0 < (frame_lane p b.source b.target b.lane).capacity
some-room p b is = let sends = lane-sends p b is in let same = ap (λ (c : Bounds). c.messages) is.bounds in omega (arith, sends, same)

-- a lane with room is one of those of the frame
pub in-lanes : (ls : List Plain) (i : ℕ) → 0 < (lane_at ls i).capacity → i < length ls
in-lanes ls i roomy = ⊎_elim (λ (h : i < length ls). h)
    (λ (h : length ls ≤ i). absurd (let none = ap (λ (z : Plain). z.capacity) (past ls i h) in omega (arith, none, roomy)))
    (cases_lt i (length ls))
  where
    past : (ls : List Plain) (i : ℕ) → length ls ≤ i → lane_at ls i ≡ plain [] 0
    past [] i h = refl
    past (x ∷ xs) zero h = absurd (omega (arith, h))
    past (x ∷ xs) (suc i) h = past xs i (omega (arith, h))

-- ---- what a wire held
-- what a slot's ends say, and what the wire held between them
pub held-between : (b : Bounds) (x y : TurnRank) (out : OutPort) (into : InPort) (held : List Sent) (l : Plain)
    → OutOk x.job.schedule.plan x.job.inputs x.node.value out → InOk y.job.schedule.plan y.node.value into
    → out.end.bounds ≡ b → into.end.bounds ≡ b → out.end.sent ≡ into.end.received ++ held → l.messages ≡ held
    → HasSent x.job.schedule.plan x.job.inputs x.node.value b.target b.lane (got (history y) b.source b.lane ++ l.messages)
held-between b x y out into held l o i eo ei e is =
    let to : out.target ≡ b.target = sym (ap (λ (z : Bounds). z.target) o.bounds) ∙ ap (λ (z : Bounds). z.target) eo in
    let on : out.lane ≡ b.lane = sym (ap (λ (z : Bounds). z.lane) o.bounds) ∙ ap (λ (z : Bounds). z.lane) eo in
    let from : into.source ≡ b.source = sym (ap (λ (z : Bounds). z.source) i.bounds) ∙ ap (λ (z : Bounds). z.source) ei in
    let by : into.lane ≡ b.lane = sym (ap (λ (z : Bounds). z.lane) i.bounds) ∙ ap (λ (z : Bounds). z.lane) ei in
    let received : into.end.received ≡ got (history y) b.source b.lane = i.got_is ∙ (λ j. got (history y) (from j) (by j)) in
    let all : out.end.sent ≡ got (history y) b.source b.lane ++ l.messages = e ∙ ap₂ (λ u v. u ++ v) received (sym is) in
    subst (λ (z : (ℕ × Lane) × List Sent). HasSent x.job.schedule.plan x.job.inputs x.node.value z.0.0 z.0.1 z.1)
    (λ j. ((to j, on j), all j)) o.sent_is

-- ends that left slots tell as much of the slots before
pub held-before : (b : Bounds) (old new : List TurnRank) (l : Plain) → Slotwise SameNode old new → length new ≡ length old →
    IsHeldOn b new l → IsHeldOn b old l
held-before b old new l s n h x y ex ey =
    let u = node_before old new s n b.source x ex in let v = node_before old new s n b.target y ey in
    subst (λ (z : (JobOf × NodeState) × NodeState). HasSent z.0.0.schedule.plan z.0.0.inputs z.0.1 b.target b.lane
    (got z.1.diary.locals b.source b.lane ++ l.messages))
    (λ j. ((u.2.job_is j, u.2.node j), v.2.node j)) (h u.0 v.0 u.1 v.1)

pub lifted-before : (b : Bounds) (old new : List TurnRank) (l : Plain) → Slotwise SameNode old new → length new ≡ length old →
    IsLifted b new l → IsLifted b old l
lifted-before b old new l s n h = record { held = held-before b old new l s n h.held; at_most = h.at_most; room = h.room }

-- ---- one after the other
module _ (n : ℕ) where
  abbrev at_place : List Plain → ℕ → ℕ → Lane → Plain
  at_place ls s d lane = lane_at ls (lane_place n s d lane)

abbrev OnLane : WireState → ℕ → ℕ → Lane → Type 0
OnLane w s d lane = OneLane w.bounds.source w.bounds.target w.bounds.lane s d lane

-- no wire from number m on is of this lane
abbrev pub NotYet : List WireState → ℕ → ℕ → ℕ → Lane → Type 0
NotYet all m s d lane = (k : ℕ) (w : WireState) → m ≤ k → get_elem? all k ≡ some w → OnLane w s d lane → ⊥

-- m wires are left
pub record AreLifted (n : ℕ) (all : List WireState) (slots : List TurnRank) (first : List Plain) (m : ℕ) (ls : List Plain) : Type 0 where
  pub left : (s d : ℕ) (lane : Lane) → s < n → d < n → NotYet all m s d lane → lane_at ls (lane_place n s d lane) ≡ lane_at first
      (lane_place n s d lane)
  pub done : (k : ℕ) (w : WireState) → m ≤ k → get_elem? all k ≡ some w →
      IsLifted w.bounds slots (lane_at ls (lane_place n w.bounds.source w.bounds.target w.bounds.lane))

module _ (p : Plan) (n : ℕ) (ranks : p.ranks ≡ n) (all : List WireState) (are : AreLanes p (bounds_of all)) (slots : List TurnRank)
    (first : List Plain) where
  bounds-at : (k : ℕ) (w : WireState) → get_elem? all k ≡ some w → get_elem? (bounds_of all) k ≡ some w.bounds
  bounds-at k w e = at_map (λ (w : WireState). w.bounds) all k w e

  pub is-lane : (k : ℕ) (w : WireState) → get_elem? all k ≡ some w → IsLane p w.bounds
  is-lane k w e = are.each k w.bounds (bounds-at k w e)

  pub between : (k : ℕ) (w : WireState) → get_elem? all k ≡ some w → (w.bounds.source < n) × (w.bounds.target < n)
  between k w e = let h = is-lane k w e in
      (subst (λ m. w.bounds.source < m) ranks h.source, subst (λ m. w.bounds.target < m) ranks h.target)

  one-wire : (i k : ℕ) (v w : WireState) → get_elem? all i ≡ some v → get_elem? all k ≡ some w →
      OnLane v w.bounds.source w.bounds.target w.bounds.lane → i ≡ k
  one-wire i k v w ei ek o = are.once i k v.bounds w.bounds (bounds-at i v ei) (bounds-at k w ek) o.source o.destination o.kind

  pub none-lifted : AreLifted n all slots first (length all) first
  none-lifted = record { left = λ s d lane hs hd h. refl; done = λ k w h e. absurd (let q = inside all k w e in omega (arith, h, q)) }
    where
      inside : (l : List WireState) (i : ℕ) (a : WireState) → get_elem? l i ≡ some a → i < length l
      inside [] i a e = cc
      inside (x ∷ xs) zero a e = omega arith
      inside (x ∷ xs) (suc i) a e = let k = inside xs i a e in omega arith

  module _ (m : ℕ) (ls : List Plain) (h : AreLifted n all slots first (suc m) ls) (w : WireState) (there : get_elem? all m ≡ some w) where
    -- nothing was put into its lane yet
    pub lane-first : at_place n ls w.bounds.source w.bounds.target w.bounds.lane ≡ at_place n first w.bounds.source w.bounds.target
        w.bounds.lane
    lane-first = h.left w.bounds.source w.bounds.target w.bounds.lane (between m w there).0 (between m w there).1
        (λ k v low e o. let same = one-wire k m v w e there o in omega (arith, same, low))

    pub lifted-more : (l : Plain) → IsLifted w.bounds slots l → lane_place n w.bounds.source w.bounds.target w.bounds.lane < length ls
        → AreLifted n all slots first m (set ls (lane_place n w.bounds.source w.bounds.target w.bounds.lane) l)
    lifted-more l is low = record {
      left = λ s d lane hs hd not.
          (let apart : lane_place n s d lane ≡ own_place → ⊥ = (λ same. not m w (omega arith) there
          (lane_apart n w.bounds.source w.bounds.target w.bounds.lane s d lane (between m w there).1 hd (sym same))) in
          get_or-set_other ls own_place (lane_place n s d lane) l (plain [] 0) apart
          ∙ h.left s d lane hs hd (λ k v k-low e o. not k v (omega (arith, k-low)) e o));
      done = λ k v k-low e. ⊎_elim
          (λ (same : k ≡ m).
          let one : w ≡ v = same_some all m w v there (ap (get_elem? all) (sym same) ∙ e) in
          subst (λ (z : WireState). IsLifted z.bounds slots (at_place n (set ls own_place l) z.bounds.source z.bounds.target
          z.bounds.lane)) one
          (subst (IsLifted w.bounds slots) (sym (get_or-set_same ls own_place l (plain [] 0) low)) is))
          (λ (other : k ≡ m → ⊥).
          let place = lane_place n v.bounds.source v.bounds.target v.bounds.lane in
          let apart : place ≡ own_place → ⊥ = (λ same. other (one-wire k m v w e there
          (lane_apart n v.bounds.source v.bounds.target v.bounds.lane w.bounds.source w.bounds.target w.bounds.lane
          (between k v e).1 (between m w there).1 same))) in
          subst (IsLifted v.bounds slots) (sym (get_or-set_other ls own_place place l (plain [] 0) apart))
          (h.done k v (omega (arith, k-low, other)) e))
          (cases_eq k m);
    }
      where
        own_place : ℕ
        own_place = lane_place n w.bounds.source w.bounds.target w.bounds.lane

        same_some : (l : List WireState) (i : ℕ) (a b : WireState) → get_elem? l i ≡ some a → get_elem? l i ≡ some b → a ≡ b
        same_some l i a b e f = some-injective a b (sym e ∙ f)

  -- no wire is left
  pub unused-left : (ls : List Plain) → AreLifted n all slots first 0 ls → (s d : ℕ) (lane : Lane) → s < n → d < n →
      is_used_lane p s d lane ≡ false → at_place n ls s d lane ≡ at_place n first s d lane
  unused-left ls h s d lane hs hd none = h.left s d lane hs hd
      (λ k w low e o. two (sym (λ j. is_used_lane p (o.source j) (o.destination j) (o.kind j)) ∙ (is-lane k w e).used) none)
