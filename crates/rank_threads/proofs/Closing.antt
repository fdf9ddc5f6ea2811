-- What is left of the ranks and of the wires is what a frame closes around.
use Rattle.std.proofs.Common.{ℕ, zero, suc, Bool, true, false, ◌<◌, ◌≤◌, ◌≡◌, ◌∙◌, List, [], ◌∷◌, ◌++◌, length, min, nat_lt, refl, sym}
use Rattle.std.proofs.Common.{ap, ap₂, subst, arith, lt-ltb}
use mathlib.Core.Option.{some}
use lib.ListN.{get_elem?}
use Rattle.ptl_types.specs.declared.headers.Lane.{Lane}
use Rattle.ptl_types.specs.Messages.{Sent}
use Rattle.op_laws.proofs.Starts.{combined-starts}
use Rattle.pair_wires.specs.declared.bounds.Bounds.{Bounds}
use Rattle.pair_wires.specs.Bounds.{KeepsBounds}
use Rattle.pair_wires.specs.Lanes.{Plain}
use Rattle.pair_wires.specs.Wires.{WireState}
use Rattle.plan_core.specs.Members.{In}
use Rattle.plan_core.specs.Plan.{Plan}
use Rattle.plan_core.proofs.Lists.{In-append_left, In-filter_cases}
use Rattle.plan_core.specs.calls.Lanes.{is_used_lane, lane_messages}
use Rattle.cuts.specs.view.Calls.{prepare}
use Rattle.cuts.specs.view.Slots.{Slots}
use Rattle.cuts.specs.histories.Cut.{IsCut, is_stray, owned}
use Rattle.cuts.specs.histories.History.{got, is_for, made, sent}
use Rattle.cuts.specs.histories.Plans.{start_of, system_of}
use Rattle.cuts.specs.histories.System.{Histories, sent_by}
use Rattle.cuts.proofs.histories.Clean.{made-clean}
use Rattle.cuts.proofs.histories.Fronts.{owned-all}
use Rattle.cuts.proofs.rest.LaneCuts.{unused_sent}
use Rattle.cuts.specs.windows.Places.{lane_place}
use Rattle.schedule_compiler.specs.Jobs.{JobOf}
use Rattle.rank_node.specs.Node.{IsNode, NodeState}
use Rattle.rank_node.specs.Plans.{IsCompiledFor}
use Rattle.rank_node.proofs.Plans.{run-legal}
use Rattle.worlds.specs.parts.Keeps.{AgreeAll}
use Rattle.worlds.specs.parts.Layout.{lane_at, node_at, scene_of}
use Rattle.worlds.specs.FrameState.{FrameState}
use Rattle.worlds.specs.Frames.{MayClose, frame_lane}
use Rattle.rank_slots.specs.declared.turn_rank.TurnRank.{TurnRank}
use Rattle.rank_slots.specs.declared.ports.OutPort.{OutPort}
use Rattle.rank_slots.specs.declared.ports.InPort.{InPort}
use Rattle.rank_threads.specs.Closing.{IsLifted}
use Rattle.rank_threads.specs.Fabrics.{IsNamed}
use Rattle.rank_slots.specs.Lanes.{AreLanes, bounds_on}
use Rattle.rank_slots.specs.Names.{plate}
use Rattle.rank_slots.specs.Slots.{HasSent, Tied}
use Rattle.rank_slots.specs.Sound.{IsSound}
use Rattle.rank_wiring.specs.Wiring.{bounds_of}
use Rattle.rank_slots.proofs.Pairs.{at_map_back}
use Rattle.rank_wiring.proofs.UsedLanes.{used-within}

two : {b : Bool} → b ≡ true → b ≡ false → ⊥
two e f = cc

unused-none : (n : ℕ) → nat_lt 0 n ≡ false → n ≡ 0
unused-none zero e = refl
unused-none (suc n) e = absurd (two (lt-ltb 0 (suc n) (omega arith)) e)

none : {X : Type 0} (xs : List X) → length xs ≤ 0 → xs ≡ []
none [] h = refl
none (x ∷ xs) h = absurd (omega arith)

-- the node of a rank is that of its slot
pub record IsNodeOf (slots : List TurnRank) (nodes : List NodeState) (r : ℕ) : Type 0 where
  pub slot : TurnRank
  pub there : get_elem? slots r ≡ some slot
  pub node_is : node_at nodes r ≡ slot.node.value

-- and it tells what its ends tell
record IsTiedAt (job : JobOf) (r : ℕ) (n : NodeState) : Type 0 where
  outs : List OutPort
  ins : List InPort
  tied : Tied job.schedule.plan job.inputs n outs ins
  rank : n.task.rank ≡ r

module _ (job : JobOf) (sound : IsSound job) (slots : List TurnRank) (wires : List WireState) (nodes : List NodeState) (ls : List Plain)
    (size : length nodes ≡ job.schedule.plan.ranks) (kept : (r : ℕ) → r < job.schedule.plan.ranks → IsNode (node_at nodes r))
    (node : (r : ℕ) → r < job.schedule.plan.ranks → IsNodeOf slots nodes r)
    (named : (r : ℕ) (x : TurnRank) → get_elem? slots r ≡ some x → IsNamed job wires r (plate x))
    (lanes : AreLanes job.schedule.plan (bounds_of wires))
    (lifted : (k : ℕ) (w : WireState) → get_elem? wires k ≡ some w
    → IsLifted w.bounds slots (lane_at ls (lane_place job.schedule.plan.ranks w.bounds.source w.bounds.target w.bounds.lane)))
    (unused : (s d : ℕ) (lane : Lane) → s < job.schedule.plan.ranks → d < job.schedule.plan.ranks
    → is_used_lane job.schedule.plan s d lane ≡ false
    → lane_at ls (lane_place job.schedule.plan.ranks s d lane) ≡ frame_lane job.schedule.plan s d lane) where
  abbrev p : Plan
  p = job.schedule.plan

  abbrev n : ℕ
  n = job.schedule.plan.ranks

  abbrev w : Histories
  w = (scene_of n nodes ls).world

  abbrev lies : ℕ → ℕ → Lane → List Sent
  lies s d lane = (lane_at ls (lane_place n s d lane)).messages

  tied-at : (r : ℕ) → r < n → IsTiedAt job r (node_at nodes r)
  tied-at r h =
      let x = node r h in let y = x.slot in let q = named r y x.there in record {
        outs = y.outs.items;
        ins = y.ins.items;
        tied = subst (λ (m : NodeState). Tied p job.inputs m y.outs.items y.ins.items) (sym x.node_is)
            (subst (λ (j : JobOf). Tied j.schedule.plan j.inputs y.node.value y.outs.items y.ins.items) q.job_is y.tied);
        rank = ap (λ (m : NodeState). m.task.rank) x.node_is ∙ q.rank;
      }

  compiled : (r : ℕ) → r < n → IsCompiledFor p job.inputs r (node_at nodes r).task
  compiled r h = let t = tied-at r h in subst (λ q. IsCompiledFor p job.inputs q (node_at nodes r).task) t.rank t.tied.compiled

  strays : (r : ℕ) → r < n → (node_at nodes r).strays ≡ 0
  strays r h = (tied-at r h).tied.strays

  -- nothing came where nothing may go
  got-none : (s r : ℕ) (lane : Lane) → r < n → is_used_lane p s r lane ≡ false → got (w r) s lane ≡ []
  got-none s r lane h e =
      let t = tied-at r h in
      let at_most = (subst (λ q. KeepsBounds (bounds_on p s q lane) (got (w r) s lane)) t.rank (t.tied.heard s lane)).at_most in
      let z = unused-none (lane_messages p s r lane) e in
      none (got (w r) s lane) (omega (arith, at_most, z))

  past-unused : (s r : ℕ) (lane : Lane) → n ≤ s → is_used_lane p s r lane ≡ false
  past-unused s r lane past = at (is_used_lane p s r lane) refl
    where
      at : (b : Bool) → is_used_lane p s r lane ≡ b → b ≡ false
      at true e = absurd (let h = (used-within p (length job.inputs) sound.plan s r lane e).0 in omega (arith, h, past))
      at false e = refl

  sources : (r s : ℕ) (lane : Lane) → r < n → n ≤ s → got (w r) s lane ≡ []
  sources r s lane h past = got-none s r lane h (past-unused s r lane past)

  -- ---- lanes that are used
  record IsUsedAt (s d : ℕ) (lane : Lane) : Type 0 where
    has : HasSent p job.inputs (node_at nodes s) d lane (got (w d) s lane ++ lies s d lane)
    at_most : length (lies s d lane) ≤ 4
    room : (lane_at ls (lane_place n s d lane)).capacity ≡ min 4 (lane_messages p s d lane)

  used-at : (s d : ℕ) (lane : Lane) → s < n → d < n → is_used_lane p s d lane ≡ true → IsUsedAt s d lane
  used-at s d lane hs hd used =
      let h = lanes.all s d lane used in
      let v = at_map_back (λ (v : WireState). v.bounds) wires h.at h.bounds h.there in
      let x = node s hs in let y = node d hd in let q = named s x.slot x.there in
      let es : v.0.bounds.source ≡ s = ap (λ (b : Bounds). b.source) v.2 ∙ h.source in
      let ed : v.0.bounds.target ≡ d = ap (λ (b : Bounds). b.target) v.2 ∙ h.target in
      let el : v.0.bounds.lane ≡ lane = ap (λ (b : Bounds). b.lane) v.2 ∙ h.lane_is in
      let lane_same : lane_at ls (lane_place n v.0.bounds.source v.0.bounds.target v.0.bounds.lane) ≡ lane_at ls (lane_place n s d lane) =
      (λ i. lane_at ls (lane_place n (es i) (ed i) (el i))) in
      let l = lifted h.at v.0 v.1 in
      let all : v.0.bounds.messages ≡ lane_messages p s d lane =
      ap (λ (b : Bounds). b.messages) (v.2 ∙ (lanes.each h.at h.bounds h.there).bounds)
      ∙ (λ i. lane_messages p (h.source i) (h.target i) (h.lane_is i)) in
      let held = l.held x.slot y.slot (ap (get_elem? slots) es ∙ x.there) (ap (get_elem? slots) ed ∙ y.there) in record {
        has = subst (λ (z : (JobOf × NodeState) × ((ℕ × Lane) × List Sent)). HasSent z.0.0.schedule.plan z.0.0.inputs z.0.1 z.1.0.0 z.1.0.1
            z.1.1)
            (λ i. (
              (q.job_is i, sym x.node_is i),
              (
                (ed i, el i),
                got (sym y.node_is i).diary.locals (es i) (el i) ++
                    (lane_same i).messages,
              ),
            ))
            held;
        at_most = subst (λ (z : Plain). length z.messages ≤ 4) lane_same l.at_most;
        room = ap (λ (z : Plain). z.capacity) (sym lane_same) ∙ (l.room ∙ ap (min 4) all);
      }

  module _ (k : ℕ → Slots) (agree : AgreeAll n k nodes) where
    used-sent : (s d : ℕ) (lane : Lane) → s < n → d < n → is_used_lane p s d lane ≡ true
        → got (w d) s lane ++ lies s d lane ≡ sent_by (system_of p job.inputs k) w s d lane
    used-sent s d lane hs hd used =
        (used-at s d lane hs hd used).has (k s) (agree s hs)
        ∙ ap (λ q. sent (start_of p (k s) q) (prepare p job.inputs (k s) q) (w s) d lane) (tied-at s hs).rank

    clean : (s d : ℕ) (lane : Lane) → s < n → d < n → is_used_lane p s d lane ≡ true → (m : Sent) → In m (got (w d) s lane) →
        is_stray m ≡ false
    clean s d lane hs hd used m i =
        made-clean p job.inputs sound.plan (k s) s (w s) m
        (In-filter_cases (is_for d lane) m (made (start_of p (k s) s) (prepare p job.inputs (k s) s) (w s))
        (subst (λ v. In m v) (used-sent s d lane hs hd used) (In-append_left m (got (w d) s lane) (lies s d lane) i))).0

    at_rank : (r : ℕ) → r < p.ranks → r < n
    at_rank r h = h

    prefix : (s d : ℕ) (lane : Lane) → s < n → d < n → (b : Bool) → is_used_lane p s d lane ≡ b
        → (rest : List Sent) × (owned (got (w d) s lane) ++ rest ≡ sent_by (system_of p job.inputs k) w s d lane)
    prefix s d lane hs hd true e = (
      lies s d lane,
      ap (λ ms. ms ++ lies s d lane) (owned-all (got (w d) s lane) (clean s d lane hs hd e)) ∙ used-sent s d lane hs hd e,
    )
    prefix s d lane hs hd false e = (
      sent_by (system_of p job.inputs k) w s d lane,
      ap (λ ms. owned ms ++ sent_by (system_of p job.inputs k) w s d lane) (got-none s d lane hd e),
    )

    cut : IsCut (system_of p job.inputs k) w
    cut = record {
      legal = λ r h. run-legal p job.inputs (k r) r (node_at nodes r) (compiled r (at_rank r h)) (kept r (at_rank r h))
          (agree r (at_rank r h));
      known = λ r s lane h past. sources r s lane (at_rank r h) past;
      lanes = λ s d lane hs hd. prefix s d lane (at_rank s hs) (at_rank d hd) (is_used_lane p s d lane) refl;
    }

    all-sent : (s d : ℕ) (lane : Lane) → s < n → d < n → (b : Bool) → is_used_lane p s d lane ≡ b
        → got (w d) s lane ++ lies s d lane ≡ sent_by (system_of p job.inputs k) w s d lane
    all-sent s d lane hs hd true e = used-sent s d lane hs hd e
    all-sent s d lane hs hd false e =
        ap₂ (λ a b. a ++ b) (got-none s d lane hd e) (ap (λ (z : Plain). z.messages) (unused s d lane hs hd e))
        ∙ sym (unused_sent combined-starts p job.inputs sound.plan sound.inputs k w cut s d lane hs hd e)

  -- ---- room
  has-room : (s d : ℕ) (lane : Lane) → s < n → d < n → (b : Bool) → is_used_lane p s d lane ≡ b →
      min 4 (lane_messages p s d lane) ≤ (lane_at ls (lane_place n s d lane)).capacity
  has-room s d lane hs hd true e = let r = (used-at s d lane hs hd e).room in omega (arith, r)
  has-room s d lane hs hd false e = let z = unused-none (lane_messages p s d lane) e in omega (arith, z)

  is-within : (s d : ℕ) (lane : Lane) → s < n → d < n → (b : Bool) → is_used_lane p s d lane ≡ b → length (lies s d lane) ≤ 4
  is-within s d lane hs hd true e = (used-at s d lane hs hd e).at_most
  is-within s d lane hs hd false e = let z = ap (λ (v : Plain). length v.messages) (unused s d lane hs hd e) in omega (arith, z)

  abbrev frame : FrameState
  frame = record { schedule = job.schedule; inputs = job.inputs; lanes = ls }

  pub may-close : MayClose frame nodes
  may-close = record {
    of_job = record { size = size; compiled = compiled; strays = strays };
    sources = sources;
    sent = λ k a s d lane hs hd. all-sent k a s d lane hs hd (is_used_lane p s d lane) refl;
    room = λ s d lane hs hd. has-room s d lane hs hd (is_used_lane p s d lane) refl;
    within = λ s d lane hs hd. is-within s d lane hs hd (is_used_lane p s d lane) refl;
  }
