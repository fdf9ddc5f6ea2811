-- What a slot that made no step found, said of the lanes of its job.
use Rattle.std.proofs.Common.{◌≡◌, ◌∙◌, ℕ, Bool, true, false, cond, List, [], ◌∷◌, length, map, get_or, sym, refl, ap, subst, arith, inl}
use Rattle.std.proofs.Common.{inr, ◌⊎◌, eq-eqb, zero-le}
use Rattle.std.specs.Prelude.{Option, Some, None, not, nat_lt}
use Rattle.std.proofs.lemmas.Bool.{and_from, lt-ltb}
use mathlib.Core.Option.{some}
use lib.ListN.{get_elem?}
use Rattle.ptl_types.specs.declared.headers.Lane.{Lane}
use Rattle.ptl_types.specs.declared.headers.Lane.TheVariants.{Request, Answer}
use Rattle.ptl_types.specs.declared.AtomicOp.{AtomicOp}
use Rattle.ni_model.specs.Ready.{is_number, is_ready, is_ready_op, message_target, posted_at, target_at, target_of}
use Rattle.ni_model.specs.State.{Posted, State}
use Rattle.pair_wires.specs.declared.bounds.Bounds.{Bounds}
use Rattle.pair_wires.specs.Wires.{WireState}
use Rattle.plan_core.specs.Members.{In}
use Rattle.plan_core.specs.Plan.{Plan, all_links, cell, is_bump, link, out_links}
use Rattle.plan_core.proofs.Lists.{In-filter, In-map_cases}
use Rattle.plan_core.proofs.Links.{In-from_to, out_links-In}
use Rattle.plan_core.specs.calls.Lanes.{goes_along, is_used_lane, lane_links}
use Rattle.plan_core.specs.calls.RankOps.{RankOp, rank_ops}
use Rattle.plan_core.specs.calls.RankOps.RankOp.{ForLink, ForDone}
use Rattle.cuts.specs.view.TriggeredOps.{action_of, operation, send_action}
use Rattle.cuts.specs.view.Slots.{Slots, cell_ct}
use Rattle.ptl_types.specs.declared.calls.TriggeredOp.TheVariants.{Inc as IncAction}
use Rattle.ni_model.specs.Counts.{successes}
use Rattle.cuts.proofs.machine.RankOps.{rank_ops-along}
use Rattle.cuts.proofs.view.Tables.{find-In}
use Rattle.cuts.proofs.histories.Origin.{IsOf}
use Rattle.atomic_table.proofs.Lists.{at_map}
use Rattle.rank_node.specs.Gates.{goes_out}
use Rattle.rank_node.specs.Handles.{slots_of}
use Rattle.rank_node.specs.Node.{IsNode, NodeState}
use Rattle.rank_node.specs.Plans.{IsCompiledFor}
use Rattle.rank_node.proofs.Plans.{run-state}
use Rattle.schedule_compiler.specs.Jobs.{JobOf}
use Rattle.ni_model.specs.Answers.{is_awaited}
use Rattle.rank_slots.specs.Joints.{Joint, in_joint, out_joint}
use Rattle.rank_slots.specs.Lanes.{AreLanes, bounds_on}
use Rattle.rank_slots.specs.Slots.{Tied}
use Rattle.rank_slots.specs.Names.{Note, history, in_count, mark, note, out_count, plate}
use Rattle.rank_slots.specs.Sound.{IsSound}
use Rattle.rank_slots.specs.Missing.{AreShut, HasFlushed, Idled, Missed, PassedAt}
use Rattle.rank_slots.specs.Steps.{IsEmpty, IsFull, IsIdle, IsOfHistory, NoneFires, PassedOver}
use Rattle.rank_threads.specs.Fabrics.{IsNamed}
use Rattle.rank_wiring.specs.Wiring.{bounds_of, from_rank, to_rank}
use Rattle.rank_slots.proofs.Pairs.{at_map_back, exists_at, within}
use Rattle.rank_wiring.proofs.Rows.{row-has}
use Rattle.rank_slots.proofs.Sends.{node-of}
use Rattle.rank_slots.specs.declared.turn_rank.TurnRank.{TurnRank}
use Rattle.rank_slots.specs.declared.ports.OutPort.{OutPort}
use Rattle.rank_slots.specs.declared.ports.InPort.{InPort}

-- ---- a lane is used where an operation that is ready sends on it
two : {b : Bool} → b ≡ true → b ≡ false → ⊥
two e f = cc

some-link : (xs : List ℕ) (x : ℕ) → In x xs → nat_lt 0 (length xs) ≡ true
some-link [] x i = absurd i
some-link (y ∷ xs) x i = lt-ltb 0 (length (y ∷ xs)) (omega arith)

some-one : {X : Type 0} {a b : X} → Some a ≡ Some b → a ≡ b
some-one e = cc

sends-to : (p : Plan) (k : Slots) (l d : ℕ) (o : Option AtomicOp) → message_target (send_action p k l o) ≡ Some d →
    (cell p (link p l).target).rank ≡ d
sends-to p k l d None e = some-one e
sends-to p k l d (Some o) e = some-one e

work-lane : (p : Plan) (k : Slots) (r d : ℕ) (w : RankOp) → In w (rank_ops p r) → message_target (action_of p k w) ≡ Some d →
    is_used_lane p r d Request ≡ true
work-lane p k r d (ForDone c) i e = cc
work-lane p k r d (ForLink l) i e = at (is_bump (link p l).kind) refl e
  where
    out : In l (out_links p r)
    out = rank_ops-along p r l i

    at : (b : Bool) → is_bump (link p l).kind ≡ b → message_target
        (cond b (IncAction (cell_ct p k (link p l).target) (successes 1)) (send_action p k l (cell p (link p l).target).op)) ≡ Some d →
        is_used_lane p r d Request ≡ true
    at true q e = cc
    at false q e =
        let known = out_links-In p r l out in
        let to = sends-to p k l d (cell p (link p l).target).op e in
        some-link (lane_links p r d) l
        (In-filter (goes_along p r d) l (all_links p) (In-from_to 0 (length p.links) l zero-le (let h = known.0 in omega arith))
        (and_from _ _ (ap not q) (and_from _ _ (eq-eqb _ _ known.1) (eq-eqb _ _ to))))

pub ready-lane : (p : Plan) (k : Slots) (r : ℕ) (s : State) (t d : ℕ) → IsOf p k r s → is_ready s t ≡ true → target_at s t ≡ Some d →
    is_used_lane p r d Request ≡ true
ready-lane p k r s t d of ready goes = at (posted_at t s.pending) refl ready goes
  where
    at : (o : Option Posted) → posted_at t s.pending ≡ o → is_ready_op s.cts o ≡ true → target_of o ≡ Some d →
        is_used_lane p r d Request ≡ true
    at None e f g = cc
    at (Some x) e f g =
        let i = of.pending x (find-In (is_number t) s.pending.waiting x e).0 in
        let w = In-map_cases (operation p k r) x (rank_ops p r) i in
        work-lane p k r d w.0 w.1 (subst (λ (y : Posted). message_target y.action ≡ Some d) (sym w.2) g)

-- ---- why a lane was passed over
passed-over : (s : ℕ) (lane : Lane) (old new : Note) → IsEmpty s lane old new ⊎
    (((lane ≡ Answer) × (is_awaited old.nic.mds.live ≡ false)) ⊎ ((lane ≡ Request) × IsFull s Answer old new)) → PassedOver s lane old new
passed-over s Request old new (inl e) = inl e
passed-over s Request old new (inr (inl e)) = absurd (let f = e.0 in cc)
passed-over s Request old new (inr (inr e)) = inr e.1
passed-over s Answer old new (inl e) = inl e
passed-over s Answer old new (inr (inl e)) = inr e.1
passed-over s Answer old new (inr (inr e)) = absurd (let f = e.0 in cc)

closed-is : (closed : List Bool) (o : Option ℕ) → goes_out closed o ≡ false → (d : ℕ) × (o ≡ Some d) × (get_or closed d false ≡ true)
closed-is closed None e = cc
closed-is closed (Some d) e = (d, refl, at (get_or closed d false) e)
  where
    at : (b : Bool) → not b ≡ false → b ≡ true
    at true e = refl
    at false e = cc

module _ (job : JobOf) (sound : IsSound job) (wires : List WireState) (lanes : AreLanes job.schedule.plan (bounds_of wires))
    (r : ℕ) (x : TurnRank) (named : IsNamed job wires r (plate x)) where
  abbrev p : Plan
  p = job.schedule.plan

  abbrev n : NodeState
  n = x.node.value

  tied : Tied p job.inputs n x.outs.items x.ins.items
  tied = subst (λ (j : JobOf). Tied j.schedule.plan j.inputs n x.outs.items x.ins.items) named.job_is x.tied

  -- the end of a lane from the rank
  pub record OutAt (d : ℕ) (lane : Lane) : Type 0 where
    pub at : ℕ
    pub port : OutPort
    pub there : get_elem? x.outs.items at ≡ some port
    pub target : port.target ≡ d
    pub lane_is : port.lane ≡ lane

  pub out-at : (d : ℕ) (lane : Lane) → is_used_lane p r d lane ≡ true → OutAt d lane
  out-at d lane used =
      let h = lanes.all r d lane used in
      let w = at_map_back (λ (w : WireState). w.bounds) wires h.at h.bounds h.there in
      let e = row-has wires (from_rank r) (map out_joint x.outs.items) named.laid.outs_are h.at w.0 w.1
      (eq-eqb w.0.bounds.source r (ap (λ (b : Bounds). b.source) w.2 ∙ h.source)) in
      let o = at_map_back out_joint x.outs.items e.at e.joint e.there in
      let f = (named.laid.outs_are.fits e.at e.joint e.there).is w.0 (ap (get_elem? wires) e.number ∙ w.1) in
      let bounds : bounds_on p n.task.rank o.0.target o.0.lane ≡ h.bounds =
      sym (tied.out e.at o.0 o.1).bounds ∙ (ap (λ (j : Joint). j.bounds) o.2 ∙ (f.1 ∙ w.2)) in record {
        at = e.at;
        port = o.0;
        there = o.1;
        target = ap (λ (b : Bounds). b.target) bounds ∙ h.target;
        lane_is = ap (λ (b : Bounds). b.lane) bounds ∙ h.lane_is;
      }

  -- the end of a lane to the rank
  pub in-at : (s : ℕ) (lane : Lane) → is_used_lane p s r lane ≡ true
      → (i : ℕ) × (o : InPort) × (get_elem? x.ins.items i ≡ some o) × (o.source ≡ s) × (o.lane ≡ lane)
  in-at s lane used =
      let h = lanes.all s r lane used in
      let w = at_map_back (λ (w : WireState). w.bounds) wires h.at h.bounds h.there in
      let e = row-has wires (to_rank r) (map in_joint x.ins.items) named.laid.ins_are h.at w.0 w.1
      (eq-eqb w.0.bounds.target r (ap (λ (b : Bounds). b.target) w.2 ∙ h.target)) in
      let o = at_map_back in_joint x.ins.items e.at e.joint e.there in
      let f = (named.laid.ins_are.fits e.at e.joint e.there).is w.0 (ap (get_elem? wires) e.number ∙ w.1) in
      let bounds : bounds_on p o.0.source n.task.rank o.0.lane ≡ h.bounds =
      sym (tied.into e.at o.0 o.1).bounds ∙ (ap (λ (j : Joint). j.bounds) o.2 ∙ (f.1 ∙ w.2)) in
      (e.at, o.0, o.1, ap (λ (b : Bounds). b.source) bounds ∙ h.source, ap (λ (b : Bounds). b.lane) bounds ∙ h.lane_is)

  compiled : IsCompiledFor p job.inputs r n.task
  compiled = subst (λ q. IsCompiledFor p job.inputs q n.task) named.rank tied.compiled

  -- the interface is that of the history
  pub of-history : IsNode n → IsOfHistory job r (mark x)
  of-history is = λ slots a. run-state p job.inputs slots (λ q. history x) r n compiled is a refl

  -- what waited was tried again, and the out ends are then as y has them
  module _ (z y : TurnRank) (flushed : HasFlushed x z) (outs : y.outs.items ≡ z.outs.items) where
    -- an end at which a message waits still
    is-full : (d : ℕ) (lane : Lane) (i : ℕ) (o q : OutPort) → get_elem? x.outs.items i ≡ some o → get_elem? z.outs.items i ≡ some q
        → q.target ≡ d → q.lane ≡ lane → q.end.waits ≡ true → IsFull d lane (note x) (note y)
    is-full d lane i o q a b goes kind waits = record {
      at = i;
      before = out_count o;
      after = out_count q;
      was = at_map out_count x.outs.items i o a;
      is = ap (λ (l : List OutPort). get_elem? (map out_count l) i) outs ∙ at_map out_count z.outs.items i q b;
      target = goes;
      lane_is = kind;
      waits = waits;
      rose = (flushed.outs.each i o q a b).full waits;
    }

    nic-is : z.node.value.nic ≡ n.nic
    nic-is = ap (λ (m : NodeState). m.nic) flushed.node.same

    pub none-fires : IsNode n → AreShut z.node.value → NoneFires (note x) (note y)
    none-fires is shut t ready =
        let closed : goes_out z.node.value.closed (target_at n.nic t) ≡ false =
        subst (λ (s : State). goes_out z.node.value.closed (target_at s t) ≡ false) nic-is
        (shut t (subst (λ (s : State). is_ready s t ≡ true) (sym nic-is) ready)) in
        let c = closed-is z.node.value.closed (target_at n.nic t) closed in
        let used = subst (λ q. is_used_lane p q c.0 Request ≡ true) named.rank
        (ready-lane p (slots_of n.kept) n.task.rank n.nic t c.0 (node-of p job.inputs sound.plan n tied.compiled is) ready c.1) in
        let o = out-at c.0 Request used in
        let q = exists_at z.outs.items o.at (let h = within x.outs.items o.at o.port o.there in let m = flushed.outs.many in omega arith) in
        let f = flushed.outs.each o.at o.port q.0 o.there q.1 in
        let goes : q.0.target ≡ c.0 = f.same.target ∙ o.target in
        let kind : q.0.lane ≡ Request = f.same.lane ∙ o.lane_is in (
          c.0,
          c.1,
          is-full c.0 Request o.at o.port q.0 o.there q.1 goes kind
              (sym (z.tied.gated o.at q.0 q.1 kind) ∙ (ap (λ d. get_or z.node.value.closed d false) goes ∙ c.2)),
        )

    -- the in end of a lane was passed over
    pub passed : (s : ℕ) (lane : Lane) (i : ℕ) (o q : InPort) → get_elem? x.ins.items i ≡ some o → o.source ≡ s → o.lane ≡ lane
        → get_elem? y.ins.items i ≡ some q → Missed z.node.value z.outs.items o q → PassedOver s lane (note x) (note y)
    passed s lane i o q was source kind stands m = passed-over s lane (note x) (note y) (elim m.why [
      | inl e ↦ inl (record {
        at = i;
        before = in_count o;
        after = in_count q;
        was = at_map in_count x.ins.items i o was;
        is = at_map in_count y.ins.items i q stands;
        source = m.same.source ∙ source;
        lane_is = m.same.lane ∙ kind;
        rose = e;
      })
      | inr w ↦ inr (elim w [
        | inl e ↦ inl (sym kind ∙ e.0, ap (λ (s : State). is_awaited s.mds.live) (sym nic-is) ∙ e.1)
        | inr e ↦ inr (
          sym kind ∙ e.0,
          (let o = exists_at x.outs.items e.1.at
              (let k = within z.outs.items e.1.at e.1.port e.1.there in let c = flushed.outs.many in omega arith) in
              is-full s Answer e.1.at o.0 e.1.port o.1 e.1.there (e.1.target ∙ source) e.1.lane_is e.1.waits),
        )
      ])
    ])

  -- ---- the rank was idle
  over : (y : TurnRank) (idled : Idled x y) (s : ℕ) (lane : Lane) → is_used_lane p s r lane ≡ true → PassedOver s lane (note x) (note y)
  over y idled s lane used =
      let z = idled.between in
      let i = in-at s lane used in
      let there : get_elem? z.ins.items i.0 ≡ some i.1 = ap (λ (l : List InPort). get_elem? l i.0) idled.flushed.ins ∙ i.2 in
      let q = exists_at y.ins.items i.0 (let k = within z.ins.items i.0 i.1 there in let m = idled.missed.ins.many in omega arith) in
      passed z y idled.flushed idled.missed.outs s lane i.0 i.1 q.0 i.2 i.3 i.4 q.1 (idled.missed.ins.each i.0 i.1 q.0 there q.1)

  pub idle-told : (y : TurnRank) → IsNode n → Idled x y → IsIdle job r (mark x) (mark y)
  idle-told y is idled = record {
    same = ap (λ (m : NodeState). m.diary.locals) idled.missed.node ∙ ap (λ (m : NodeState). m.diary.locals) idled.flushed.node.same;
    started = idled.started;
    interface = of-history is;
    none_fires = none-fires idled.between y idled.flushed idled.missed.outs is idled.shut;
    over = λ s lane h used. over y idled s lane used;
  }

  -- ---- none was ready
  pub not-fired : (y : TurnRank) → IsNode n → HasFlushed x y → AreShut y.node.value → (history y ≡ history x) × NoneFires (note x) (note y)
  not-fired y is flushed shut = (ap (λ (m : NodeState). m.diary.locals) flushed.node.same, none-fires y y flushed refl is shut)

  -- ---- one lane was passed over
  pub passed-at : (y : TurnRank) (s : ℕ) (lane : Lane) → PassedAt s lane x y → (history y ≡ history x) × PassedOver s lane (note x) (note y)
  passed-at y s lane h =
      let z = h.between in
      let there : get_elem? z.ins.items h.at ≡ some h.port = ap (λ (l : List InPort). get_elem? l h.at) h.flushed.ins ∙ h.there in
      let q = exists_at y.ins.items h.at (let k = within z.ins.items h.at h.port there in let m = h.missed.many in omega arith) in (
        ap (λ (m : NodeState). m.diary.locals) h.missed.node ∙ ap (λ (m : NodeState). m.diary.locals) h.flushed.node.same,
        passed z y h.flushed h.missed.outs s lane h.at h.port q.0 h.there h.source h.lane_is q.1 (h.missed.here h.port q.0 there q.1),
      )
