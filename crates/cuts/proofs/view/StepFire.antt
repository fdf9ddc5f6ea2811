-- A start and a firing of an installed interface are moves of its plan's machine.
use Rattle.std.proofs.Common.{ℕ, suc, Bool, true, false, cond, not, ◌&&◌, ◌||◌, ◌+◌, ◌≡◌, ◌≤◌, ◌<◌, ◌==◌, nat_le, List, [], ◌∷◌, refl}
use Rattle.std.proofs.Common.{length, ap, ap₂, ◌∙◌, sym, subst, inl, inr, arith, map, filter, Option, Some, None, eqb-true, eq-eqb, min}
use Rattle.std.proofs.Common.{count_by, zero-add, if◌then◌else◌}
use Rattle.std.proofs.lemmas.Bool.{ne_eqb, leb-true, not-true}
use Rattle.ptl_types.specs.declared.handles.Count.{Count}
use Rattle.ptl_types.specs.declared.handles.Handle.{Handle}
use Rattle.ptl_types.specs.Messages.{Sent, message}
use Rattle.ptl_types.specs.declared.elements.AtomicOp.{AtomicOp}
use Rattle.ptl_types.specs.Handles.{same_handle, top, one_more}
use Rattle.ptl_types.specs.Kinds.{is_no_ack}
use Rattle.ptl_types.specs.declared.headers.AckRequest.TheVariants.{CtAck, NoAck}
use Rattle.ptl_types.specs.declared.calls.TriggeredOp.TheVariants.{Inc as IncAction}
use Rattle.plan_core.specs.Members.{In}
use Rattle.ptl_types.specs.Elements.{part}
use Rattle.ni_model.specs.State.{Posted, State}
use Rattle.ni_model.specs.Tables.{Live, change, lookup, Table}
use Rattle.ni_model.specs.declared.Bound.{Bound}
use Rattle.ni_model.specs.Counts.{bump, successes, counted}
use Rattle.ni_model.specs.Starts.{started, put_header, send_counter, send_told, one_awaited, awaits_more, bytes_at}
use Rattle.ni_model.specs.Ready.{Fires, fires, fired, fired_op, is_ready, is_ready_op, is_reached, is_number, posted_at, without_number}
use Rattle.ni_model.specs.Ready.{done}
use Rattle.ptl_types.specs.declared.headers.Header.{Header}
use Rattle.plan_core.specs.declared.LinkKind.TheVariants.{Atomic, Bump, Put}
use Rattle.plan_core.specs.declared.LinkKind.{LinkKind}
use Rattle.plan_core.specs.Plan.{Plan, cell, is_bump, link, out_links, own}
use Rattle.plan_core.specs.Sound.{SoundPlan}
use Rattle.plan_core.specs.Values.{Inputs, initial}
use Rattle.cuts.specs.view.View.{Annex, counter_of, view, raise_go, md_of, mds_of}
use Rattle.cuts.specs.view.Slots.{Slots, cell_ct, done_ct, the_md}
use Rattle.cuts.specs.view.TriggeredOps.{action_of, kind_for, link_message, operation, send_args, send_action, type_for}
use Rattle.plan_core.specs.calls.RankOps.{number_of, RankOp, cell_of, rank_ops}
use Rattle.cuts.specs.view.Steps.{sent_message, Sized}
use Rattle.cuts.specs.machine.Seen.{Seen, bumps, content, is_same_work, reached_count, to_cell, was_fired}
use Rattle.plan_core.specs.Places.{cell_length, place_in, start_in}
use Rattle.plan_core.specs.calls.RankOps.RankOp.{ForLink, ForDone}
use Rattle.cuts.specs.machine.Machine.{note, note_work, sending}
use Rattle.cuts.specs.machine.Machine.Move.{Began}
use Rattle.plan_core.proofs.Lists.{In-filter_cases, In-map_cases, count-cons}
use Rattle.plan_core.proofs.Links.{In-own, out_links-In, own-In}
use Rattle.cuts.proofs.machine.RankOps.{rank_ops-along, rank_ops-tell}
use Rattle.cuts.proofs.machine.Reached.{same_work, same_work-refl}
use Rattle.plan_core.proofs.Flat.{part_flat}
use Rattle.cuts.proofs.view.Tables.{cell_rises, cells_same, done_change, find-In, lookup_cell, number_of-one, same_handle-refl}

-- ---- the done counter stands before the cells'
done_first : (p : Plan) (s : Slots) (c : ℕ) → same_handle (done_ct s) (cell_ct p s c) ≡ false
done_first p s c = let e : (0 == suc (place_in (own p (cell p c).rank) c)) ≡ false = ne_eqb _ _ (λ i. absurd (omega arith)) in rw e refl

-- ---- Start
started_count : (g : Bool) (x : ℕ) → g ≡ false → (b : Bool) → b ≡ true → cond (b && true) 1 0 + x ≡ suc (cond (b && g) 1 0 + x)
started_count true x e b i = cc
started_count false x e true i = omega arith
started_count false x e false i = cc

other_count : (g : Bool) (x : ℕ) (b : Bool) → b ≡ false → cond (b && true) 1 0 + x ≡ cond (b && g) 1 0 + x
other_count g x true e = cc
other_count g x false e = refl

-- ---- a ready operation
pub cell_of-own : (p : Plan) (inputs : ℕ) → SoundPlan p inputs → (r : ℕ) (w : RankOp) → In w (rank_ops p r) → In (cell_of p w) (own p r)
cell_of-own p inputs sound r (ForLink l) h =
    let k = out_links-In p r l (rank_ops-along p r l h) in
    let s = sound.links_sound l k.0 in
    let up = s.rising in
    let top = s.cells in
    In-own p r (link p l).source (omega arith) k.1
cell_of-own p inputs sound r (ForDone c) h = rank_ops-tell p r c h

threshold_met : (n m : ℕ) (o : Option Count) → o ≡ Some (successes (min m top)) → is_reached o n ≡ true → n ≤ m
threshold_met n m o e h =
    let q : nat_le n (min m top + 0) ≡ true = subst (λ (v : Option Count). is_reached v n ≡ true) e h in
    let k : n ≤ min m top + 0 = leb-true _ _ q in
    omega arith

-- ---- what is left pending
left_pending : (p : Plan) (s : Slots) (r : ℕ) (fired : List RankOp) (w : RankOp) → In w (rank_ops p r) → (vs : List RankOp) →
    ((v : RankOp) → In v vs → In v (rank_ops p r))
    → filter (λ q. not (is_number (number_of p r w) q)) (map (operation p s r) (filter (λ v. not (was_fired fired v)) vs)) ≡ map
    (operation p s r) (filter (λ v. not (was_fired (w ∷ fired) v)) vs)
left_pending p s r fired w h [] sub = refl
left_pending p s r fired w h (v ∷ vs) sub = at (was_fired fired v) (is_same_work w v) refl
    (left_pending p s r fired w h vs (λ u i. sub u (inr i)))
  where
    rest : List Posted
    rest = map (operation p s r) (filter (λ u. not (was_fired (w ∷ fired) u)) vs)

    same_number : (b : Bool) → is_same_work w v ≡ b → (number_of p r v == number_of p r w) ≡ b
    same_number true e = eq-eqb _ _ (ap (number_of p r) (sym (same_work w v e)))
    same_number false e = ne_eqb _ _ (λ i. both e (subst (λ u. is_same_work w u ≡ true)
        (sym (number_of-one p r v w (sub v (inl refl)) h i)) (same_work-refl w)))
      where
        both : {b : Bool} → b ≡ false → b ≡ true → ⊥
        both e i = cc

    at : (a b : Bool) → is_same_work w v ≡ b
        → filter (λ q. not (is_number (number_of p r w) q)) (map (operation p s r) (filter (λ u. not (was_fired fired u)) vs)) ≡ map
        (operation p s r) (filter (λ u. not (was_fired (w ∷ fired) u)) vs)
        → filter (λ q. not (is_number (number_of p r w) q)) (map (operation p s r)
        (cond (not a) (v ∷ filter (λ u. not (was_fired fired u)) vs) (filter (λ u. not (was_fired fired u)) vs))) ≡ map
        (operation p s r) (cond (not (b || a)) (v ∷ filter (λ u. not (was_fired (w ∷ fired) u)) vs)
        (filter (λ u. not (was_fired (w ∷ fired) u)) vs))
    at true true e rest = rest
    at true false e rest = rest
    at false true e rest = rw (same_number true e) rest
    at false false e rest = rw (same_number false e) (ap (λ qs. operation p s r v ∷ qs) rest)

-- ---- a firing, one lemma for each kind of operation

pub fired_pair : (a b : State) (m n : Option Sent) → a ≡ b → m ≡ n → fires a m ≡ fires b n
fired_pair a b m n e f = ap₂ fires e f

count_same_head : {X : Type 0} (t : X → Bool) (x : X) (xs : List X) → t x ≡ false → count_by t (x ∷ xs) ≡ count_by t xs
count_same_head t x xs e = count-cons t x xs ∙ ap (λ b. cond b 1 0 + count_by t xs) e ∙ zero-add (count_by t xs)

count_more_head : {X : Type 0} (t : X → Bool) (x : X) (xs : List X) → t x ≡ true → count_by t (x ∷ xs) ≡ suc (count_by t xs)
count_more_head t x xs e = count-cons t x xs ∙ ap (λ b. cond b 1 0 + count_by t xs) e
    ∙ (let y : 1 + count_by t xs ≡ suc (count_by t xs) = omega arith in y)

-- the counts of the cells, where the operation bumps none
counts_stay : (p : Plan) (r : ℕ) (g k : Seen) (w : RankOp) → k.started ≡ g.started → k.came ≡ g.came → k.fired ≡ w ∷ g.fired →
    ((d : ℕ) → bumps p d w ≡ false) → (d : ℕ) → reached_count p k r d ≡ reached_count p g r d
counts_stay p r g k w es ec ef idle d =
    ap₂ (λ x y. cond ((d == r) && x) 1 0 + y) es (ap₂ (λ x y. x + y) (ap (count_by (to_cell p d)) ec) (ap (count_by (bumps p d)) ef
    ∙ count_same_head (bumps p d) w g.fired (idle d)))

lookup_md : (s : Slots) (b : Bound) → lookup (the_md s) (record { handle = the_md s; value = b } ∷ []) ≡ Some b
lookup_md s b = ap (λ t. cond t (Some b) None) (same_handle-refl (the_md s))

module _ (annex : Annex) where
  pub cts_rise : (p : Plan) (inputs : Inputs) (s : Slots) (r : ℕ) (g k : Seen) (c : ℕ) → In c (own p r) → k.done ≡ g.done →
      reached_count p k r c ≡ suc (reached_count p g r c) → ((d : ℕ) → (d ≡ c → ⊥) → reached_count p k r d ≡ reached_count p g r d)
      → change (cell_ct p s c) (bump (successes 1)) (view annex p inputs s r g).cts.live ≡ (view annex p inputs s r k).cts.live
  cts_rise p inputs s r g k c h same more others =
      ap₂ (λ a b. a ∷ b)
      (ap (λ v. record { handle = done_ct s; value = v }) (ap (λ b. cond b (bump (successes 1) g.done) g.done) (done_first p s c)
      ∙ sym same))
      (cell_rises p s r g k c h more others)

  pub step_start : (p : Plan) (inputs : Inputs) → SoundPlan p (length inputs) → (s : Slots) (r : ℕ) → r < p.ranks → (g : Seen) →
      g.started ≡ false
      → raise_go (cell_ct p s r) (view annex p inputs s r g) ≡ view annex p inputs s r (note p g Began)
  step_start p inputs sound s r in_range g e =
      let own_r : In r (own p r) = In-own p r r (let q = sound.all_go in omega arith) (sound.go_needs r in_range).2 in
      ap (λ v. record (view annex p inputs s r g) { cts = record (view annex p inputs s r g).cts { live = v } })
      (cts_rise p inputs s r g (note p g Began) r own_r refl
      (started_count g.started _ e (r == r) (eq-eqb r r refl))
      (λ d n. other_count g.started _ (d == r) (ne_eqb d r n)))

  pub lookup_counter : (p : Plan) (inputs : Inputs) (s : Slots) (r : ℕ) (g : Seen) (c : ℕ) → In c (own p r) →
      lookup (cell_ct p s c) (view annex p inputs s r g).cts.live ≡ Some (successes (min (reached_count p g r c) top))
  lookup_counter p inputs s r g c h =
      ap (λ b. cond b (Some g.done) (lookup (cell_ct p s c) (map (counter_of p s r g) (own p r)))) (done_first p s c)
      ∙ lookup_cell p s r (λ d. successes (min (reached_count p g r d) top)) c h (own p r) (λ d i. i) h

  pub record IsReady (p : Plan) (inputs : Inputs) (s : Slots) (r : ℕ) (g : Seen) (t : ℕ) (w : RankOp) : Type 0 where
    pub ours : In w (rank_ops p r)
    pub pending : was_fired g.fired w ≡ false
    pub found : posted_at t (view annex p inputs s r g).pending ≡ Some (operation p s r w)
    pub number : number_of p r w ≡ t
    pub reached : (cell p (cell_of p w)).needs ≤ reached_count p g r (cell_of p w)

  pub ready_work : (p : Plan) (inputs : Inputs) → SoundPlan p (length inputs) → (s : Slots) (r : ℕ) (g : Seen) (t : ℕ) →
      is_ready (view annex p inputs s r g) t ≡ true → (w : RankOp) × IsReady p inputs s r g t w
  ready_work p inputs sound s r g t h = go (posted_at t (view annex p inputs s r g).pending) refl h
    where
      go : (o : Option Posted) → posted_at t (view annex p inputs s r g).pending ≡ o →
          is_ready_op (view annex p inputs s r g).cts o ≡ true → (w : RankOp) × IsReady p inputs s r g t w
      go None e h = cc
      go (Some q) e h =
          let i = find-In (is_number t) (view annex p inputs s r g).pending.waiting q e in
          let m = In-map_cases (operation p s r) q (filter (λ w. not (was_fired g.fired w)) (rank_ops p r)) i.0 in
          let f = In-filter_cases (λ w. not (was_fired g.fired w)) m.0 (rank_ops p r) m.1 in (
            m.0,
            record {
              ours = f.0;
              pending = not-true _ f.1;
              found = e ∙ ap Some (sym m.2);
              number = eqb-true _ _ (subst (λ (x : Posted). (x.number == t) ≡ true) (sym m.2) i.1);
              reached = threshold_met (cell p (cell_of p m.0)).needs (reached_count p g r (cell_of p m.0))
                  (lookup (cell_ct p s (cell_of p m.0)) (view annex p inputs s r g).cts.live)
                  (lookup_counter p inputs s r g (cell_of p m.0) (cell_of-own p (length inputs) sound r m.0 f.0))
                  (subst (λ (x : Posted). is_reached (lookup x.ct (view annex p inputs s r g).cts.live) x.threshold ≡ true) (sym m.2) h);
            },
          )

  abbrev pub fires_to : Plan → Inputs → Slots → ℕ → Seen → RankOp → Fires
  fires_to p inputs s r g w = fires (view annex p inputs s r (note_work p g w)) (sent_message p inputs s g w)

  -- the state in which these operations wait
  abbrev pub with_waiting : State → List Posted → State
  with_waiting v qs = record v { pending = record v.pending { waiting = qs } }

  abbrev pub left : ℕ → State → State
  left t v = record v { pending = without_number t v.pending }

  -- the state without the operation
  left_view : (p : Plan) (inputs : Inputs) (s : Slots) (r : ℕ) (g : Seen) (w : RankOp) → In w (rank_ops p r)
      → left (number_of p r w) (view annex p inputs s r g) ≡ with_waiting (view annex p inputs s r g)
      (map (operation p s r) (filter (λ v. not (was_fired (w ∷ g.fired) v)) (rank_ops p r)))
  left_view p inputs s r g w h = ap (with_waiting (view annex p inputs s r g)) (left_pending p s r g.fired w h (rank_ops p r) (λ v i. i))

  fire_tell : (p : Plan) (inputs : Inputs) (s : Slots) (r : ℕ) (g : Seen) (c : ℕ) → In (ForDone c) (rank_ops p r)
      → done (left (number_of p r (ForDone c)) (view annex p inputs s r g)) (action_of p s (ForDone c)) ≡ fires_to p inputs s r g
      (ForDone c)
  fire_tell p inputs s r g c h =
      ap (λ v. done v (action_of p s (ForDone c))) (left_view p inputs s r g (ForDone c) h)
      ∙ fired_pair _ _ None None
      (ap (λ v. record (view annex p inputs s r (note_work p g (ForDone c))) { cts = record (view annex p inputs s r g).cts { live = v } })
      (ap₂ (λ a b. a ∷ b)
      (ap (λ b. record { handle = done_ct s; value = cond b (bump (successes 1) g.done) g.done }) (same_handle-refl (done_ct s)))
      (done_change p s (bump (successes 1)) (own p r) (λ d. successes (min (reached_count p g r d) top))
      ∙ cells_same p s r g (note_work p g (ForDone c)) (counts_stay p r g (note_work p g (ForDone c)) (ForDone c) refl refl refl
      (λ d. refl)))))
      refl

  fire_bump : (p : Plan) (inputs : Inputs) → SoundPlan p (length inputs) → (s : Slots) (r : ℕ) (g : Seen) (l : ℕ) →
      In (ForLink l) (rank_ops p r) → is_bump (link p l).kind ≡ true
      → done (left (number_of p r (ForLink l)) (view annex p inputs s r g)) (action_of p s (ForLink l)) ≡ fires_to p inputs s r g
      (ForLink l)
  fire_bump p inputs sound s r g l h b =
      let q = out_links-In p r l (rank_ops-along p r l h) in
      let w = sound.links_sound l q.0 in
      let own_t : In (link p l).target (own p r) = In-own p r (link p l).target w.cells (sym (w.bump_stays (bump_kind (link p l).kind b))
      ∙ q.1) in
      ap₂ done (left_view p inputs s r g (ForLink l) h) (ap (λ v. cond v (IncAction (cell_ct p s (link p l).target) (successes 1))
      (send_action p s l (cell p (link p l).target).op)) b)
      ∙ fired_pair _ _ None (sent_message p inputs s g (ForLink l))
      (ap₂ (λ v n. record (view annex p inputs s r (record g { fired = ForLink l ∷ g.fired; awaits = n }))
      { cts = record (view annex p inputs s r g).cts { live = v } })
      (cts_rise p inputs s r g (note_work p g (ForLink l)) (link p l).target own_t refl
      (risen (link p l).target (eq-eqb (link p l).target (link p l).target refl))
      (λ d n. kept d (ne_eqb (link p l).target d (λ i. n (sym i)))))
      (sym (ap (λ v. cond v g.awaits (cond p.remote (one_more g.awaits) g.awaits)) b)))
      (sym (ap (λ v. cond v None (Some (link_message p s l (sending p inputs g l).bytes))) b))
    where
      bump_kind : (k : LinkKind) → is_bump k ≡ true → k ≡ Bump
      bump_kind Bump e = refl
      bump_kind Put e = cc
      bump_kind Atomic e = cc

      risen : (d : ℕ) → ((link p l).target == d) ≡ true → reached_count p (note_work p g (ForLink l)) r d ≡ suc (reached_count p g r d)
      risen d e = let k : bumps p d (ForLink l) ≡ true = rw (b, e) refl in let m = count_more_head (bumps p d) (ForLink l) g.fired k in
          omega (arith, m)

      kept : (d : ℕ) → ((link p l).target == d) ≡ false → reached_count p (note_work p g (ForLink l)) r d ≡ reached_count p g r d
      kept d e = let k : bumps p d (ForLink l) ≡ false = rw (b, e) refl in let m = count_same_head (bumps p d) (ForLink l) g.fired k in
          omega (arith, m)

  -- ---- a put or an atomic
  await_by : (p : Plan) (s : Slots) (r n : ℕ) (b : Bool)
      → awaits_more (if is_no_ack (if b then CtAck else NoAck) then None else Some (the_md s)) (mds_of annex p s r n) ≡ mds_of annex p s r
      (if b then one_more n else n)
  await_by p s r n false = refl
  await_by p s r n true = ap (λ b. record (mds_of annex p s r n)
      { live = record { handle = the_md s; value = cond b (one_awaited (md_of annex p s r n)) (md_of annex p s r n) } ∷ [] })
      (same_handle-refl (the_md s))

  -- what a start at the descriptor b does, with this header, where the descriptors are then these
  abbrev pub sent_state : State → Option Bound → Header → Table Bound → State
  sent_state v b h mds = record v {
    cts = counted (send_counter b) (successes 1) v.cts;
    eqs = send_told b h v.eqs;
    mds = mds;
  }

  -- a start at the whole region's descriptor, which counts nothing and has no queue
  start_plain : (p : Plan) (inputs : Inputs) (s : Slots) (r : ℕ) (g : Seen) (h : Header) (vs : List Posted) →
      h.home ≡ (if is_no_ack (if p.remote then CtAck else NoAck) then None else Some (the_md s))
      → sent_state (with_waiting (view annex p inputs s r g) vs) (lookup (the_md s) (view annex p inputs s r g).mds.live) h
      (awaits_more h.home (view annex p inputs s r g).mds)
      ≡ record (with_waiting (view annex p inputs s r g) vs) { mds = mds_of annex p s r (if p.remote then one_more g.awaits else g.awaits) }
  start_plain p inputs s r g h vs e =
      ap₂ (λ (a : Option Bound) (m : Table Bound). sent_state (with_waiting (view annex p inputs s r g) vs) a h m)
      (lookup_md s (md_of annex p s r g.awaits))
      (ap (λ (o : Option Handle). awaits_more o (view annex p inputs s r g).mds) e ∙ await_by p s r g.awaits p.remote)

  send_bytes : (p : Plan) (inputs : Inputs) → SoundPlan p (length inputs) → (s : Slots) (r : ℕ) (g : Seen) (l : ℕ) → Sized p inputs g →
      In l (out_links p r)
      → bytes_at (lookup (the_md s) (view annex p inputs s r g).mds.live) (send_args p s l).local_offset (link p l).length
      (view annex p inputs s r g).memory ≡ (sending p inputs g l).bytes
  send_bytes p inputs sound s r g l sized h =
      let q = out_links-In p r l h in
      let w = sound.links_sound l q.0 in
      let up = w.rising in
      let top = w.cells in
      let fit = w.within_source in
      ap (λ b. bytes_at b (send_args p s l).local_offset (link p l).length (view annex p inputs s r g).memory)
      (lookup_md s (md_of annex p s r g.awaits))
      ∙ ap (λ n. part n (link p l).length (view annex p inputs s r g).memory) (zero-add (send_args p s l).local_offset)
      ∙ ap (λ v. part (start_in p (own p v) (link p l).source + (link p l).source_offset) (link p l).length
      (view annex p inputs s r g).memory) q.1
      ∙ part_flat (cell_length p) (λ d. content p g.came d (initial p inputs d)) (own p r) (λ d i. sized d (own-In p r d i).0)
      (link p l).source (link p l).source_offset (link p l).length (In-own p r (link p l).source (omega arith) q.1) fit annex.tail

  abbrev pub send_header : Plan → Slots → ℕ → ℕ → Option AtomicOp → Header
  send_header p s l r op = put_header r (kind_for op) (send_args p s l) op (type_for op (cell p (link p l).target).ty)

  done_send : (p : Plan) (inputs : Inputs) (s : Slots) (r : ℕ) (g : Seen) (l : ℕ) (op : Option AtomicOp) (vs : List Posted)
      → done (with_waiting (view annex p inputs s r g) vs) (send_action p s l op)
      ≡ fires
      (sent_state (with_waiting (view annex p inputs s r g) vs) (lookup (the_md s) (view annex p inputs s r g).mds.live)
      (send_header p s l r op) (awaits_more (send_header p s l r op).home (view annex p inputs s r g).mds))
      (Some (message (send_header p s l r op) (bytes_at (lookup (the_md s) (view annex p inputs s r g).mds.live)
      (send_args p s l).local_offset (link p l).length (view annex p inputs s r g).memory)))
  unfolding started
  done_send p inputs s r g l None vs = refl
  done_send p inputs s r g l (Some o) vs = refl

  fire_send : (p : Plan) (inputs : Inputs) → SoundPlan p (length inputs) → (s : Slots) (r : ℕ) (g : Seen) (l : ℕ) → Sized p inputs g →
      In (ForLink l) (rank_ops p r) → is_bump (link p l).kind ≡ false
      → done (left (number_of p r (ForLink l)) (view annex p inputs s r g)) (action_of p s (ForLink l)) ≡ fires_to p inputs s r g
      (ForLink l)
  fire_send p inputs sound s r g l sized h b =
      let out = rank_ops-along p r l h in
      let q = out_links-In p r l out in
      let op = (cell p (link p l).target).op in
      let ty = (cell p (link p l).target).ty in
      ap₂ done (left_view p inputs s r g (ForLink l) h) (ap (λ v. cond v (IncAction (cell_ct p s (link p l).target) (successes 1))
      (send_action p s l op)) b)
      ∙ done_send p inputs s r g l op (map (operation p s r) (filter (λ v. not (was_fired (ForLink l ∷ g.fired) v)) (rank_ops p r)))
      ∙ fired_pair _ _ _ _
      (start_plain p inputs s r g (send_header p s l r op) (map (operation p s r)
      (filter (λ v. not (was_fired (ForLink l ∷ g.fired) v)) (rank_ops p r))) refl
      ∙ ap₂ (λ (n : ℕ) (cs : List (Live Count)). record (with_waiting (view annex p inputs s r g)
      (map (operation p s r) (filter (λ v. not (was_fired (ForLink l ∷ g.fired) v)) (rank_ops p r)))) {
        cts = record (view annex p inputs s r g).cts { live = record { handle = done_ct s; value = g.done } ∷ cs };
        mds = mds_of annex p s r n;
      })
      (sym (ap (λ v. cond v g.awaits (cond p.remote (one_more g.awaits) g.awaits)) b))
      (cells_same p s r g (note_work p g (ForLink l)) (counts_stay p r g (note_work p g (ForLink l)) (ForLink l) refl refl refl
      (λ d. ap (λ v. v && ((link p l).target == d)) b))))
      (ap₂ (λ (v : ℕ) (bs : List ℕ). Some (message (send_header p s l v op) bs)) (sym q.1) (send_bytes p inputs sound s r g l sized out)
      ∙ sym (ap (λ v. cond v None (Some (link_message p s l (sending p inputs g l).bytes))) b))

  pub step_fire : (p : Plan) (inputs : Inputs) → SoundPlan p (length inputs) → (s : Slots) (r : ℕ) (g : Seen) (t : ℕ) (w : RankOp) →
      Sized p inputs g → IsReady p inputs s r g t w
      → fired (view annex p inputs s r g) t ≡ fires_to p inputs s r g w
  unfolding fired
  step_fire p inputs sound s r g t w sized h = ap (fired_op (view annex p inputs s r g)) h.found ∙ by_kind w h.ours
    where
      along : (l : ℕ) → In (ForLink l) (rank_ops p r) → (b : Bool) → is_bump (link p l).kind ≡ b →
          done (left (number_of p r (ForLink l)) (view annex p inputs s r g)) (action_of p s (ForLink l)) ≡ fires_to p inputs s r g
          (ForLink l)
      along l i true e = fire_bump p inputs sound s r g l i e
      along l i false e = fire_send p inputs sound s r g l sized i e

      by_kind : (w : RankOp) → In w (rank_ops p r) → done (left (number_of p r w) (view annex p inputs s r g)) (action_of p s w) ≡ fires_to
          p inputs s r g w
      by_kind (ForLink l) i = along l i (is_bump (link p l).kind) refl
      by_kind (ForDone c) i = fire_tell p inputs s r g c i
