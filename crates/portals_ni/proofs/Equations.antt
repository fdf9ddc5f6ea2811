-- How each call ends, from what its parts did.
use Rattle.std.proofs.Common.{◌≡◌, ℕ, Bool, true, false, List, [], Option, Some, None, Result, Ok, Err, IsSome, IsTrue, ◌↔◌, is_some}
use Rattle.std.proofs.Common.{length, refl, sym, subst, ap, ◌∙◌}
use Rattle.std.specs.Prelude.{All, IfOk, IfErr, OnErr, OnOk, IfSome, IfNone, option_map, map}
use Rattle.ptl_types.specs.declared.handles.Handle.{Handle}
use Rattle.ptl_types.specs.declared.handles.Count.{Count}
use Rattle.ptl_types.specs.declared.entries.Entry.{Entry}
use Rattle.ptl_types.specs.declared.entries.Descriptor.{Descriptor}
use Rattle.ptl_types.specs.declared.entries.UnexpectedHeader.{UnexpectedHeader}
use Rattle.ptl_types.specs.declared.entries.List.{List as EntryList}
use Rattle.ptl_types.specs.declared.calls.Appended.{Appended}
use Rattle.ptl_types.specs.declared.calls.NiFault.{NiFault}
use Rattle.ptl_types.specs.declared.calls.NiFault.TheVariants.{NoSpace, NoMemory, Stale}
use Rattle.ptl_types.specs.declared.calls.Outcome.{Outcome}
use Rattle.ptl_types.specs.declared.calls.EqGot.{EqGot}
use Rattle.ptl_types.specs.declared.calls.TriggeredOp.{TriggeredOp}
use Rattle.ptl_types.specs.Messages.{Sent}
use Rattle.ni_model.specs.declared.Arrived.{Arrived}
use Rattle.ni_model.specs.Tables.{Table, lookup, changed, has_slot, handle, with_new, without, is_full}
use Rattle.ni_model.specs.Counts.{plus, successes}
use Rattle.ni_model.specs.Queues.{Waiting, queue, after_take}
use Rattle.ni_model.specs.Arrive.{Side, parts, received, request}
use Rattle.ni_model.specs.Answers.{home, answered}
use Rattle.ni_model.specs.Starts.{started}
use Rattle.ni_model.specs.Append.{append_fault, is_allocated, search}
use Rattle.ni_model.specs.State.{State, parts_of, home_of, with_home, drops_after, violations_after, after_request, after_answer}
use Rattle.ni_model.specs.Ready.{Fires, fires, fired}
use Rattle.ni_model.specs.Refusals.{pt_alloc_fault, ct_set_fault, ct_inc_fault, alloc_fault, unlink_fault, bind_fault, action_fault}
use Rattle.ni_model.specs.Refusals.{action_passes, triggered_fault, md_names_ct, md_names_eq, index_names_ct, index_names_eq}
use Rattle.ni_model.specs.Refusals.{operation_names_ct}
use Rattle.ni_model.specs.Calls.{ends, Makes, MayLackMemory, enough, lacking, AnswersReady, new_index, bound, ct_alloc, ct_free, eq_free}
use Rattle.ni_model.specs.Calls.{ct_set, ct_inc, ct_cancel, eq_alloc, eq_get, md_bind, entry_taken, unlinked_in, me_append, me_unlink}
use Rattle.ni_model.specs.Calls.{me_search, pt_alloc, start, triggered}
use Rattle.ni_objects.proofs.handles.StoreLemmas.{change-absent}
use Rattle.initiator_engine.specs.Initiators.{Initiating, with_mds, is_start, has_started, has_returned}
use Rattle.target_engine.specs.Sides.{has_searched, has_appended, AppendsSome}
use Rattle.target_engine.proofs.Slots.{free_entry_slot}
use Rattle.triggered_ops.specs.Operations.{Operations, action_of, operation_at, is_ready, told, with_posted, without_number, waiting_on}
use Rattle.triggered_ops.specs.Operations.{cancelled, posted_all}
use Rattle.std.specs.Prelude.{slice_set}
use Rattle.portals_ni.specs.declared.posted_op.PostedOp.{PostedOp}
use Rattle.portals_ni.specs.Answers.{MakesIfMemory, event_taken, action_counts}
use Rattle.portals_ni.specs.Pendings.{action_in, told_by}
use Rattle.portals_ni.specs.Sound.{IsTold, Stands, state_of}
use Rattle.portals_ni.proofs.Ends.{ends-done, ends-refused, free_slot, is-free}
use Rattle.portals_ni.proofs.Firing.{posted-new, posted-cancelled, length-waiting, posted-without, ready-is, fired-is, done-start}
use Rattle.portals_ni.proofs.Firing.{done-count}
use Rattle.portals_ni.proofs.Stands.{fewer-stands, done-stands}
use Rattle.portals_ni.proofs.Told.{posted-tells, posted-told_by}

-- what was told is forgotten
pub told-forgotten : (ct : Option Handle) (c : Table Count) (ops left : Operations PostedOp) → left ≡ told_by ct c ops →
    posted_all action_in left ≡ posted_all action_in ops
told-forgotten ct c ops left e = ap (posted_all action_in) e ∙ posted-told_by ct c ops

pub live-true : {A : Type 0} (b : Bool) (o : Option A) → (IsTrue b ↔ IsSome o) → b ≡ true → is_some o ≡ true
live-true true None r e = cc (r.0 refl)
live-true true (Some x) r e = refl
live-true false o r e = cc

not-full : {A : Type 0} (t : Table A) → is_full t ≡ false → alloc_fault t ≡ None
not-full t e = rw e refl

module _ (t : Side) (r : List ℕ) (c : Table Count) (e : Table Waiting) (i : Initiating) (ops : Operations PostedOp) (d v : ℕ) where
  abbrev pub before : State
  before = state_of t r c e i ops d v

  -- what was told isn't seen
  pub told-state : (ct : Handle) (sum : ℕ) (left : Operations PostedOp) → left ≡ told ct sum ops → before ≡ state_of t r c e i left d v
  told-state ct sum left made = sym (rw (ap (posted_all action_in) made ∙ posted-tells ct sum ops) refl)

  -- ---- the engines' parts

  pub home-state : (j : Initiating) (s : List ℕ) (k : Table Count) (f : Table Waiting) (left : Operations PostedOp) (ct : Option Handle) →
      j ≡ with_mds j.mds i → left ≡ told_by ct k ops → state_of t s k f j left d v ≡ with_home (home j.mds s k f) before
  home-state j s k f left ct rest told =
      let ranks : j.ranks ≡ i.ranks = ap (λ (x : Initiating). x.ranks) rest in
      let limits : j.limits ≡ i.limits = ap (λ (x : Initiating). x.limits) rest in
      rw (told-forgotten ct k ops left told, ranks, limits) refl

  -- ---- counting events

  pub set-ends : (ct : Handle) (to : Count) (k : Table Count) (left : Operations PostedOp) → ct_set_fault ct to c ≡ None →
      k ≡ changed ct (λ (x : Count). to) c → left ≡ told_by (Some ct) k ops → ends (state_of t r k e i left d v) (Ok tt) ≡ ct_set ct to
      before
  set-ends ct to k left none is told = rw (told-forgotten (Some ct) k ops left told, is) (ends-done _ _ _ _ none)

  pub inc-ends : (ct : Handle) (by : Count) (k : Table Count) (left : Operations PostedOp) → ct_inc_fault ct by c ≡ None →
      k ≡ changed ct (plus by) c → left ≡ told_by (Some ct) k ops → ends (state_of t r k e i left d v) (Ok tt) ≡ ct_inc ct by before
  inc-ends ct by k left none is told = rw (told-forgotten (Some ct) k ops left told, is) (ends-done _ _ _ _ none)

  pub cancel-ends : (ct : Handle) (n : ℕ) (left : Operations PostedOp) (live : Bool) → (IsTrue live ↔ IsSome (lookup ct c.live)) →
      live ≡ true → n ≡ length (waiting_on ct ops) → left ≡ cancelled ct ops → ends (state_of t r c e i left d v) (Ok n) ≡ ct_cancel ct
      before
  cancel-ends ct n left live is lives number gone =
      rw (gone, number, posted-cancelled ct ops, length-waiting ct ops, live-true live (lookup ct c.live) is lives) refl

  pub alloc-makes : (w : Count) (k : Table Count) (res : Result Handle NiFault) → w ≡ successes 0 →
      IfErr res (λ fault. alloc_fault c ≡ Some fault) → OnErr res (k ≡ c) → IfOk res (λ h. alloc_fault c ≡ None) →
      IfOk res (λ h. h ≡ handle h.slot c.given) → IfOk res (λ h. has_slot h.slot c.live ≡ false) →
      IfOk res (λ h. k ≡ with_new h.slot w c) → Makes (λ slot. has_slot slot c.live) (λ slot. ct_alloc slot before)
      (ends (state_of t r k e i ops d v) res)
  alloc-makes w k (Ok h) zero err unchanged ok stamp free made = record {
    slot = h.slot;
    free = free;
    ended = ap (λ x. ends (state_of t r k e i ops d v) (Ok x)) stamp ∙ rw (made, zero) (ends-done _ _ _ _ ok);
  }
  alloc-makes w k (Err fault) zero err unchanged ok stamp free made = record {
    slot = free_slot c.live;
    free = is-free c.live;
    ended = rw unchanged (ends-refused _ _ _ _ _ err);
  }

  pub free-ends : (ct : Handle) (k : Table Count) (live : Bool) → (IsTrue live ↔ IsSome (lookup ct c.live)) → live ≡ true →
      md_names_ct ct i.mds.live ≡ false → index_names_ct ct t.indices ≡ false → operation_names_ct ct (posted_all action_in ops).waiting
      ≡ false → k ≡ without ct c → ends (state_of t r k e i ops d v) (Ok tt) ≡ ct_free ct before
  free-ends ct k live is lives mds entries waiting gone = rw (gone, live-true live (lookup ct c.live) is lives, mds, entries, waiting) refl

  -- ---- event queues

  pub queue-makes : (room : ℕ) (q : Waiting) (f : Table Waiting) (res : Result Handle NiFault) → q ≡ queue room [] false →
      IfErr res (λ fault. alloc_fault e ≡ Some fault) → OnErr res (f ≡ e) → IfOk res (λ h. alloc_fault e ≡ None) →
      IfOk res (λ h. h ≡ handle h.slot e.given) → IfOk res (λ h. has_slot h.slot e.live ≡ false) →
      IfOk res (λ h. f ≡ with_new h.slot q e) → MakesIfMemory (λ slot. has_slot slot e.live) (λ slot. eq_alloc slot room before) before
      (ends (state_of t r c f i ops d v) res)
  queue-makes room q f (Ok h) empty err unchanged ok stamp free made = record {
    slot = h.slot;
    free = free;
    ended = subst (λ x. MayLackMemory (eq_alloc h.slot room before) before x)
        (sym (ap (λ x. ends (state_of t r c f i ops d v) (Ok x)) stamp ∙ rw (made, empty) (ends-done _ _ _ _ ok))) enough;
  }
  queue-makes room q f (Err fault) empty err unchanged ok stamp free made = record {
    slot = free_slot e.live;
    free = is-free e.live;
    ended = rw (unchanged, err) enough;
  }

  pub queue-full : (room : ℕ) → is_full e ≡ true → MakesIfMemory (λ slot. has_slot slot e.live) (λ slot. eq_alloc slot room before) before
      (ends before (Err NoSpace))
  queue-full room full = record { slot = free_slot e.live; free = is-free e.live; ended = rw full enough }

  pub queue-lacks : (room : ℕ) → is_full e ≡ false → MakesIfMemory (λ slot. has_slot slot e.live) (λ slot. eq_alloc slot room before)
      before (ends before (Err NoMemory))
  queue-lacks room full = record { slot = free_slot e.live; free = is-free e.live; ended = rw full (lacking refl) }

  pub event-ends : (eq : Handle) (res : Result EqGot NiFault) (f : Table Waiting) (o : Option Waiting) → lookup eq e.live ≡ o →
      res ≡ event_taken o → f ≡ changed eq after_take e → ends (state_of t r c f i ops d v) res ≡ eq_get eq before
  event-ends eq res f None found is rest = rw (found, is, rest, change-absent after_take eq e.live found) refl
  event-ends eq res f (Some q) found is rest = rw (found, is, rest) refl

  pub unqueue-ends : (eq : Handle) (f : Table Waiting) (live : Bool) → (IsTrue live ↔ IsSome (lookup eq e.live)) → live ≡ true →
      index_names_eq eq t.indices ≡ false → md_names_eq eq i.mds.live ≡ false → f ≡ without eq e →
      ends (state_of t r c f i ops d v) (Ok tt) ≡ eq_free eq before
  unqueue-ends eq f live is lives entries mds gone = rw (gone, live-true live (lookup eq e.live) is lives, entries, mds) refl

  -- ---- memory descriptors

  pub bind-makes : (md : Descriptor) (j : Initiating) (res : Result Handle NiFault) →
      IfErr res (λ fault. bind_fault md (length r) c e i.mds ≡ Some fault) → OnErr res (j ≡ i) →
      IfOk res (λ h. bind_fault md (length r) c e i.mds ≡ None) → IfOk res (λ h. h ≡ handle h.slot i.mds.given) →
      IfOk res (λ h. has_slot h.slot i.mds.live ≡ false) → IfOk res (λ h. j ≡ with_mds (with_new h.slot (bound md) i.mds) i) →
      Makes (λ slot. has_slot slot i.mds.live) (λ slot. md_bind slot md before) (ends (state_of t r c e j ops d v) res)
  bind-makes md j (Ok h) err unchanged ok stamp free made = record {
    slot = h.slot;
    free = free;
    ended = ap (λ x. ends (state_of t r c e j ops d v) (Ok x)) stamp ∙ rw made (ends-done _ _ _ _ ok);
  }
  bind-makes md j (Err fault) err unchanged ok stamp free made = record {
    slot = free_slot i.mds.live;
    free = is-free i.mds.live;
    ended = rw unchanged (ends-refused _ _ _ _ _ err);
  }

  -- ---- portal table indices

  pub pt-ends : (pt : ℕ) (eq : Option Handle) (u : Side) (res : Result (Unit {0}) NiFault) →
      IfErr res (λ fault. pt_alloc_fault pt eq t e ≡ Some fault) → OnErr res (u ≡ t) → OnOk res (pt_alloc_fault pt eq t e ≡ None) →
      OnOk res (u ≡ record t { indices = slice_set t.indices pt (Some (new_index eq)) }) →
      ends (state_of u r c e i ops d v) res ≡ pt_alloc pt eq before
  pt-ends pt eq u (Ok x) err unchanged ok made = rw made (ends-done _ _ _ _ ok)
  pt-ends pt eq u (Err fault) err unchanged ok made = rw unchanged (ends-refused _ _ _ _ _ err)

  pub search-ends : (pt : ℕ) (en : Entry) (delete : Bool) (u : Side) (f : Table Waiting) (res : Result (Option UnexpectedHeader) NiFault)
      → IfErr res (λ fault. (fault ≡ Stale) × (is_allocated pt t ≡ false)) → OnErr res ((u ≡ t) × (f ≡ e)) →
      OnOk res (is_allocated pt t ≡ true) → OnOk res (u.rank ≡ t.rank) → OnOk res (u.limit ≡ t.limit) →
      IfOk res (λ found. has_searched (parts u r c f) found ≡ search pt en delete (parts t r c e)) →
      ends (state_of u r c f i ops d v) res ≡ me_search pt en delete before
  search-ends pt en delete u f (Ok found) err unchanged ok rank limit is = rw (ok, ← is, rank, limit) refl
  search-ends pt en delete u f (Err fault) err unchanged ok rank limit is = rw (err.0, err.1, unchanged.0, unchanged.1) refl

  pub append-makes : (pt : ℕ) (list : EntryList) (en : Entry) (u : Side) (k : Table Count) (f : Table Waiting)
      (left : Operations PostedOp) (answer : Appended) (ct : Option Handle) → append_fault pt en (parts t r c e) ≡ None →
      AppendsSome pt list en (parts t r c e) (has_appended (parts u r k f) answer ct) → u.rank ≡ t.rank → u.limit ≡ t.limit →
      left ≡ told_by ct k ops → Makes (entry_taken t.indices u.headers.unexpected)
      (λ slot. me_append slot pt list en before) (ends (state_of u r k f i left d v) (Ok answer))
  append-makes pt list en u k f left answer ct none is rank limit told = record {
    slot = is.slot;
    free = is.free;
    ended = rw (none, ← is.ended, told-forgotten ct k ops left told, rank, limit) refl;
  }

  pub append-refused : (pt : ℕ) (list : EntryList) (en : Entry) (u : Side) (k : Table Count) (f : Table Waiting) (fault : NiFault) →
      append_fault pt en (parts t r c e) ≡ Some fault → (u ≡ t) × (k ≡ c) × (f ≡ e) →
      Makes (entry_taken t.indices u.headers.unexpected) (λ slot. me_append slot pt list en before)
      (ends (state_of u r k f i ops d v) (Err fault))
  append-refused pt list en u k f fault is same =
      let s = free_entry_slot t.indices t.headers.unexpected in
      rw (same.0, same.1, same.2) (record { slot = s.0; free = s.1; ended = rw is refl })

  pub unlink-ends : (me : Handle) (u : Side) (res : Result (Unit {0}) NiFault) → IfErr res (λ fault. unlink_fault me t ≡ Some fault) →
      OnErr res (u ≡ t) → OnOk res (unlink_fault me t ≡ None) → OnOk res (u ≡ record t { indices = map (unlinked_in me) t.indices }) →
      ends (state_of u r c e i ops d v) res ≡ me_unlink me before
  unlink-ends me u (Ok x) err unchanged ok made = rw made (ends-done _ _ _ _ ok)
  unlink-ends me u (Err fault) err unchanged ok made = rw unchanged (ends-refused _ _ _ _ _ err)

  -- ---- starts

  pub start-ends : (action : TriggeredOp) (j : Initiating) (k : Table Count) (f : Table Waiting) (left : Operations PostedOp) (m : Sent)
      (ct : Option Handle) → action_fault action i.mds ≡ None → i.rank ≡ t.rank → has_started (home j.mds r k f) m ct ≡ started i.rank
      (home i.mds r c e) action → j ≡ with_mds j.mds i → left ≡ told_by ct k ops → ends (state_of t r k f j left d v) (Ok (Some m)) ≡ start
      action before
  start-ends action j k f left m ct none rank is rest told =
      let same : has_started (home j.mds r k f) m ct ≡ started t.rank (home i.mds r c e) action = is
      ∙ ap (λ n. started n (home i.mds r c e) action) rank in
      rw (none, ← same, home-state j r k f left ct rest told) refl

  pub post-ends : (action : TriggeredOp) (ct : Handle) (threshold sum n : ℕ) (a : PostedOp) (left : Operations PostedOp) →
      triggered_fault action ct c i.mds (posted_all action_in ops) ≡ None → a.action ≡ action → n ≡ ops.given →
      left ≡ with_posted a ct threshold sum (told ct sum ops) → ends (state_of t r c e i left d v) (Ok n) ≡ triggered action ct threshold
      before
  post-ends action ct threshold sum n a left none is number made =
      rw (none, posted-new a ct threshold sum ops left made, is, number) refl

  pub start-may : (action : TriggeredOp) (j : Initiating) (k : Table Count) (f : Table Waiting) (left : Operations PostedOp) (m : Sent)
      (ct : Option Handle) → action_fault action i.mds ≡ None → i.rank ≡ t.rank → has_started (home j.mds r k f) m ct ≡ started i.rank
      (home i.mds r c e) action → j ≡ with_mds j.mds i → left ≡ told_by ct k ops →
      MayLackMemory (start action before) before (ends (state_of t r k f j left d v) (Ok (Some m)))
  start-may action j k f left m ct none rank is rest told = subst (λ x. MayLackMemory (start action before) before x)
      (sym (start-ends action j k f left m ct none rank is rest told)) enough

  pub post-may : (action : TriggeredOp) (ct : Handle) (threshold sum n : ℕ) (a : PostedOp) (left : Operations PostedOp) →
      triggered_fault action ct c i.mds (posted_all action_in ops) ≡ None → a.action ≡ action → n ≡ ops.given →
      left ≡ with_posted a ct threshold sum (told ct sum ops) → MayLackMemory (triggered action ct threshold before) before
      (ends (state_of t r c e i left d v) (Ok n))
  post-may action ct threshold sum n a left none is number made = subst (λ x. MayLackMemory (triggered action ct threshold before) before x)
      (sym (post-ends action ct threshold sum n a left none is number made)) enough

  -- ---- arrivals

  pub answer-ends : (m : Sent) (j : Initiating) (s : List ℕ) (k : Table Count) (f : Table Waiting) (left : Operations PostedOp)
      (outcome : Outcome) (ct : Option Handle) (d' v' : ℕ) → has_returned (home j.mds s k f) outcome ct ≡ answered (home i.mds r c e) m →
      j ≡ with_mds j.mds i → left ≡ told_by ct k ops → d' ≡ drops_after outcome d → v' ≡ violations_after outcome v →
      record { state = state_of t s k f j left d' v'; delivered = record { outcome = outcome; answer = None } } ≡ after_answer before
      (answered (home_of before) m)
  answer-ends m j s k f left outcome ct d' v' is rest told drops violations =
      let ranks : j.ranks ≡ i.ranks = ap (λ (x : Initiating). x.ranks) rest in
      let limits : j.limits ≡ i.limits = ap (λ (x : Initiating). x.limits) rest in
      rw (← is, drops, violations, told-forgotten ct k ops left told, ranks, limits) refl

  pub request-ends : (m : Sent) (u : Side) (s : List ℕ) (k : Table Count) (f : Table Waiting) (left : Operations PostedOp) (a : Arrived)
      (d' v' : ℕ) → received (parts u s k f) a ≡ request (parts t r c e) m → u.rank ≡ t.rank → u.limit ≡ t.limit →
      left ≡ told_by a.counted k ops → d' ≡ drops_after a.outcome d → v' ≡ violations_after a.outcome v →
      record { state = state_of u s k f i left d' v'; delivered = record { outcome = a.outcome; answer = a.answer } } ≡ after_request
      before (request (parts_of before) m)
  request-ends m u s k f left a d' v' is rank limit told drops violations =
      rw (← is, drops, violations, told-forgotten a.counted k ops left told, rank, limit) refl

  -- ---- triggered operations

  pub ready-answers : (o : Option ℕ) → All (IsTold c) ops.waiting → IfSome o (λ n. is_ready n ops ≡ true) →
      IfNone o ((n : ℕ) → is_ready n ops ≡ false) → AnswersReady before o
  ready-answers None told some none = λ n. ready-is n c ops told ∙ none n
  ready-answers (Some n) told some none = rw (ready-is n c ops told, some) refl

  pub fire-counts : (n : ℕ) (a : PostedOp) (k : Table Count) (between left : Operations PostedOp) (ct : Option Handle) →
      option_map action_of (operation_at n ops) ≡ Some a → is_start a.action ≡ false → between ≡ without_number n ops →
      k ≡ action_counts a.action c → left ≡ told_by ct k between → fires (state_of t r k e i left d v) None ≡ fired before n
  fire-counts n a k between left ct is counts gone made told =
      let done_of = fired-is before n ops a refl is in
      rw (
        done_of,
        done-count (state_of t r c e i (without_number n ops) d v) a.action counts,
        told-forgotten ct k between left told,
        gone,
        made,
      ) refl

  pub fire-starts : (n : ℕ) (a : PostedOp) (j : Initiating) (k : Table Count) (f : Table Waiting) (between left : Operations PostedOp)
      (m : Sent) (ct : Option Handle) → option_map action_of (operation_at n ops) ≡ Some a → is_start a.action ≡ true →
      between ≡ without_number n ops → i.rank ≡ t.rank → has_started (home j.mds r k f) m ct ≡ started i.rank (home i.mds r c e) a.action →
      j ≡ with_mds j.mds i → left ≡ told_by ct k between → fires (state_of t r k f j left d v) (Some m) ≡ fired before n
  fire-starts n a j k f between left m ct is starts gone rank sent rest told =
      let done_of = fired-is before n ops a refl is in
      let same : has_started (home j.mds r k f) m ct ≡ started t.rank (home i.mds r c e) a.action = sent
      ∙ ap (λ x. started x (home i.mds r c e) a.action) rank in
      let ranks : j.ranks ≡ i.ranks = ap (λ (x : Initiating). x.ranks) rest in
      let limits : j.limits ≡ i.limits = ap (λ (x : Initiating). x.limits) rest in
      rw (
        done_of,
        done-start (state_of t r c e i (without_number n ops) d v) a.action starts,
        ← same,
        told-forgotten ct k between left told,
        gone,
        ranks,
        limits,
      ) refl

  -- ---- what a firing leaves of the limits, the sums and the live names

  pub fired-stands : (n : ℕ) (a : PostedOp) → option_map action_of (operation_at n ops) ≡ Some a → action_passes a.action ≡ false →
      Stands before → Stands (fired before n).state
  fired-stands n a is fits stands =
      let left : Stands (state_of t r c e i (without_number n ops) d v) = rw (posted-without n ops) (fewer-stands n before stands) in
      subst (λ (f : Fires). Stands f.state) (sym (fired-is before n ops a refl is))
      (done-stands (state_of t r c e i (without_number n ops) d v) a.action fits left)
