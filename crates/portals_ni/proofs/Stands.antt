-- What each call leaves of the limits, the sums and the live names of a state, as the model has the call.
use Rattle.std.proofs.Common.{◌≡◌, ℕ, ◌≤◌, ◌&&◌, Bool, true, false, not, List, [], Option, Some, None, Result, Ok, Err, length, refl, sym}
use Rattle.std.proofs.Common.{ap, subst, ◌∙◌, arith}
use Rattle.std.specs.Prelude.{All, OnErr, OnOk, IfOk, map, slice_set}
use Rattle.std.proofs.lemmas.Bool.Decides.{nat_tests}
use Rattle.std.proofs.lemmas.List.{length-set, length-map}
use Rattle.std.proofs.lemmas.List.Elements.{All-push, All-filter, All-map, All-set, All-weaker}
use Rattle.ptl_types.specs.declared.handles.Handle.{Handle}
use Rattle.ptl_types.specs.declared.handles.Count.{Count}
use Rattle.ptl_types.specs.declared.entries.Entry.{Entry}
use Rattle.ptl_types.specs.declared.entries.Descriptor.{Descriptor}
use Rattle.ptl_types.specs.declared.entries.List.{List as EntryList}
use Rattle.ptl_types.specs.declared.calls.NiFault.{NiFault}
use Rattle.ptl_types.specs.declared.calls.TriggeredOp.{TriggeredOp}
use Rattle.ptl_types.specs.declared.calls.TriggeredOp.TheVariants.{Put, Get, Atomic, FetchAtomic, Swap, Inc, Set}
use Rattle.ptl_types.specs.declared.calls.Delivered.{Delivered}
use Rattle.ptl_types.specs.declared.calls.Outcome.{Outcome}
use Rattle.ptl_types.specs.Handles.{same_handle, top}
use Rattle.ptl_types.specs.Messages.{Sent}
use Rattle.ni_model.specs.declared.Bound.{Bound}
use Rattle.ni_model.specs.Tables.{Live, Table, lookup, changed, is_live, is_live_or_none, with_new, without}
use Rattle.ni_model.specs.Counts.{total, passes_end, plus, counted}
use Rattle.ni_model.specs.Queues.{Waiting, queue, after_take}
use Rattle.ni_model.specs.Lists.{Index, queue_of}
use Rattle.ni_model.specs.Arrive.{Side, request}
use Rattle.ni_model.specs.Answers.{answered}
use Rattle.ni_model.specs.Starts.{started}
use Rattle.ni_model.specs.Append.{append}
use Rattle.ni_model.specs.State.{State, Operations, Delivers, parts_of, with_parts, home_of, with_home, with_outcome, after_request}
use Rattle.ni_model.specs.State.{after_answer}
use Rattle.ni_model.specs.Ready.{Fires, fires, with_posted, without_number, is_number, cancelled, waits_on, done}
use Rattle.ni_model.specs.Refusals.{inc_passes, counts_on_live, action_is_live, action_passes}
use Rattle.ni_model.specs.Append.{search}
use Rattle.ni_model.specs.Calls.{Done, ends, ends_by, Makes, MayLackMemory, enough, lacking, with_index, new_index, with_counter}
use Rattle.ni_model.specs.Calls.{with_bound, with_operation, bound, unlinked_in, pt_alloc, ct_alloc, ct_set, ct_inc, ct_cancel, eq_alloc}
use Rattle.ni_model.specs.Calls.{eq_get, eq_get_at, md_bind, me_append, me_unlink, me_search, start, triggered}
use Rattle.initiator_engine.specs.Initiators.{Initiating, with_mds}
use Rattle.portals_ni.specs.Answers.{MakesIfMemory}
use Rattle.portals_ni.specs.Lasting.{HasEntries, EntryIsLive, QueueIsLive, BoundIsLive, OperationIsLive}
use Rattle.portals_ni.specs.Sound.{Stands, state_of}
use Rattle.portals_ni.proofs.Firing.{Ops}
use Rattle.initiator_engine.proofs.Starting.{need-test, need-later}
use Rattle.portals_ni.proofs.Kept.{and-left, and-right, not-false}
use Rattle.portals_ni.proofs.Parts.{new-entries, freed-entries, unlink-entries}
use Rattle.portals_ni.proofs.Steady.{Grows, grows-same, grows-changed, grows-new, CountsOn, counts-same, counts-changed, counts-counted}
use Rattle.portals_ni.proofs.Steady.{counts-new}
use Rattle.portals_ni.proofs.Leads.{Leads, leads-stands, parts-lead, home-lead, request-lead, append-lead, search-lead, started-lead}
use Rattle.portals_ni.proofs.Leads.{answered-lead}

-- ---- how a call ends

pub by-fault : {A : Type 0} (P : State → Type 0) (o : Option NiFault) (old new : State) (x : A) → P old → (o ≡ None → P new) →
    P (ends_by o old new x).state
by-fault P None old new x keeps made = made refl
by-fault P (Some fault) old new x keeps made = keeps

-- a call that leads on where it isn't refused
call-stands : {A : Type 0} (o : Option NiFault) (old new : State) (x : A) → Stands old → (o ≡ None → Leads old new) →
    Stands (ends_by o old new x).state
call-stands o old new x is leads = by-fault Stands o old new x is (λ none. leads-stands old new (leads none) is)

-- a call that ended so
pub ended-stands : {A : Type 0} (q : State) (x : A) (call : Done A) → ends q x ≡ call → Stands call.state → Stands q
ended-stands {A} q x call e is = subst (λ (d : Done A). Stands d.state) (sym e) is

pub made-stands : {A : Type 0} (taken : ℕ → Bool) (call : ℕ → Done A) (q : State) (x : A) → Makes taken call (ends q x) →
    ((slot : ℕ) → Stands (call slot).state) → Stands q
made-stands taken call q x makes each = ended-stands q x (call makes.slot) makes.ended (each makes.slot)

-- running out of memory changes nothing
lacks-stands : {A : Type 0} (call end : Done (Result A NiFault)) (old : State) → MayLackMemory call old end → Stands old →
    Stands call.state → Stands end.state
lacks-stands call end old enough is made = made
lacks-stands call end old (lacking ok) is made = is

pub may-stands : {A : Type 0} (call : Done (Result A NiFault)) (old q : State) (x : Result A NiFault) →
    MayLackMemory call old (ends q x) → Stands old → Stands call.state → Stands q
may-stands call old q x may is made = lacks-stands call (ends q x) old may is made

pub may_make-stands : {A : Type 0} (taken : ℕ → Bool) (call : ℕ → Done (Result A NiFault)) (old q : State) (x : Result A NiFault) →
    MakesIfMemory taken call old (ends q x) → Stands old → ((slot : ℕ) → Stands (call slot).state) → Stands q
may_make-stands taken call old q x makes is each = may-stands (call makes.slot) old q x makes.ended is (each makes.slot)

pub fires-stands : (q : State) (m : Option Sent) (f : Fires) → fires q m ≡ f → Stands f.state → Stands q
fires-stands q m f e is = subst (λ (x : Fires). Stands x.state) (sym e) is

pub delivers-stands : (q : State) (x : Delivered) (d : Delivers) → record { state = q; delivered = x } ≡ d → Stands d.state → Stands q
delivers-stands q x d e is = subst (λ (y : Delivers). Stands y.state) (sym e) is

-- ---- tables of the state, one at a time

counts-lead : (s : State) (cts : Table Count) → CountsOn s.cts cts → Leads s (record s { cts = cts })
counts-lead s cts on = record {
  limits = refl;
  indices = refl;
  headers = refl;
  descriptors = refl;
  operations = refl;
  counts = on;
  queues = grows-same s.eqs;
  entries_live = λ all. all;
  indices_live = λ all. all;
  bounds_live = λ all. all;
  operations_live = λ all. all;
}

queues-lead : (s : State) (eqs : Table Waiting) → Grows s.eqs eqs → Leads s (record s { eqs = eqs })
queues-lead s eqs on = record {
  limits = refl;
  indices = refl;
  headers = refl;
  descriptors = refl;
  operations = refl;
  counts = counts-same s.cts;
  queues = on;
  entries_live = λ all. all;
  indices_live = λ all. all;
  bounds_live = λ all. all;
  operations_live = λ all. all;
}

indices-lead : (s : State) (is : List (Option Index)) → length is ≡ length s.indices →
    (All (HasEntries (EntryIsLive s.cts)) s.indices → All (HasEntries (EntryIsLive s.cts)) is) →
    (All (QueueIsLive s.eqs) s.indices → All (QueueIsLive s.eqs) is) → Leads s (record s { indices = is })
indices-lead s is size entries queues = record {
  limits = refl;
  indices = size;
  headers = refl;
  descriptors = refl;
  operations = refl;
  counts = counts-same s.cts;
  queues = grows-same s.eqs;
  entries_live = entries;
  indices_live = queues;
  bounds_live = λ all. all;
  operations_live = λ all. all;
}

bounds-lead : (s : State) (mds : Table Bound) → mds.limit ≡ s.mds.limit →
    (All (BoundIsLive s.cts s.eqs) s.mds.live → All (BoundIsLive s.cts s.eqs) mds.live) → Leads s (record s { mds = mds })
bounds-lead s mds limit live = record {
  limits = refl;
  indices = refl;
  headers = refl;
  descriptors = limit;
  operations = refl;
  counts = counts-same s.cts;
  queues = grows-same s.eqs;
  entries_live = λ all. all;
  indices_live = λ all. all;
  bounds_live = live;
  operations_live = λ all. all;
}

operations-lead : (s : State) (ops : Operations) → ops.limit ≡ s.pending.limit →
    (All (OperationIsLive s.cts) s.pending.waiting → All (OperationIsLive s.cts) ops.waiting) → Leads s (record s { pending = ops })
operations-lead s ops limit live = record {
  limits = refl;
  indices = refl;
  headers = refl;
  descriptors = refl;
  operations = limit;
  counts = counts-same s.cts;
  queues = grows-same s.eqs;
  entries_live = λ all. all;
  indices_live = λ all. all;
  bounds_live = λ all. all;
  operations_live = live;
}

-- the registers don't matter
with_outcome-lead : (s q : State) (o : Outcome) → Leads s q → Leads s (with_outcome o q)
with_outcome-lead s q o leads = record {
  limits = leads.limits;
  indices = leads.indices;
  headers = leads.headers;
  descriptors = leads.descriptors;
  operations = leads.operations;
  counts = leads.counts;
  queues = leads.queues;
  entries_live = leads.entries_live;
  indices_live = leads.indices_live;
  bounds_live = leads.bounds_live;
  operations_live = leads.operations_live;
}

-- ---- portal table indices

pub pt_alloc-stands : (pt : ℕ) (eq : Option Handle) (s : State) → Stands s → Stands (pt_alloc pt eq s).state
pt_alloc-stands pt eq s is =
    call-stands _ s (with_index pt eq s) tt is (λ none. indices-lead s (with_index pt eq s).indices
    (length-set s.indices pt (Some (new_index eq)))
    (new-entries (EntryIsLive s.cts) pt eq s.indices)
    (All-set (QueueIsLive s.eqs) s.indices pt (Some (new_index eq)) (need-test _ _ _ none)))

-- by the answer of a freeing
pub freed-stands : (t : Side) (r : List ℕ) (c : Table Count) (e : Table Waiting) (i : Initiating) (ops : Ops) (d v : ℕ) (u : Side)
    (pt : ℕ) (res : Result (Unit {0}) NiFault) → Stands (state_of t r c e i ops d v) → OnErr res (u ≡ t) →
    OnOk res (u ≡ record t { indices = slice_set t.indices pt None }) → Stands (state_of u r c e i ops d v)
freed-stands t r c e i ops d v u pt (Ok x) is unchanged freed =
    let s = state_of t r c e i ops d v in
    rw freed (leads-stands s (record s { indices = slice_set t.indices pt None })
    (indices-lead s (slice_set t.indices pt None) (length-set t.indices pt None)
    (freed-entries (EntryIsLive c) pt t.indices)
    (All-set (QueueIsLive e) t.indices pt None refl)) is)
freed-stands t r c e i ops d v u pt (Err fault) is unchanged freed = rw unchanged is

-- ---- entries

pub me_append-stands : (slot pt : ℕ) (list : EntryList) (e : Entry) (s : State) → Stands s → Stands (me_append slot pt list e s).state
me_append-stands slot pt list e s is =
    call-stands _ s (with_parts (append slot pt list e (parts_of s)).parts s) (append slot pt list e (parts_of s)).appended is
    (λ none. parts-lead s (append slot pt list e (parts_of s)).parts
    (append-lead slot pt list e (parts_of s) (need-test _ _ _ (need-later _ _ _ none))))

unlinked-queue : (me : Handle) (o : Option Index) → queue_of (unlinked_in me o) ≡ queue_of o
unlinked-queue me None = refl
unlinked-queue me (Some i) = refl

pub me_unlink-stands : (me : Handle) (s : State) → Stands s → Stands (me_unlink me s).state
me_unlink-stands me s is =
    call-stands _ s (record s { indices = map (unlinked_in me) s.indices }) tt is
    (λ none. indices-lead s (map (unlinked_in me) s.indices) (length-map s.indices (unlinked_in me))
    (unlink-entries (EntryIsLive s.cts) me s.indices)
    (λ all. All-map (QueueIsLive s.eqs) (unlinked_in me) s.indices
    (All-weaker (QueueIsLive s.eqs) (λ o. QueueIsLive s.eqs (unlinked_in me o))
    (λ o live. ap (λ h. is_live_or_none h s.eqs) (unlinked-queue me o) ∙ live) s.indices all)))

pub me_search-stands : (pt : ℕ) (e : Entry) (delete : Bool) (s : State) → Stands s → Stands (me_search pt e delete s).state
me_search-stands pt e delete s is =
    call-stands _ s (with_parts (search pt e delete (parts_of s)).parts s) (search pt e delete (parts_of s)).found is
    (λ none. parts-lead s (search pt e delete (parts_of s)).parts (search-lead pt e delete (parts_of s)))

-- ---- descriptors

pub md_bind-stands : (slot : ℕ) (md : Descriptor) (s : State) → Stands s → Stands (md_bind slot md s).state
md_bind-stands slot md s is =
    call-stands _ s (with_bound slot md s) _ is (λ none.
    let live = need-test _ _ _ none in
    bounds-lead s (with_new slot (bound md) s.mds) refl (λ all. All-push (BoundIsLive s.cts s.eqs) s.mds.live _ all (
      and-right (is_live_or_none md.eq s.eqs) (is_live_or_none md.ct s.cts) live,
      and-left (is_live_or_none md.eq s.eqs) (is_live_or_none md.ct s.cts) live,
    )))

-- by the answer of a release
pub released-stands : (t : Side) (r : List ℕ) (c : Table Count) (e : Table Waiting) (i : Initiating) (ops : Ops) (d v : ℕ)
    (j : Initiating) (md : Handle) (res : Result (Unit {0}) NiFault) → Stands (state_of t r c e i ops d v) → OnErr res (j ≡ i) →
    IfOk res (λ _. j ≡ with_mds (without md i.mds) i) → Stands (state_of t r c e j ops d v)
released-stands t r c e i ops d v j md (Ok x) is unchanged released =
    let s = state_of t r c e i ops d v in
    rw released (leads-stands s (record s { mds = without md i.mds })
    (bounds-lead s (without md i.mds) refl (λ all. All-filter (λ (x : Live Bound). not (same_handle x.handle md)) (BoundIsLive c e)
    i.mds.live all)) is)
released-stands t r c e i ops d v j md (Err fault) is unchanged released = rw unchanged is

-- ---- counting events

pub ct_alloc-stands : (slot : ℕ) (s : State) → Stands s → Stands (ct_alloc slot s).state
ct_alloc-stands slot s is = call-stands _ s (with_counter slot s) _ is
    (λ none. counts-lead s (with_counter slot s).cts (counts-new slot s.cts))

passes-not : (c : Count) → passes_end c ≡ false → total c ≤ top
passes-not c e = grind (arith, nat_tests)

pub ct_set-stands : (ct : Handle) (to : Count) (s : State) → Stands s → Stands (ct_set ct to s).state
ct_set-stands ct to s is =
    call-stands _ s (record s { cts = changed ct (λ (c : Count). to) s.cts }) tt is
    (λ none. counts-lead s (changed ct (λ (c : Count). to) s.cts)
    (counts-changed ct (λ (c : Count). to) s.cts (λ c found fits. passes-not to
    (not-false (passes_end to) (need-test _ _ _ (need-later _ _ _ none))))))

inc-fits : (o : Option Count) (by c : Count) → inc_passes o by ≡ false → o ≡ Some c → total (plus by c) ≤ top
inc-fits None by c e found = cc
inc-fits (Some b) by c e found = let same : b ≡ c = cc in subst (λ (x : Count). total (plus by x) ≤ top) same (passes-not (plus by b) e)

pub ct_inc-stands : (ct : Handle) (by : Count) (s : State) → Stands s → Stands (ct_inc ct by s).state
ct_inc-stands ct by s is =
    call-stands _ s (record s { cts = changed ct (plus by) s.cts }) tt is
    (λ none. counts-lead s (changed ct (plus by) s.cts) (counts-changed ct (plus by) s.cts
    (λ c found fits. inc-fits (lookup ct s.cts.live) by c
    (not-false (inc_passes (lookup ct s.cts.live) by) (need-test _ _ _ (need-later _ _ _ none))) found)))

pub ct_cancel-stands : (ct : Handle) (s : State) → Stands s → Stands (ct_cancel ct s).state
ct_cancel-stands ct s is =
    call-stands _ s (record s { pending = cancelled ct s.pending }) _ is
    (λ none. operations-lead s (cancelled ct s.pending) refl
    (λ all. All-filter (λ p. not (waits_on ct p)) (OperationIsLive s.cts) s.pending.waiting all))

-- ---- event queues

pub eq_alloc-stands : (slot room : ℕ) (s : State) → Stands s → Stands (eq_alloc slot room s).state
eq_alloc-stands slot room s is =
    call-stands _ s (record s { eqs = with_new slot (queue room [] false) s.eqs }) _ is
    (λ none. queues-lead s (with_new slot (queue room [] false) s.eqs) (grows-new slot (queue room [] false) s.eqs))

at-stands : (eq : Handle) (s : State) (o : Option Waiting) → Stands s → Stands (eq_get_at eq s o).state
at-stands eq s None is = is
at-stands eq s (Some q) is = leads-stands s (record s { eqs = changed eq after_take s.eqs })
    (queues-lead s (changed eq after_take s.eqs) (grows-changed eq after_take s.eqs)) is

pub eq_get-stands : (eq : Handle) (s : State) → Stands s → Stands (eq_get eq s).state
eq_get-stands eq s is = at-stands eq s (lookup eq s.eqs.live) is

-- ---- starts and triggered operations

pub start-stands : (d : TriggeredOp) (s : State) → Stands s → Stands (start d s).state
start-stands d s is =
    call-stands _ s (with_home (started s.rank (home_of s) d).home s) (started s.rank (home_of s) d).message is
    (λ none. home-lead s (started s.rank (home_of s) d).home (started-lead s.rank (home_of s) d))

pub triggered-stands : (d : TriggeredOp) (ct : Handle) (threshold : ℕ) (s : State) → Stands s → Stands (triggered d ct threshold s).state
triggered-stands d ct threshold s is =
    call-stands _ s (with_operation d ct threshold s) s.pending.given is (λ none.
    let counts : Bool = counts_on_live d s.cts && action_is_live d s.mds in
    let live : is_live ct s.cts && counts ≡ true = need-test _ _ _ none in
    operations-lead s (with_posted d ct threshold s.pending) refl
    (λ all. All-push (OperationIsLive s.cts) s.pending.waiting _ all (
      and-left (is_live ct s.cts) counts live,
      and-left (counts_on_live d s.cts) (action_is_live d s.mds) (and-right (is_live ct s.cts) counts live),
    )))

pub fewer-stands : (t : ℕ) (s : State) → Stands s → Stands (record s { pending = without_number t s.pending })
fewer-stands t s is =
    leads-stands s (record s { pending = without_number t s.pending })
    (operations-lead s (without_number t s.pending) refl (λ all. All-filter (λ p. not (is_number t p)) (OperationIsLive s.cts)
    s.pending.waiting all))
    is

sends-stands : (s : State) (d : TriggeredOp) → Stands s → Stands (with_home (started s.rank (home_of s) d).home s)
sends-stands s d is = leads-stands s (with_home (started s.rank (home_of s) d).home s)
    (home-lead s (started s.rank (home_of s) d).home (started-lead s.rank (home_of s) d)) is

pub done-stands : (s : State) (d : TriggeredOp) → action_passes d ≡ false → Stands s → Stands (done s d).state
done-stands s (Put a) fits is = sends-stands s (Put a) is
done-stands s (Get g) fits is = sends-stands s (Get g) is
done-stands s (Atomic a op ty) fits is = sends-stands s (Atomic a op ty) is
done-stands s (FetchAtomic g a op ty) fits is = sends-stands s (FetchAtomic g a op ty) is
done-stands s (Swap g a op ty operand) fits is = sends-stands s (Swap g a op ty operand) is
done-stands s (Inc ct by) fits is = leads-stands s (record s { cts = counted (Some ct) by s.cts })
    (counts-lead s (counted (Some ct) by s.cts) (counts-counted (Some ct) by s.cts)) is
done-stands s (Set ct to) fits is =
    leads-stands s (record s { cts = changed ct (λ (c : Count). to) s.cts })
    (counts-lead s (changed ct (λ (c : Count). to) s.cts) (counts-changed ct (λ (c : Count). to) s.cts (λ c found low. passes-not to fits)))
    is

-- ---- arrivals

pub request-stands : (s : State) (m : Sent) → Stands s → Stands (after_request s (request (parts_of s) m)).state
request-stands s m is =
    let q = with_parts (request (parts_of s) m).parts s in
    leads-stands s (with_outcome (request (parts_of s) m).arrived.outcome q)
    (with_outcome-lead s q (request (parts_of s) m).arrived.outcome
    (parts-lead s (request (parts_of s) m).parts (request-lead (parts_of s) m))) is

pub answer-stands : (s : State) (m : Sent) → Stands s → Stands (after_answer s (answered (home_of s) m)).state
answer-stands s m is =
    let q = with_home (answered (home_of s) m).home s in
    leads-stands s (with_outcome (answered (home_of s) m).outcome q)
    (with_outcome-lead s q (answered (home_of s) m).outcome (home-lead s (answered (home_of s) m).home (answered-lead (home_of s) m)))
    is
