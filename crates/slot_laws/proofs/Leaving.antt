-- What each call of an interface, a firing and a message that comes leave as it was.
use Rattle.std.proofs.Common.{◌≡◌, ℕ, Bool, true, false, ◌||◌, not, List, [], ◌∷◌, map, length, Option, Some, None}
use Rattle.std.proofs.Common.{if◌then◌else◌, refl, sym, ◌∙◌, inl, inr, ◌⊎◌}
use Rattle.std.specs.Prelude.{slice_set}
use Rattle.ptl_types.specs.declared.handles.Handle.{Handle}
use Rattle.ptl_types.specs.declared.handles.Count.{Count}
use Rattle.ptl_types.specs.declared.entries.Entry.{Entry}
use Rattle.ptl_types.specs.declared.entries.Descriptor.{Descriptor}
use Rattle.ptl_types.specs.declared.entries.List.{List as EntryList}
use Rattle.ptl_types.specs.declared.calls.NiFault.{NiFault}
use Rattle.ptl_types.specs.declared.calls.Appended.{Appended}
use Rattle.ptl_types.specs.declared.calls.Appended.TheVariants.{Linked as IsLinked, Consumed}
use Rattle.ptl_types.specs.declared.calls.Outcome.{Outcome}
use Rattle.ptl_types.specs.declared.calls.TriggeredOp.{TriggeredOp}
use Rattle.ptl_types.specs.declared.calls.TriggeredOp.TheVariants.{Put, Get, Atomic, FetchAtomic, Swap, Inc, Set}
use Rattle.ptl_types.specs.Kinds.{is_answer}
use Rattle.ptl_types.specs.Handles.{same_handle}
use Rattle.ptl_types.specs.Messages.{Sent}
use Rattle.ni_model.specs.declared.Linked.{Linked}
use Rattle.ni_model.specs.Tables.{Table, changed, handle, lookup, with_new, without}
use Rattle.ni_model.specs.Counts.{plus, successes}
use Rattle.ni_model.specs.Queues.{Waiting, after_take, queue}
use Rattle.ni_model.specs.Lists.{Index, is_linked, unlinked}
use Rattle.ni_model.specs.Headers.{names_entry}
use Rattle.ni_model.specs.Append.{append, append_fault, search, search_fault}
use Rattle.ni_model.specs.Arrive.{Parts, request}
use Rattle.ni_model.specs.Answers.{Home, answered}
use Rattle.ni_model.specs.Starts.{started}
use Rattle.ni_model.specs.Refusals.{action_fault, alloc_fault, bind_fault, ct_free_fault, ct_inc_fault, ct_set_fault, eq_free_fault}
use Rattle.ni_model.specs.Refusals.{is_linked_anywhere, pt_alloc_fault, pt_free_fault, release_fault, stale_fault}
use Rattle.ni_model.specs.Refusals.{triggered_fault, unlink_fault}
use Rattle.ni_model.specs.State.{Operations, Posted, State, after_answer, after_request, home_of, parts_of, side_of, target, with_home}
use Rattle.ni_model.specs.State.{with_outcome, with_parts}
use Rattle.ni_model.specs.Ready.{cancelled, done, fired, fired_op, posted_at, without_number}
use Rattle.ni_model.specs.Calls.{bound, ct_alloc, ct_cancel, ct_free, ct_inc, ct_set, ends_by, eq_alloc, eq_free, eq_get, eq_get_at}
use Rattle.ni_model.specs.Calls.{md_bind}
use Rattle.ni_model.specs.Calls.{md_release, me_append, me_search, me_unlink, new_index, pt_alloc, pt_free, start, triggered, unlinked_in}
use Rattle.ni_model.specs.Calls.{with_bound, with_counter, with_index, with_operation, write_memory}
use Rattle.ni_objects.proofs.users.SumLemmas.{same-is}
use Rattle.portals_ni.proofs.Stands.{by-fault}
use Rattle.portals_ni.proofs.Kept.{not-false}
use Rattle.initiator_engine.proofs.Starting.{need-test, need-later}
use Rattle.slot_laws.proofs.terms.Lasting.{Alters, refused, altered, Appends, CreatesBound, CreatesCount, CreatesQueue, FreesBound}
use Rattle.slot_laws.proofs.terms.Lasting.{FreesCount}
use Rattle.slot_laws.proofs.terms.Lasting.{FreesQueue, Keeps, Lasts, Unlinks}
use Rattle.slot_laws.specs.Alike.{is_known}
use Rattle.slot_laws.proofs.Lasting.{LastsHome, either_more, gains_new, lasts_answered, lasts_changed, lasts_counted, lasts_self}
use Rattle.slot_laws.proofs.Lasting.{lasts_started, lasts_twice, loses_without}
use Rattle.slot_laws.proofs.Keeping.{AppendKeeps, KeepsParts, LinksParts, append_keeps, linked_filter, linked_set, request_keeps}
use Rattle.slot_laws.proofs.Keeping.{search_keeps}

-- ---- states

pub keeps_self : (s : State) → Keeps s s
keeps_self s = record {
  rank = refl;
  ranks = refl;
  limits = refl;
  cts = lasts_self s.cts;
  eqs = lasts_self s.eqs;
  mds = lasts_self s.mds;
  entries = refl;
  known = λ h is. is;
}

pub keeps_twice : (a b c : State) → Keeps a b → Keeps b c → Keeps a c
keeps_twice a b c p q = record {
  rank = q.rank ∙ p.rank;
  ranks = q.ranks ∙ p.ranks;
  limits = q.limits ∙ p.limits;
  cts = lasts_twice a.cts b.cts c.cts p.cts q.cts;
  eqs = lasts_twice a.eqs b.eqs c.eqs p.eqs q.eqs;
  mds = lasts_twice a.mds b.mds c.mds p.mds q.mds;
  entries = q.entries ∙ p.entries;
  known = λ h is. p.known h (q.known h is);
}

-- the counting events alone
counts_keep : (s : State) (t : Table Count) → Lasts s.cts t → Keeps s (record s { cts = t })
counts_keep s t lasts = record {
  rank = refl;
  ranks = refl;
  limits = refl;
  cts = lasts;
  eqs = lasts_self s.eqs;
  mds = lasts_self s.mds;
  entries = refl;
  known = λ h is. is;
}

-- the event queues alone
queues_keep : (s : State) (t : Table Waiting) → Lasts s.eqs t → Keeps s (record s { eqs = t })
queues_keep s t lasts = record {
  rank = refl;
  ranks = refl;
  limits = refl;
  cts = lasts_self s.cts;
  eqs = lasts;
  mds = lasts_self s.mds;
  entries = refl;
  known = λ h is. is;
}

-- the operations alone
operations_keep : (s : State) (ops : Operations) → Keeps s (record s { pending = ops })
operations_keep s ops = record {
  rank = refl;
  ranks = refl;
  limits = refl;
  cts = lasts_self s.cts;
  eqs = lasts_self s.eqs;
  mds = lasts_self s.mds;
  entries = refl;
  known = λ h is. is;
}

-- the indices alone
indices_keep : (s : State) (is : List (Option Index)) →
    ((h : Handle) → is_linked_anywhere h is ≡ true → is_linked_anywhere h s.indices ≡ true) → Keeps s (record s { indices = is })
indices_keep s is fewer = record {
  rank = refl;
  ranks = refl;
  limits = refl;
  cts = lasts_self s.cts;
  eqs = lasts_self s.eqs;
  mds = lasts_self s.mds;
  entries = refl;
  known = λ h.
      either_more (is_linked_anywhere h is) (names_entry h s.headers.unexpected) (is_linked_anywhere h s.indices)
      (names_entry h s.headers.unexpected) (fewer h) (λ named. named);
}

-- what a target has, and what an initiator has
parts_keep : (s : State) (p : Parts) → KeepsParts (parts_of s) p → Keeps s (with_parts p s)
parts_keep s p k = record {
  rank = refl;
  ranks = refl;
  limits = refl;
  cts = k.cts;
  eqs = k.eqs;
  mds = lasts_self s.mds;
  entries = k.given;
  known = k.known;
}

home_keeps : (s : State) (p : Home) → LastsHome (home_of s) p → Keeps s (with_home p s)
home_keeps s p k = record {
  rank = refl;
  ranks = refl;
  limits = refl;
  cts = k.cts;
  eqs = k.eqs;
  mds = k.mds;
  entries = refl;
  known = λ h is. is;
}

-- the registers are no part of it
outcome_keeps : (o : Outcome) (s s' : State) → Keeps s s' → Keeps s (with_outcome o s')
outcome_keeps o s s' k = record {
  rank = k.rank;
  ranks = k.ranks;
  limits = k.limits;
  cts = k.cts;
  eqs = k.eqs;
  mds = k.mds;
  entries = k.entries;
  known = k.known;
}

-- ---- how a call ends

ended_keeps : {A : Type 0} (o : Option NiFault) (s new : State) (x : A) → Keeps s new → Keeps s (ends_by o s new x).state
ended_keeps o s new x k = by-fault (Keeps s) o s new x (keeps_self s) (λ none. k)

ended_alters : {A : Type 0} (Leaves : State → A → Type 0) (o : Option NiFault) (s new : State) (x : A) → (o ≡ None → Leaves new x) →
    Alters Leaves s (ends_by o s new x)
ended_alters Leaves None s new x leaves = altered x refl (leaves refl)
ended_alters Leaves (Some fault) s new x leaves = refused fault refl refl

-- ---- the region and the portal table indices

pub write_memory_keeps : (at : ℕ) (bytes : List ℕ) (s : State) → Keeps s (write_memory at bytes s)
write_memory_keeps at bytes s = record {
  rank = refl;
  ranks = refl;
  limits = refl;
  cts = lasts_self s.cts;
  eqs = lasts_self s.eqs;
  mds = lasts_self s.mds;
  entries = refl;
  known = λ h is. is;
}

pub pt_alloc_keeps : (pt : ℕ) (eq : Option Handle) (s : State) → Keeps s (pt_alloc pt eq s).state
pt_alloc_keeps pt eq s =
    ended_keeps (pt_alloc_fault pt eq (side_of s) s.eqs) s (with_index pt eq s) tt
    (indices_keep s (slice_set s.indices pt (Some (new_index eq)))
    (λ h. linked_set h pt (Some (new_index eq)) s.indices (λ no. cc)))

pub pt_free_keeps : (pt : ℕ) (s : State) → Keeps s (pt_free pt s).state
pt_free_keeps pt s =
    ended_keeps (pt_free_fault pt (side_of s)) s (record s { indices = slice_set s.indices pt None }) tt
    (indices_keep s (slice_set s.indices pt None) (λ h. linked_set h pt None s.indices (λ no. cc)))

-- ---- counting events

pub ct_set_keeps : (ct : Handle) (to : Count) (s : State) → Keeps s (ct_set ct to s).state
ct_set_keeps ct to s =
    ended_keeps (ct_set_fault ct to s.cts) s _ tt
    (counts_keep s (changed ct (λ (c : Count). to) s.cts) (lasts_changed ct (λ (c : Count). to) s.cts))

pub ct_inc_keeps : (ct : Handle) (by : Count) (s : State) → Keeps s (ct_inc ct by s).state
ct_inc_keeps ct by s =
    ended_keeps (ct_inc_fault ct by s.cts) s _ tt (counts_keep s (changed ct (plus by) s.cts) (lasts_changed ct (plus by) s.cts))

pub ct_cancel_keeps : (ct : Handle) (s : State) → Keeps s (ct_cancel ct s).state
ct_cancel_keeps ct s = ended_keeps (stale_fault ct s.cts) s _ _ (operations_keep s (cancelled ct s.pending))

pub ct_alloc_creates : (slot : ℕ) (s : State) → Alters (CreatesCount slot s) s (ct_alloc slot s)
ct_alloc_creates slot s =
    ended_alters (CreatesCount slot s) (alloc_fault s.cts) s (with_counter slot s) (handle slot s.cts.given)
    (λ none. record { named = refl; gains = gains_new slot (successes 0) s.cts; keeps = keeps_self s })

pub ct_free_frees : (ct : Handle) (s : State) → Alters (λ s' u. FreesCount ct s s') s (ct_free ct s)
ct_free_frees ct s =
    ended_alters (λ s' u. FreesCount ct s s') (ct_free_fault ct s.cts s.indices s.mds s.pending) s (record s { cts = without ct s.cts }) tt
    (λ none. record { loses = loses_without ct s.cts; keeps = keeps_self s })

-- ---- event queues

eq_got_keeps : (eq : Handle) (s : State) (o : Option Waiting) → Keeps s (eq_get_at eq s o).state
eq_got_keeps eq s None = keeps_self s
eq_got_keeps eq s (Some q) = queues_keep s (changed eq after_take s.eqs) (lasts_changed eq after_take s.eqs)

pub eq_get_keeps : (eq : Handle) (s : State) → Keeps s (eq_get eq s).state
eq_get_keeps eq s = eq_got_keeps eq s (lookup eq s.eqs.live)

pub eq_alloc_creates : (slot room : ℕ) (s : State) → Alters (CreatesQueue slot s) s (eq_alloc slot room s)
eq_alloc_creates slot room s =
    ended_alters (CreatesQueue slot s) (alloc_fault s.eqs) s (record s { eqs = with_new slot (queue room [] false) s.eqs })
    (handle slot s.eqs.given)
    (λ none. record { named = refl; gains = gains_new slot (queue room [] false) s.eqs; keeps = keeps_self s })

pub eq_free_frees : (eq : Handle) (s : State) → Alters (λ s' u. FreesQueue eq s s') s (eq_free eq s)
eq_free_frees eq s =
    ended_alters (λ s' u. FreesQueue eq s s') (eq_free_fault eq s.eqs s.indices s.mds) s (record s { eqs = without eq s.eqs }) tt
    (λ none. record { loses = loses_without eq s.eqs; keeps = keeps_self s })

-- ---- memory descriptors

pub md_bind_creates : (slot : ℕ) (md : Descriptor) (s : State) → Alters (CreatesBound slot s) s (md_bind slot md s)
md_bind_creates slot md s =
    ended_alters (CreatesBound slot s) (bind_fault md (length s.memory) s.cts s.eqs s.mds) s (with_bound slot md s)
    (handle slot s.mds.given) (λ none. record { named = refl; gains = gains_new slot (bound md) s.mds; keeps = keeps_self s })

pub md_release_frees : (md : Handle) (s : State) → Alters (λ s' u. FreesBound md s s') s (md_release md s)
md_release_frees md s =
    ended_alters (λ s' u. FreesBound md s s') (release_fault md s.mds s.pending) s (record s { mds = without md s.mds }) tt
    (λ none. record { loses = loses_without md s.mds; keeps = keeps_self s })

-- ---- match entries

-- a new entry is known by its handle
new_or_known : (new h : Handle) (known : Bool) → (same_handle new h || known) ≡ true → (known ≡ true) ⊎ (h ≡ new)
new_or_known new h known e =
    elim (same_handle new h) as (λ b. same_handle new h ≡ b → (b || known) ≡ true → (known ≡ true) ⊎ (h ≡ new)) [
      | true ↦ λ same is. inr (sym (same-is new h same))
      | false ↦ λ apart is. inl is
    ] refl e

appended_leaves : (slot : ℕ) (s : State) (p : Parts) (a : Appended) → AppendKeeps slot (parts_of s) p a →
    Appends slot s (with_parts p s) a
appended_leaves slot s p (IsLinked h) k =
    let l : LinksParts slot (parts_of s) p = k.1 in (
      k.0,
      record {
        rank = refl;
        ranks = refl;
        limits = refl;
        cts = l.cts;
        eqs = l.eqs;
        mds = lasts_self s.mds;
        entries = l.given;
        known = λ h is. new_or_known (handle slot s.entries_given) h (is_known h s) (l.known h is);
      },
    )
appended_leaves slot s p (Consumed u) k = parts_keep s p k

pub me_append_leaves : (slot pt : ℕ) (list : EntryList) (e : Entry) (s : State) →
    Alters (Appends slot s) s (me_append slot pt list e s)
me_append_leaves slot pt list e s =
    let a = append slot pt list e (parts_of s) in
    ended_alters (Appends slot s) (append_fault pt e (parts_of s)) s (with_parts a.parts s) a.appended
    (λ none. appended_leaves slot s a.parts a.appended (append_keeps slot pt list e (parts_of s)))

pub me_search_keeps : (pt : ℕ) (e : Entry) (delete : Bool) (s : State) → Keeps s (me_search pt e delete s).state
me_search_keeps pt e delete s =
    let r = search pt e delete (parts_of s) in
    ended_keeps (search_fault pt (parts_of s)) s (with_parts r.parts s) r.found
    (parts_keep s r.parts (search_keeps pt e delete (parts_of s)))

unlinked_fewer : (me h : Handle) (is : List (Option Index)) → is_linked_anywhere h (map (unlinked_in me) is) ≡ true →
    is_linked_anywhere h is ≡ true
unlinked_fewer me h [] e = e
unlinked_fewer me h (None ∷ is) e = unlinked_fewer me h is e
unlinked_fewer me h (Some i ∷ is) e =
    let gone = λ (x : Linked). not (same_handle x.handle me) in
    either_more (is_linked h (unlinked me i.priority) || is_linked h (unlinked me i.overflow)) _
    (is_linked h i.priority || is_linked h i.overflow) _
    (either_more (is_linked h (unlinked me i.priority)) _ (is_linked h i.priority) _ (linked_filter gone h i.priority)
    (linked_filter gone h i.overflow)) (unlinked_fewer me h is) e

gone_list : (me : Handle) (xs : List Linked) → is_linked me (unlinked me xs) ≡ false
gone_list me [] = refl
gone_list me (x ∷ xs) =
    elim (same_handle x.handle me) as (λ b. same_handle x.handle me ≡ b →
    is_linked me (if not b then x ∷ unlinked me xs else unlinked me xs) ≡ false) [
      | true ↦ λ same. gone_list me xs
      | false ↦ λ apart. rw apart (gone_list me xs)
    ] refl

gone_everywhere : (me : Handle) (is : List (Option Index)) → is_linked_anywhere me (map (unlinked_in me) is) ≡ false
gone_everywhere me [] = refl
gone_everywhere me (None ∷ is) = gone_everywhere me is
gone_everywhere me (Some i ∷ is) = rw (gone_list me i.priority, gone_list me i.overflow) (gone_everywhere me is)

pub me_unlink_leaves : (me : Handle) (s : State) → Alters (λ s' u. Unlinks me s s') s (me_unlink me s)
me_unlink_leaves me s =
    ended_alters (λ s' u. Unlinks me s s') (unlink_fault me (side_of s)) s (record s { indices = map (unlinked_in me) s.indices }) tt
    (λ none. record {
      keeps = indices_keep s (map (unlinked_in me) s.indices) (λ h. unlinked_fewer me h s.indices);
      gone =
          rw (gone_everywhere me s.indices)
          (not-false (names_entry me s.headers.unexpected) (need-test _ _ _ (need-later (is_linked_anywhere me s.indices) _ _ none)));
    })

pub me_unlink_keeps : (me : Handle) (s : State) → Keeps s (me_unlink me s).state
me_unlink_keeps me s =
    ended_keeps (unlink_fault me (side_of s)) s _ tt
    (indices_keep s (map (unlinked_in me) s.indices) (λ h. unlinked_fewer me h s.indices))

-- ---- operations

started_keeps : (s : State) (d : TriggeredOp) → Keeps s (with_home (started s.rank (home_of s) d).home s)
started_keeps s d = home_keeps s (started s.rank (home_of s) d).home (lasts_started s.rank (home_of s) d)

pub start_keeps : (d : TriggeredOp) (s : State) → Keeps s (start d s).state
start_keeps d s = ended_keeps (action_fault d s.mds) s _ _ (started_keeps s d)

pub triggered_keeps : (d : TriggeredOp) (ct : Handle) (threshold : ℕ) (s : State) → Keeps s (triggered d ct threshold s).state
triggered_keeps d ct threshold s =
    ended_keeps (triggered_fault d ct s.cts s.mds s.pending) s (with_operation d ct threshold s) s.pending.given
    (operations_keep s (with_operation d ct threshold s).pending)

done_keeps : (s : State) (d : TriggeredOp) → Keeps s (done s d).state
done_keeps s (Inc ct by) = counts_keep s _ (lasts_counted (Some ct) by s.cts)
done_keeps s (Set ct to) = counts_keep s _ (lasts_changed ct (λ (c : Count). to) s.cts)
done_keeps s (Put a) = started_keeps s (Put a)
done_keeps s (Get g) = started_keeps s (Get g)
done_keeps s (Atomic a op ty) = started_keeps s (Atomic a op ty)
done_keeps s (FetchAtomic g a op ty) = started_keeps s (FetchAtomic g a op ty)
done_keeps s (Swap g a op ty operand) = started_keeps s (Swap g a op ty operand)

fired_op_keeps : (s : State) (o : Option Posted) → Keeps s (fired_op s o).state
fired_op_keeps s None = keeps_self s
fired_op_keeps s (Some p) =
    let left : State = record s { pending = without_number p.number s.pending } in
    keeps_twice s left (done left p.action).state (operations_keep s left.pending) (done_keeps left p.action)

pub fired_keeps : (s : State) (t : ℕ) → Keeps s (fired s t).state
unfolding fired
fired_keeps s t = fired_op_keeps s (posted_at t s.pending)

-- ---- a message comes

pub target_keeps : (s : State) (m : Sent) → Keeps s (target s m).state
unfolding target
target_keeps s m =
    let home = answered (home_of s) m in
    let received = request (parts_of s) m in
    elim (is_answer m.header.kind) as (λ b. Keeps s (if b then after_answer s home else after_request s received).state) [
      | true ↦ outcome_keeps home.outcome s (with_home home.home s) (home_keeps s home.home (lasts_answered (home_of s) m))
      | false ↦
          outcome_keeps received.arrived.outcome s (with_parts received.parts s)
          (parts_keep s received.parts (request_keeps (parts_of s) m))
    ]
