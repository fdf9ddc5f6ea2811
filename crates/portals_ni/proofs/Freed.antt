-- What is freed is named by nothing, so what is named is still live.
use Rattle.std.proofs.Common.{◌≡◌, ◌||◌, true, false, List, [], ◌∷◌, Option, Some, None, is_some, refl, ap, ◌∙◌}
use Rattle.std.specs.Prelude.{All}
use Rattle.std.proofs.lemmas.List.Elements.{All-head, All-tail, All-cons, All-nil}
use Rattle.ptl_types.specs.declared.handles.Handle.{Handle}
use Rattle.ptl_types.specs.declared.handles.Count.{Count}
use Rattle.ptl_types.specs.declared.calls.TriggeredOp.{TriggeredOp}
use Rattle.ptl_types.specs.declared.calls.TriggeredOp.TheVariants.{Put, Get, Atomic, FetchAtomic, Swap, Inc, Set}
use Rattle.ptl_types.specs.Handles.{same_handle}
use Rattle.ni_model.specs.declared.Bound.{Bound}
use Rattle.ni_model.specs.declared.Linked.{Linked}
use Rattle.ni_model.specs.Tables.{Live, Table, is_live, is_live_or_none, names, without}
use Rattle.ni_model.specs.Queues.{Waiting}
use Rattle.ni_model.specs.Lists.{Index}
use Rattle.ni_model.specs.State.{State, Posted}
use Rattle.ni_model.specs.Refusals.{entry_names_ct, index_names_ct, index_names_eq, md_names_ct, md_names_eq, action_names_ct}
use Rattle.ni_model.specs.Refusals.{operation_names_ct, counts_on_live, ct_free_fault, eq_free_fault}
use Rattle.ni_model.specs.Calls.{ct_free, eq_free}
use Rattle.portals_ni.specs.Lasting.{HasEntries, EntryIsLive, QueueIsLive, BoundIsLive, OperationIsLive}
use Rattle.portals_ni.specs.Sound.{Stands}
use Rattle.portals_ni.proofs.Counts.{lookup-without}
use Rattle.portals_ni.proofs.Homes.{neither}
use Rattle.initiator_engine.proofs.Starting.{need-test, need-later}
use Rattle.portals_ni.proofs.Kept.{not-false}
use Rattle.portals_ni.proofs.Steady.{sums-without}
use Rattle.portals_ni.proofs.Stands.{by-fault}

module _ {A : Type 0} where
  live-without : (k h : Handle) (t : Table A) → same_handle k h ≡ false → is_live k t ≡ true → is_live k (without h t) ≡ true
  live-without k h t apart is = ap is_some (lookup-without k h t.live apart) ∙ is

  none-without : (o : Option Handle) (h : Handle) (t : Table A) → names o h ≡ false → is_live_or_none o t ≡ true →
      is_live_or_none o (without h t) ≡ true
  none-without None h t apart is = refl
  none-without (Some k) h t apart is = live-without k h t apart is

-- ---- counting events

entries-without : (ct : Handle) (cts : Table Count) (xs : List Linked) → entry_names_ct ct xs ≡ false → All (EntryIsLive cts) xs →
    All (EntryIsLive (without ct cts)) xs
entries-without ct cts [] apart all = All-nil (EntryIsLive (without ct cts))
entries-without ct cts (x ∷ xs) apart all =
    let other = neither (names x.entry.ct ct) (entry_names_ct ct xs) apart in
    All-cons (EntryIsLive (without ct cts)) x xs (none-without x.entry.ct ct cts other.0 (All-head (EntryIsLive cts) x xs all))
    (entries-without ct cts xs other.1 (All-tail (EntryIsLive cts) x xs all))

indices-without : (ct : Handle) (cts : Table Count) (is : List (Option Index)) → index_names_ct ct is ≡ false →
    All (HasEntries (EntryIsLive cts)) is → All (HasEntries (EntryIsLive (without ct cts))) is
indices-without ct cts [] apart all = All-nil (HasEntries (EntryIsLive (without ct cts)))
indices-without ct cts (None ∷ is) apart all =
    All-cons (HasEntries (EntryIsLive (without ct cts))) None is tt
    (indices-without ct cts is apart (All-tail (HasEntries (EntryIsLive cts)) None is all))
indices-without ct cts (Some i ∷ is) apart all =
    let other = neither (entry_names_ct ct i.priority || entry_names_ct ct i.overflow) (index_names_ct ct is) apart in
    let lists = neither (entry_names_ct ct i.priority) (entry_names_ct ct i.overflow) other.0 in
    let has = All-head (HasEntries (EntryIsLive cts)) (Some i) is all in
    All-cons (HasEntries (EntryIsLive (without ct cts))) (Some i) is
    (entries-without ct cts i.priority lists.0 has.0, entries-without ct cts i.overflow lists.1 has.1)
    (indices-without ct cts is other.1 (All-tail (HasEntries (EntryIsLive cts)) (Some i) is all))

bounds-without : (ct : Handle) (cts : Table Count) (eqs : Table Waiting) (xs : List (Live Bound)) → md_names_ct ct xs ≡ false →
    All (BoundIsLive cts eqs) xs → All (BoundIsLive (without ct cts) eqs) xs
bounds-without ct cts eqs [] apart all = All-nil (BoundIsLive (without ct cts) eqs)
bounds-without ct cts eqs (x ∷ xs) apart all =
    let other = neither (names x.value.md.ct ct) (md_names_ct ct xs) apart in
    let live = All-head (BoundIsLive cts eqs) x xs all in
    All-cons (BoundIsLive (without ct cts) eqs) x xs (none-without x.value.md.ct ct cts other.0 live.0, live.1)
    (bounds-without ct cts eqs xs other.1 (All-tail (BoundIsLive cts eqs) x xs all))

action-without : (d : TriggeredOp) (ct : Handle) (cts : Table Count) → action_names_ct ct d ≡ false → counts_on_live d cts ≡ true →
    counts_on_live d (without ct cts) ≡ true
action-without (Put a) ct cts apart is = refl
action-without (Get g) ct cts apart is = refl
action-without (Atomic a op ty) ct cts apart is = refl
action-without (FetchAtomic g a op ty) ct cts apart is = refl
action-without (Swap g a op ty operand) ct cts apart is = refl
action-without (Inc h by) ct cts apart is = live-without h ct cts apart is
action-without (Set h to) ct cts apart is = live-without h ct cts apart is

operations-without : (ct : Handle) (cts : Table Count) (ps : List Posted) → operation_names_ct ct ps ≡ false →
    All (OperationIsLive cts) ps → All (OperationIsLive (without ct cts)) ps
operations-without ct cts [] apart all = All-nil (OperationIsLive (without ct cts))
operations-without ct cts (p ∷ ps) apart all =
    let other = neither (same_handle p.ct ct || action_names_ct ct p.action) (operation_names_ct ct ps) apart in
    let both = neither (same_handle p.ct ct) (action_names_ct ct p.action) other.0 in
    let live = All-head (OperationIsLive cts) p ps all in
    All-cons (OperationIsLive (without ct cts)) p ps (live-without p.ct ct cts both.0 live.0, action-without p.action ct cts both.1 live.1)
    (operations-without ct cts ps other.1 (All-tail (OperationIsLive cts) p ps all))

ct-freed : (ct : Handle) (s : State) → ct_free_fault ct s.cts s.indices s.mds s.pending ≡ None → Stands s →
    Stands (record s { cts = without ct s.cts })
ct-freed ct s none is =
    let named = not-false (md_names_ct ct s.mds.live || (index_names_ct ct s.indices || operation_names_ct ct s.pending.waiting))
    (need-test _ _ _ (need-later _ _ _ none)) in
    let apart = neither (md_names_ct ct s.mds.live) (index_names_ct ct s.indices || operation_names_ct ct s.pending.waiting) named in
    let others = neither (index_names_ct ct s.indices) (operation_names_ct ct s.pending.waiting) apart.1 in
    record {
      limits = record {
        indices = is.limits.indices;
        headers = is.limits.headers;
        counting_events = is.limits.counting_events;
        queues = is.limits.queues;
        descriptors = is.limits.descriptors;
        operations = is.limits.operations;
      };
      sums = sums-without ct s.cts is.sums;
      names = record {
        entries = indices-without ct s.cts s.indices others.0 is.names.entries;
        indices = is.names.indices;
        descriptors = bounds-without ct s.cts s.eqs s.mds.live apart.0 is.names.descriptors;
        operations = operations-without ct s.cts s.pending.waiting others.1 is.names.operations;
      };
    }

pub ct_free-stands : (ct : Handle) (s : State) → Stands s → Stands (ct_free ct s).state
ct_free-stands ct s is = by-fault Stands (ct_free_fault ct s.cts s.indices s.mds s.pending) s (record s { cts = without ct s.cts }) tt is
    (λ none. ct-freed ct s none is)

-- ---- event queues

queues-without : (eq : Handle) (eqs : Table Waiting) (is : List (Option Index)) → index_names_eq eq is ≡ false →
    All (QueueIsLive eqs) is → All (QueueIsLive (without eq eqs)) is
queues-without eq eqs [] apart all = All-nil (QueueIsLive (without eq eqs))
queues-without eq eqs (None ∷ is) apart all = All-cons (QueueIsLive (without eq eqs)) None is refl
    (queues-without eq eqs is apart (All-tail (QueueIsLive eqs) None is all))
queues-without eq eqs (Some i ∷ is) apart all =
    let other = neither (names i.eq eq) (index_names_eq eq is) apart in
    All-cons (QueueIsLive (without eq eqs)) (Some i) is (none-without i.eq eq eqs other.0 (All-head (QueueIsLive eqs) (Some i) is all))
    (queues-without eq eqs is other.1 (All-tail (QueueIsLive eqs) (Some i) is all))

queued-without : (eq : Handle) (cts : Table Count) (eqs : Table Waiting) (xs : List (Live Bound)) → md_names_eq eq xs ≡ false →
    All (BoundIsLive cts eqs) xs → All (BoundIsLive cts (without eq eqs)) xs
queued-without eq cts eqs [] apart all = All-nil (BoundIsLive cts (without eq eqs))
queued-without eq cts eqs (x ∷ xs) apart all =
    let other = neither (names x.value.md.eq eq) (md_names_eq eq xs) apart in
    let live = All-head (BoundIsLive cts eqs) x xs all in
    All-cons (BoundIsLive cts (without eq eqs)) x xs (live.0, none-without x.value.md.eq eq eqs other.0 live.1)
    (queued-without eq cts eqs xs other.1 (All-tail (BoundIsLive cts eqs) x xs all))

eq-freed : (eq : Handle) (s : State) → eq_free_fault eq s.eqs s.indices s.mds ≡ None → Stands s →
    Stands (record s { eqs = without eq s.eqs })
eq-freed eq s none is =
    let named = not-false (index_names_eq eq s.indices || md_names_eq eq s.mds.live) (need-test _ _ _ (need-later _ _ _ none)) in
    let apart = neither (index_names_eq eq s.indices) (md_names_eq eq s.mds.live) named in
    record {
      limits = record {
        indices = is.limits.indices;
        headers = is.limits.headers;
        counting_events = is.limits.counting_events;
        queues = is.limits.queues;
        descriptors = is.limits.descriptors;
        operations = is.limits.operations;
      };
      sums = is.sums;
      names = record {
        entries = is.names.entries;
        indices = queues-without eq s.eqs s.indices apart.0 is.names.indices;
        descriptors = queued-without eq s.cts s.eqs s.mds.live apart.1 is.names.descriptors;
        operations = is.names.operations;
      };
    }

pub eq_free-stands : (eq : Handle) (s : State) → Stands s → Stands (eq_free eq s).state
eq_free-stands eq s is = by-fault Stands (eq_free_fault eq s.eqs s.indices s.mds) s (record s { eqs = without eq s.eqs }) tt is
    (λ none. eq-freed eq s none is)
