-- What is named is live, and no two live things share a slot: so whatever is named with the slot of a live thing is that thing.
use Rattle.std.proofs.Common.{◌≡◌, ℕ, ◌&&◌, Bool, true, false, List, [], ◌∷◌, Option, Some, None, is_some, map, refl}
use Rattle.std.specs.Prelude.{All}
use Rattle.std.proofs.lemmas.List.Elements.{All-weaker, All-head, All-tail, All-cons, All-nil}
use Rattle.ptl_types.specs.declared.handles.Handle.{Handle}
use Rattle.ptl_types.specs.declared.handles.Count.{Count}
use Rattle.ptl_types.specs.declared.calls.TriggeredOp.{TriggeredOp}
use Rattle.ptl_types.specs.declared.calls.TriggeredOp.TheVariants.{Put, Get, Atomic, FetchAtomic, Swap, Inc, Set}
use Rattle.ni_model.specs.declared.Bound.{Bound}
use Rattle.ni_model.specs.declared.Linked.{Linked}
use Rattle.ni_model.specs.Tables.{Live, Table, lookup, is_live_or_none}
use Rattle.ni_model.specs.Refusals.{holds_part, put_fits, get_fits, action_fits, counts_on_live}
use Rattle.triggered_ops.specs.Operations.{Operation, posted}
use Rattle.ni_model.specs.Queues.{Waiting}
use Rattle.ni_model.specs.Lists.{Index, queue_of}
use Rattle.ni_objects.specs.users.Rows.{IsAlone, HasOwnSlot}
use Rattle.ni_objects.proofs.users.SlotLemmas.{named-alone}
use Rattle.target_engine.specs.Sides.{EntriesAlone}
use Rattle.ptl_types.specs.declared.calls.Limits.{Limits}
use Rattle.portals_ni.specs.declared.posted_op.PostedOp.{PostedOp}
use Rattle.portals_ni.specs.Answers.{action_counter}
use Rattle.portals_ni.specs.Lasting.{HasEntries, EntryIsLive, QueueIsLive, BoundIsLive, OperationIsLive}
use Rattle.portals_ni.specs.Pendings.{action_in}
use Rattle.portals_ni.specs.Sound.{IsArmed}
use Rattle.portals_ni.specs.Uses.{put_md, get_md, CtsAlone, MdsAlone}

entries-alone : (ct : Handle) (cts : Table Count) → HasOwnSlot ct cts → (o : Option Index) → HasEntries (EntryIsLive cts) o →
    EntriesAlone ct o
entries-alone ct cts own None live = tt
entries-alone ct cts own (Some i) live =
    let each = λ (x : Linked) (is : EntryIsLive cts x). named-alone ct x.entry.ct cts own is in (
      All-weaker (EntryIsLive cts) (λ (x : Linked). IsAlone ct x.entry.ct) each i.priority live.0,
      All-weaker (EntryIsLive cts) (λ (x : Linked). IsAlone ct x.entry.ct) each i.overflow live.1,
    )

pub indices-alone : (ct : Handle) (cts : Table Count) (is : List (Option Index)) → HasOwnSlot ct cts →
    All (HasEntries (EntryIsLive cts)) is → All (EntriesAlone ct) is
indices-alone ct cts is own live = All-weaker (HasEntries (EntryIsLive cts)) (EntriesAlone ct) (entries-alone ct cts own) is live

pub queues-alone : (eq : Handle) (eqs : Table Waiting) (is : List (Option Index)) → HasOwnSlot eq eqs → All (QueueIsLive eqs) is →
    All (λ (o : Option Index). IsAlone eq (queue_of o)) is
queues-alone eq eqs is own live = All-weaker (QueueIsLive eqs) (λ (o : Option Index). IsAlone eq (queue_of o))
    (λ o e. named-alone eq (queue_of o) eqs own e) is live

pub bound-cts-alone : (ct : Handle) (cts : Table Count) (eqs : Table Waiting) (xs : List (Live Bound)) → HasOwnSlot ct cts →
    All (BoundIsLive cts eqs) xs → All (λ (x : Live Bound). IsAlone ct x.value.md.ct) xs
bound-cts-alone ct cts eqs xs own live = All-weaker (BoundIsLive cts eqs) (λ (x : Live Bound). IsAlone ct x.value.md.ct)
    (λ x e. named-alone ct x.value.md.ct cts own e.0) xs live

pub bound-eqs-alone : (eq : Handle) (cts : Table Count) (eqs : Table Waiting) (xs : List (Live Bound)) → HasOwnSlot eq eqs →
    All (BoundIsLive cts eqs) xs → All (λ (x : Live Bound). IsAlone eq x.value.md.eq) xs
bound-eqs-alone eq cts eqs xs own live = All-weaker (BoundIsLive cts eqs) (λ (x : Live Bound). IsAlone eq x.value.md.eq)
    (λ x e. named-alone eq x.value.md.eq eqs own e.1) xs live

-- ---- pending operations

counter-live : (d : TriggeredOp) (cts : Table Count) → counts_on_live d cts ≡ true → is_live_or_none (action_counter d) cts ≡ true
counter-live (Put a) cts e = refl
counter-live (Get g) cts e = refl
counter-live (Atomic a op ty) cts e = refl
counter-live (FetchAtomic g a op ty) cts e = refl
counter-live (Swap g a op ty operand) cts e = refl
counter-live (Inc h by) cts e = e
counter-live (Set h to) cts e = e

pub operation-cts-alone : (ct : Handle) (cts : Table Count) (ws : List (Operation PostedOp)) → HasOwnSlot ct cts →
    All (OperationIsLive cts) (map (posted action_in) ws) → All (CtsAlone ct) ws
operation-cts-alone ct cts [] own all = All-nil (CtsAlone ct)
operation-cts-alone ct cts (w ∷ ws) own all =
    let live = All-head (OperationIsLive cts) (posted action_in w) (map (posted action_in) ws) all in
    All-cons (CtsAlone ct) w ws (
      named-alone ct (Some w.ct) cts own live.0,
      named-alone ct (action_counter w.action.action) cts own
          (counter-live w.action.action cts live.1),
    )
    (operation-cts-alone ct cts ws own (All-tail (OperationIsLive cts) (posted action_in w) (map (posted action_in) ws) all))

holds-live : (o : Option Bound) (at n : ℕ) → holds_part o at n ≡ true → is_some o ≡ true
holds-live None at n e = cc
holds-live (Some b) at n e = refl

both-true : (a b : Bool) → (a && b) ≡ true → (a ≡ true) × (b ≡ true)
both-true true b e = (refl, e)
both-true false b e = cc

put-live : (d : TriggeredOp) (mds : Table Bound) → action_fits d mds ≡ true → is_live_or_none (put_md d) mds ≡ true
put-live (Put a) mds e = holds-live (lookup a.md mds.live) a.local_offset a.length e
put-live (Get g) mds e = refl
put-live (Atomic a op ty) mds e = holds-live (lookup a.md mds.live) a.local_offset a.length e
put-live (FetchAtomic g a op ty) mds e = holds-live (lookup a.md mds.live) a.local_offset a.length
    (both-true (get_fits g mds) (put_fits a mds) e).1
put-live (Swap g a op ty operand) mds e = holds-live (lookup a.md mds.live) a.local_offset a.length
    (both-true (get_fits g mds) (put_fits a mds) e).1
put-live (Inc h by) mds e = refl
put-live (Set h to) mds e = refl

get-live : (d : TriggeredOp) (mds : Table Bound) → action_fits d mds ≡ true → is_live_or_none (get_md d) mds ≡ true
get-live (Put a) mds e = refl
get-live (Get g) mds e = holds-live (lookup g.md mds.live) g.local_offset g.length e
get-live (Atomic a op ty) mds e = refl
get-live (FetchAtomic g a op ty) mds e = holds-live (lookup g.md mds.live) g.local_offset g.length
    (both-true (get_fits g mds) (put_fits a mds) e).0
get-live (Swap g a op ty operand) mds e = holds-live (lookup g.md mds.live) g.local_offset g.length
    (both-true (get_fits g mds) (put_fits a mds) e).0
get-live (Inc h by) mds e = refl
get-live (Set h to) mds e = refl

pub operation-mds-alone : (md : Handle) (mds : Table Bound) (ranks : ℕ) (limits : Limits) (ws : List (Operation PostedOp)) →
    HasOwnSlot md mds → All (λ (w : Operation PostedOp). IsArmed mds ranks limits w.action) ws → All (MdsAlone md) ws
operation-mds-alone md mds ranks limits ws own all =
    All-weaker (λ (w : Operation PostedOp). IsArmed mds ranks limits w.action) (MdsAlone md)
    (λ w armed. (
      named-alone md (get_md w.action.action) mds own (get-live w.action.action mds armed.fits),
      named-alone md (put_md w.action.action) mds own (put-live w.action.action mds armed.fits),
    )) ws all
