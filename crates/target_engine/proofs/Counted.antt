-- The rows of counts through each call: what linked entries and indices name, and where headers wait.
use Rattle.std.proofs.Common.{◌≡◌, ℕ, zero, suc, ◌+◌, ◌-◌, ◌<◌, ◌≤◌, ◌^◌, Bool, true, false, ◌&&◌, List, [], ◌∷◌, ◌++◌, Option, Some, None}
use Rattle.std.proofs.Common.{length, take, drop, get_or, set, if◌then◌else◌, nat_lt, zero-add, refl, sym, ap, subst, ◌∙◌, arith, replicate}
use Rattle.std.specs.Prelude.{All, IfSome, slice_set, slice_get, is_some}
use Rattle.std.proofs.Math.Seq.{take-append_seam}
use Rattle.std.proofs.lemmas.Option.{get_or_from_slice_get, slice_get_within}
use Rattle.std.proofs.lemmas.List.{length-set, length-map}
use Rattle.std.proofs.lemmas.List.Elements.{All-head, All-tail}
use Rattle.std.proofs.lemmas.List.Sums.{sum_by-cons, sum_by-set}
use Rattle.ptl_types.specs.declared.handles.Handle.{Handle}
use Rattle.ptl_types.specs.declared.headers.Header.{Header}
use Rattle.ptl_types.specs.declared.entries.List.{List as EntryList}
use Rattle.ptl_types.specs.declared.entries.List.TheVariants.{Priority, Overflow}
use Rattle.ni_model.specs.declared.Linked.{Linked}
use Rattle.ni_model.specs.declared.Found.{Found}
use Rattle.ni_model.specs.declared.IndexedHeader.{IndexedHeader}
use Rattle.ni_model.specs.Tables.{Live, Table, lookup, handle, with_new, no_things}
use Rattle.ni_model.specs.Lists.{Index, index_at, queue_of, with_list}
use Rattle.ni_model.specs.Arrive.{is_over, entries_after, updated_at, indices_after, headers_after, delivered, place}
use Rattle.ni_model.specs.Append.{linked_at}
use Rattle.ni_model.specs.Calls.{new_index, unlinked_in}
use Rattle.ni_model.specs.Headers.{UnexpectedList, unexpected_list, is_of, headers_of}
use Rattle.ni_model.specs.Refusals.{entry_names_ct, index_names_ct, index_names_eq}
use Rattle.ni_objects.specs.users.Rows.{count_at, one_if_slot, one_at, incremented, more, fewer, Counts, IsAlone}
use Rattle.ni_objects.specs.users.Sums.{sum_of, named_as}
use Rattle.ni_objects.proofs.users.RowLemmas.{counts-none, counts-same, counts-incremented, counts-decremented, counts-more, counts-fewer}
use Rattle.ni_objects.proofs.users.RowLemmas.{counts-at_most, add-room, one-at_most, names-step}
use Rattle.ni_objects.proofs.users.SumLemmas.{one_if, sum-split, sum-push, sum-at_most}
use Rattle.target_engine.specs.declared.index.Index.{Index as PortalEntry}
use Rattle.target_engine.specs.declared.entry_records.EntryRecord.{EntryRecord}
use Rattle.target_engine.specs.declared.entry_records.Records.{Records}
use Rattle.target_engine.specs.PortalTable.{seen, seen_in, linked_as, linked_by, entries_by, headers_by, is_at, counts_at, ct_users}
use Rattle.target_engine.specs.PortalTable.{eq_users, waiting_at, linked_ct, not_linked, one_more, one_fewer, changed_by, recorded_by}
use Rattle.target_engine.specs.PortalTable.{recorded_anew, all_with_header, without_header, linked_records, unlinked_records, records_after}
use Rattle.target_engine.specs.PortalTable.{AreRecorded, AreCounted, IsKept, IsWhole}
use Rattle.target_engine.specs.Sides.{EntriesAlone}
use Rattle.target_engine.proofs.Headers.{unexpected-at_most, unexpected-append, unexpected-of}
use Rattle.target_engine.proofs.Counting.{or-sum}
use Rattle.target_engine.proofs.Records.{sum-anew}
use Rattle.target_engine.proofs.Recorded.{fits-linked, fresh_at, HasOneOf, recorded-at_most, some-below, some-index}

-- ---- counting events, by the records of the entries

-- no two records have one handle
abbrev pub AreOnce : Table EntryRecord → Type 0
AreOnce t = (h : Handle) → sum_of (named_as h) t.live ≤ 1

-- a record is put in the place of the old one
ct-anew : (k : ℕ) (me : Handle) (w v : EntryRecord) (t : Table EntryRecord) → AreOnce t → lookup me t.live ≡ Some w →
    ct_users (recorded_anew me v t) k + linked_as (counts_at k) me w ≡ ct_users t k + linked_as (counts_at k) me v
ct-anew k me w v t once at =
    let s = rw at at (sum-split me (linked_as (counts_at k)) t.live (once me)) in
    let n = sum-anew me (linked_as (counts_at k)) t w v (once me) at (fits-linked (counts_at k) me v) in
    omega (arith, s, n)

-- a change that leaves whether the entry is linked and what it names
ct-by : (k : ℕ) (me : Handle) (f : EntryRecord → EntryRecord) (o : Option EntryRecord) (t : Table EntryRecord) → AreOnce t →
    lookup me t.live ≡ o → ((v : EntryRecord) → linked_as (counts_at k) me (f v) ≡ linked_as (counts_at k) me v) →
    ct_users (changed_by me f o t) k ≡ ct_users t k
ct-by k me f None t once at same = refl
ct-by k me f (Some w) t once at same = omega (arith, ct-anew k me w (f w) t once at, same w)

pub ct-more : (k : ℕ) (me : Handle) (t : Table EntryRecord) → AreOnce t → ct_users (recorded_by me one_more t) k ≡ ct_users t k
ct-more k me t once = ct-by k me one_more (lookup me t.live) t once refl (λ v. refl)

pub ct-less : (k : ℕ) (me : Handle) (t : Table EntryRecord) → AreOnce t → ct_users (recorded_by me one_fewer t) k ≡ ct_users t k
ct-less k me t once = ct-by k me one_fewer (lookup me t.live) t once refl (λ v. refl)

at-linked : (b : Bool) (ct : Option Handle) (k : ℕ) → (if b && is_at k ct then 1 else 0) ≡ one_at (if b then ct else None) k
at-linked true None k = refl
at-linked true (Some h) k = refl
at-linked false ct k = refl

-- an entry isn't linked any more
off-by : (k : ℕ) (me : Handle) (o : Option EntryRecord) (t : Table EntryRecord) → AreOnce t → lookup me t.live ≡ o →
    ct_users t k ≡ ct_users (changed_by me not_linked o t) k + one_at (linked_ct o) k
off-by k me None t once at = omega arith
off-by k me (Some w) t once at =
    let none : linked_as (counts_at k) me (not_linked w) ≡ 0 = refl in
    omega (arith, ct-anew k me w (not_linked w) t once at, at-linked w.linked w.ct k, none)

pub ct-off : (k : ℕ) (me : Handle) (t : Table EntryRecord) → AreOnce t → ct_users t k ≡ ct_users (recorded_by me not_linked t) k + one_at
    (linked_ct (lookup me t.live)) k
ct-off k me t once = off-by k me (lookup me t.live) t once refl

-- an entry is linked
pub ct-new : (k slot pt : ℕ) (ct : Option Handle) (t : Table EntryRecord) → ct_users (with_new slot (fresh_at pt ct) t) k ≡ ct_users t k
    + one_at ct k
ct-new k slot pt ct t =
    let x : Live EntryRecord = record { handle = handle slot t.given; value = fresh_at pt ct } in
    omega (arith, sum-push (linked_as (counts_at k)) t.live x, at-linked true ct k)

-- ---- event queues, by the indices

abbrev by_queue : ℕ → Option Index → ℕ
by_queue k o = one_at (queue_of o) k

pub eq-same : (k d : ℕ) (is : List (Option Index)) (o : Option Index) → queue_of o ≡ queue_of (get_or is d None) →
    eq_users (set is d o) k ≡ eq_users is k
eq-same k d [] o e = refl
eq-same k zero (x ∷ is) o e = omega (arith, sum_by-cons (by_queue k) o is, sum_by-cons (by_queue k) x is, ap (λ q. one_at q k) e)
eq-same k (suc d) (x ∷ is) o e = omega (arith, sum_by-cons (by_queue k) x (set is d o), sum_by-cons (by_queue k) x is, eq-same k d is o e)

pub eq-set : (k d : ℕ) (is : List (Option Index)) (o : Option Index) → d < length is →
    eq_users (set is d o) k + one_at (queue_of (get_or is d None)) k ≡ eq_users is k + one_at (queue_of o) k
eq-set k d is o lt = sum_by-set (by_queue k) is d o None lt

-- ---- headers, by the index

pub waiting-push : (k : ℕ) (a : IndexedHeader) (hs : List IndexedHeader) → waiting_at (hs ++ a ∷ []) k ≡ waiting_at hs k + one_if_slot
    a.pt k
waiting-push k a hs = omega (arith, unexpected-append (is_of k) hs (a ∷ []))

pub waiting-less : (k : ℕ) (a : IndexedHeader) (hs left : List IndexedHeader) → HasOneOf a hs left →
    waiting_at hs k ≡ waiting_at left k + one_if_slot a.pt k
waiting-less k a hs left one = omega (arith, one (is_of k))

-- ---- the rows of the records through each call

pub counted-none : (limit a n : ℕ) → AreCounted [] (record { by_entry = no_things limit; cts = replicate a 0; waiting = replicate n 0 })
counted-none limit a n = record {
  cts = counts-none (ct_users (no_things limit)) a (λ k. refl);
  waiting = counts-none (waiting_at []) n (λ k. refl);
}

-- a header comes
counted-more : (a : IndexedHeader) (hs : List IndexedHeader) (r : Records) → AreCounted hs r → AreOnce r.by_entry
    → AreCounted (hs ++ a ∷ []) (record r {
      by_entry = recorded_by a.header.entry one_more r.by_entry;
      waiting =
          incremented a.pt r.waiting;
    })
counted-more a hs r u once = record {
  cts = counts-same (ct_users r.by_entry) (ct_users (recorded_by a.header.entry one_more r.by_entry)) r.cts u.cts
      (λ k. ct-more k a.header.entry r.by_entry once);
  waiting = counts-incremented (waiting_at hs) (waiting_at (hs ++ a ∷ [])) r.waiting u.waiting a.pt (λ k. waiting-push k a hs);
}

pub counted-unexpected : (f : Found) (h : Header) (hs : UnexpectedList) (r : Records) → AreCounted hs.unexpected r → AreOnce r.by_entry →
    AreCounted (headers_after f h hs).unexpected (all_with_header f h r)
counted-unexpected f h hs r u once =
    let me : Handle = f.linked.handle in
    let a : IndexedHeader = record {
      pt = h.pt;
      header = record {
        entry = me;
        place = place f.linked h;
        delivered =
            delivered f.linked h;
        header = h;
      };
      hidden = f.linked.entry.hidden;
    } in
    elim f.list as (λ l. AreCounted (elim l as (λ _. UnexpectedList)
    [ Priority ↦ hs | Overflow ↦ unexpected_list (hs.unexpected ++ a ∷ []) hs.limit ]).unexpected
    (record r {
      by_entry = elim l [ Priority ↦ r.by_entry | Overflow ↦ recorded_by me one_more r.by_entry ];
      waiting =
          elim l [ Priority ↦ r.waiting | Overflow ↦ incremented h.pt r.waiting ];
    })) [
      | Priority ↦ u
      | Overflow ↦ counted-more a hs.unexpected r u once
    ]

pub long-unexpected : (f : Found) (h : Header) (r : Records) → length (all_with_header f h r).waiting ≡ length r.waiting
long-unexpected f h r =
    elim f.list as (λ l. length {A = ℕ} (elim l [ Priority ↦ r.waiting | Overflow ↦ incremented h.pt r.waiting ]) ≡ length r.waiting) [
      | Priority ↦ refl
      | Overflow ↦ length-set r.waiting h.pt (count_at h.pt r.waiting + 1)
    ]

-- there is room to count it
pub counted-index : (pt limit : ℕ) (hs : List IndexedHeader) (r : Records) → AreCounted hs r → length hs ≤ limit → limit < 2 ^ 32 →
    count_at pt r.waiting < 2 ^ 64 - 1
counted-index pt limit hs r u le small = omega (
  arith,
  counts-at_most (waiting_at hs) (length hs) pt r.waiting u.waiting
      (unexpected-at_most (is_of pt) hs),
)

-- a header goes
pub counted-gone : (a : IndexedHeader) (hs left : List IndexedHeader) (r : Records) → AreCounted hs r → AreOnce r.by_entry →
    HasOneOf a hs left → AreCounted left (without_header a r)
counted-gone a hs left r u once one = record {
  cts = counts-same (ct_users r.by_entry) (ct_users (recorded_by a.header.entry one_fewer r.by_entry)) r.cts u.cts
      (λ k. ct-less k a.header.entry r.by_entry once);
  waiting = counts-decremented (waiting_at hs) (waiting_at left) r.waiting u.waiting a.pt (λ k. waiting-less k a hs left one);
}

-- the row stays as long
pub long-gone : (a : IndexedHeader) (r : Records) → length (without_header a r).waiting ≡ length r.waiting
long-gone a r = length-set r.waiting a.pt (count_at a.pt r.waiting - 1)

pub long-taken : (left found : List IndexedHeader) (x : IndexedHeader) (r u : Records) → AreCounted (left ++ x ∷ found) r →
    u ≡ without_header x r → length u.waiting ≡ length r.waiting
long-taken left found x r u counted e = ap (λ (s : Records). length s.waiting) e ∙ long-gone x r

-- the rows count as many where as many headers wait at each index
pub counted-same : (hs gs : List IndexedHeader) (r : Records) → AreCounted hs r →
    ((p : IndexedHeader → Bool) → headers_by p gs ≡ headers_by p hs) → AreCounted gs r
counted-same hs gs r u e = record {
  cts = u.cts;
  waiting = counts-same (waiting_at hs) (waiting_at gs) r.waiting u.waiting (λ k. e (is_of k));
}

-- an entry is linked
pub counted-linked : (slot pt : ℕ) (ct : Option Handle) (hs : List IndexedHeader) (r : Records) → AreCounted hs r →
    AreCounted hs (linked_records slot (fresh_at pt ct) r)
counted-linked slot pt ct hs r u = record {
  cts = counts-more (ct_users r.by_entry) (ct_users (with_new slot (fresh_at pt ct) r.by_entry)) r.cts u.cts ct
      (λ k. ct-new k slot pt ct r.by_entry);
  waiting = u.waiting;
}

one-linked : (b : Bool) → one_if b ≤ 1
one-linked true = omega arith
one-linked false = omega arith

-- there is room to count its counting event
pub counted-room : (most linked : ℕ) (is : List PortalEntry) (hs : UnexpectedList) (r : Records) (ct : Option Handle) →
    IsKept most is linked r.by_entry hs → AreCounted hs.unexpected r → linked < 2 ^ 32
    → IfSome ct (λ h. count_at h.slot r.cts < 2 ^ 64 - 1)
counted-room most linked is hs r ct k u small =
    add-room (ct_users r.by_entry) (length r.by_entry.live) r.cts ct u.cts
    (λ s. sum-at_most (linked_as (counts_at s)) r.by_entry.live (λ h v. one-linked (v.linked && is_at s v.ct)))
    (omega (arith, recorded-at_most (seen_in is) hs.unexpected r.by_entry k.recorded, k.count, k.held, k.small))

-- an entry isn't linked any more
pub counted-unlinked : (me : Handle) (hs : List IndexedHeader) (r : Records) → AreCounted hs r → AreOnce r.by_entry →
    AreCounted hs (unlinked_records me r)
counted-unlinked me hs r u once = record {
  cts = counts-fewer (ct_users r.by_entry) (ct_users (recorded_by me not_linked r.by_entry)) r.cts u.cts
      (linked_ct (lookup me r.by_entry.live)) (λ k. ct-off k me r.by_entry once);
  waiting = u.waiting;
}

-- what becomes of the entry that took a message
pub counted-updated : (f : Found) (h : Header) (hs : List IndexedHeader) (r : Records) → AreCounted hs r → AreOnce r.by_entry →
    AreCounted hs (records_after f h r)
counted-updated f h hs r u once =
    let me : Handle = f.linked.handle in
    elim (is_over f.linked h) as (λ b. AreCounted hs (record r {
      by_entry = if b then recorded_by me not_linked r.by_entry else r.by_entry;
      cts =
          if b then fewer (linked_ct (lookup me r.by_entry.live)) r.cts else r.cts;
    })) [
      | true ↦ counted-unlinked me hs r u once
      | false ↦ u
    ]

-- ---- the row of the queues through each call

eq-nothing : (k n : ℕ) → eq_users (replicate n None) k ≡ 0
eq-nothing k zero = refl
eq-nothing k (suc n) = omega (arith, sum_by-cons (by_queue k) None (replicate n None), eq-nothing k n)

pub queues-none : (n slots : ℕ) → Counts (eq_users (replicate n None)) (replicate slots 0)
queues-none n slots = counts-none (eq_users (replicate n None)) slots (λ k. eq-nothing k n)

queue-list : (list : EntryList) (g : List Linked → List Linked) (i : Index) → (with_list list g i).eq ≡ i.eq
queue-list Priority g i = refl
queue-list Overflow g i = refl

queue-linked : (list : EntryList) (x : Linked) (o : Option Index) → queue_of (linked_at list x o) ≡ queue_of o
queue-linked list x None = refl
queue-linked list x (Some i) = queue-list list (λ xs. xs ++ x ∷ []) i

-- an index changes, and keeps its queue
queues-same : (pt : ℕ) (is : List (Option Index)) (o : Option Index) (e : List ℕ) → Counts (eq_users is) e →
    queue_of o ≡ queue_of (index_at pt is) → Counts (eq_users (slice_set is pt o)) e
queues-same pt is o e u same = counts-same (eq_users is) (eq_users (set is pt o)) e u (λ k. eq-same k pt is o same)

pub queues-linked : (pt : ℕ) (list : EntryList) (x : Linked) (is : List (Option Index)) (e : List ℕ) → Counts (eq_users is) e →
    Counts (eq_users (slice_set is pt (linked_at list x (index_at pt is)))) e
queues-linked pt list x is e u = queues-same pt is (linked_at list x (index_at pt is)) e u (queue-linked list x (index_at pt is))

queue-updated : (f : Found) (h : Header) (o : Option Index) → queue_of (updated_at f h o) ≡ queue_of o
queue-updated f h None = refl
queue-updated f h (Some i) = queue-list f.list (entries_after f.linked h) i

pub queues-updated : (f : Found) (h : Header) (is : List (Option Index)) (e : List ℕ) → Counts (eq_users is) e →
    Counts (eq_users (indices_after f h is)) e
queues-updated f h is e u = queues-same h.pt is (updated_at f h (index_at h.pt is)) e u (queue-updated f h (index_at h.pt is))

queue-unlinked : (me : Handle) (o : Option Index) → queue_of (unlinked_in me o) ≡ queue_of o
queue-unlinked me None = refl
queue-unlinked me (Some i) = refl

pub queues-unlinked : (me : Handle) (pt : ℕ) (is : List (Option Index)) (e : List ℕ) → Counts (eq_users is) e →
    Counts (eq_users (slice_set is pt (unlinked_in me (index_at pt is)))) e
queues-unlinked me pt is e u = queues-same pt is (unlinked_in me (index_at pt is)) e u (queue-unlinked me (index_at pt is))

-- an index comes and goes
pub queues-allocated : (pt : ℕ) (eq : Option Handle) (is : List (Option Index)) (e : List ℕ) → Counts (eq_users is) e → pt < length is →
    index_at pt is ≡ None → Counts (eq_users (slice_set is pt (Some (new_index eq)))) (more eq e)
queues-allocated pt eq is e u lt none =
    counts-more (eq_users is) (eq_users (set is pt (Some (new_index eq)))) e u eq
    (λ k. omega (arith, eq-set k pt is (Some (new_index eq)) lt, ap (λ (o : Option Index). one_at (queue_of o) k) none))

pub queues-freed : (pt : ℕ) (is : List (Option Index)) (e : List ℕ) → Counts (eq_users is) e → pt < length is →
    Counts (eq_users (slice_set is pt None)) (fewer (queue_of (index_at pt is)) e)
queues-freed pt is e u lt = counts-fewer (eq_users is) (eq_users (set is pt None)) e u (queue_of (get_or is pt None))
    (λ k. omega (arith, eq-set k pt is None lt))

eq-at_most : (k : ℕ) (is : List (Option Index)) → eq_users is k ≤ length is
eq-at_most k [] = omega arith
eq-at_most k (o ∷ is) = omega (arith, sum_by-cons (by_queue k) o is, one-at_most (queue_of o) k, eq-at_most k is)

-- there is room to count it
pub queues-room : (is : List PortalEntry) (e : List ℕ) (eq : Option Handle) → Counts (eq_users (seen_in is)) e → length is < 2 ^ 32 →
    IfSome eq (λ h. count_at h.slot e < 2 ^ 64 - 1)
queues-room is e eq u small = add-room (eq_users (seen_in is)) (length is) e eq u
    (λ k. omega (arith, eq-at_most k (seen_in is), length-map is seen)) (omega arith)

-- ---- what a target keeps, where its indices were lent and came back

pub whole-lent : (most n linked : ℕ) (is was new : List PortalEntry) (after : List (Option Index)) (r : Records) (hs : UnexpectedList)
    (e : List ℕ) → was ≡ is → length new ≡ length was → length new ≡ n
    → IsKept most (take n (new ++ drop (length new) is)) linked r.by_entry hs → AreCounted hs.unexpected r → seen_in new ≡ after →
    Counts (eq_users after) e → length r.waiting ≡ length is → length is < 2 ^ 32
    → IsWhole most (take n (new ++ drop (length new) is)) linked r hs e
whole-lent most n linked is was new after r hs e same stays len kept counted shown queues long small =
    let back : take n (new ++ drop (length new) is) ≡ new = rw (← len) (take-append_seam new (drop (length new) is)) in
    let many : length new ≡ length is = stays ∙ ap length same in
    record {
      kept = kept;
      counted = counted;
      queues = subst (λ (x : List PortalEntry). Counts (eq_users (seen_in x)) e) (sym back)
          (subst (λ (x : List (Option Index)). Counts (eq_users x) e) (sym shown) queues);
      long = long ∙ sym (ap length back ∙ many);
      small = subst (λ (x : List PortalEntry). length x < 2 ^ 32) (sym back) (omega (arith, many));
    }

-- ---- what is named is what is counted

entry-names : (ct : Handle) (k : ℕ) (xs : List Linked) → All (λ (x : Linked). IsAlone ct x.entry.ct) xs →
    entry_names_ct ct xs ≡ nat_lt 0 (entries_by (counts_at ct.slot) k xs)
entry-names ct k [] alone = refl
entry-names ct k (x ∷ xs) alone =
    names-step ct x.entry.ct (entry_names_ct ct xs) (entries_by (counts_at ct.slot) k xs)
    (All-head (λ (y : Linked). IsAlone ct y.entry.ct) x xs alone)
    (entry-names ct k xs (All-tail (λ (y : Linked). IsAlone ct y.entry.ct) x xs alone))
    ∙ ap (λ m. nat_lt 0 (m + entries_by (counts_at ct.slot) k xs)) (sym (at-linked true x.entry.ct ct.slot))

index-names : (ct : Handle) (k : ℕ) (is : List (Option Index)) → All (EntriesAlone ct) is →
    index_names_ct ct is ≡ nat_lt 0 (linked_by (counts_at ct.slot) k is)
index-names ct k [] alone = refl
index-names ct k (None ∷ is) alone = rw zero-add (index-names ct (k + 1) is (All-tail (EntriesAlone ct) None is alone))
index-names ct k (Some i ∷ is) alone =
    let here = All-head (EntriesAlone ct) (Some i) is alone in
    or-sum _ _ _ _ (or-sum _ _ _ _ (entry-names ct k i.priority here.0) (entry-names ct k i.overflow here.1))
    (index-names ct (k + 1) is (All-tail (EntriesAlone ct) (Some i) is alone))

pub names-ct : (ct : Handle) (n : ℕ) (is : List (Option Index)) (hs : List IndexedHeader) (r : Records) → AreRecorded is hs r.by_entry →
    AreCounted hs r → slice_get r.cts ct.slot ≡ Some n → All (EntriesAlone ct) is → nat_lt 0 n ≡ index_names_ct ct is
names-ct ct n is hs r a u at alone =
    let users : n ≡ ct_users r.by_entry ct.slot = sym (get_or_from_slice_get r.cts ct.slot n 0 at)
    ∙ u.cts ct.slot (slice_get_within r.cts ct.slot n at) in
    ap (λ m. nat_lt 0 m) users ∙ sym (index-names ct 0 is alone ∙ ap (λ m. nat_lt 0 m) (a.same (counts_at ct.slot)))

queue-names : (eq : Handle) (is : List (Option Index)) → All (λ (o : Option Index). IsAlone eq (queue_of o)) is →
    index_names_eq eq is ≡ nat_lt 0 (eq_users is eq.slot)
queue-names eq [] alone = refl
queue-names eq (None ∷ is) alone =
    let s : eq_users (None ∷ is) eq.slot ≡ eq_users is eq.slot = omega (arith, sum_by-cons (by_queue eq.slot) None is) in
    queue-names eq is (All-tail (λ (o : Option Index). IsAlone eq (queue_of o)) None is alone) ∙ ap (λ n. nat_lt 0 n) (sym s)
queue-names eq (Some i ∷ is) alone =
    names-step eq i.eq (index_names_eq eq is) (eq_users is eq.slot)
    (All-head (λ (o : Option Index). IsAlone eq (queue_of o)) (Some i) is alone)
    (queue-names eq is (All-tail (λ (o : Option Index). IsAlone eq (queue_of o)) (Some i) is alone))
    ∙ ap (λ n. nat_lt 0 n) (sym (sum_by-cons (by_queue eq.slot) (Some i) is))

pub names-eq : (eq : Handle) (n : ℕ) (is : List (Option Index)) (e : List ℕ) → Counts (eq_users is) e → slice_get e eq.slot ≡ Some n →
    All (λ (o : Option Index). IsAlone eq (queue_of o)) is → nat_lt 0 n ≡ index_names_eq eq is
names-eq eq n is e u at alone =
    let users : n ≡ eq_users is eq.slot = sym (get_or_from_slice_get e eq.slot n 0 at) ∙ u eq.slot (slice_get_within e eq.slot n at) in
    ap (λ m. nat_lt 0 m) users ∙ sym (queue-names eq is alone)

-- whether a header of the index waits
pub waits-at : (pt : ℕ) (hs : List IndexedHeader) (r : Records) → AreCounted hs r → pt < length r.waiting →
    nat_lt 0 (count_at pt r.waiting) ≡ nat_lt 0 (length (headers_of pt hs))
waits-at pt hs r u lt = ap (λ n. nat_lt 0 n) (u.waiting pt lt ∙ sym (unexpected-of pt hs))

pub some-within : (pt : ℕ) (is : List PortalEntry) (w : List ℕ) → is_some (index_at pt (seen_in is)) ≡ true → length w ≡ length is →
    pt < length w
some-within pt is w there long =
    let i = some-index (index_at pt (seen_in is)) there in
    omega (arith, some-below (seen_in is) pt i.0 i.1, length-map is seen)
