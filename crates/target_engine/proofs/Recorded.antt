-- The records and the linked entries and headers agree, before and after each call.
use Rattle.std.proofs.Common.{◌≡◌, ℕ, zero, suc, ◌+◌, ◌-◌, ◌<◌, ◌≤◌, Bool, true, false, not, ◌||◌, ◌&&◌, List, [], ◌∷◌, ◌++◌, Option, Some}
use Rattle.std.proofs.Common.{None, map, length, get_or, set, if◌then◌else◌, nat_lt, nat_le, nat_eq, refl, sym, ap, ◌∙◌, arith, replicate}
use Rattle.std.specs.Prelude.{sum_by, is_some, slice_set}
use Rattle.std.proofs.lemmas.Bool.Decides.{nat_tests}
use Rattle.ptl_types.specs.declared.handles.Handle.{Handle}
use Rattle.ptl_types.specs.declared.headers.Header.{Header}
use Rattle.ptl_types.specs.declared.entries.Entry.{Entry}
use Rattle.ptl_types.specs.declared.entries.List.{List as EntryList}
use Rattle.ptl_types.specs.declared.entries.List.TheVariants.{Priority, Overflow}
use Rattle.ptl_types.specs.Handles.{same_handle}
use Rattle.ni_model.specs.declared.Linked.{Linked}
use Rattle.ni_model.specs.declared.Found.{Found}
use Rattle.ni_model.specs.declared.IndexedHeader.{IndexedHeader}
use Rattle.ni_model.specs.Tables.{Live, Table, lookup, has_slot, handle, with_new, no_things}
use Rattle.ni_model.specs.Lists.{Index, index_at, entries_in, is_linked, is_linked_at, unlinked, advanced, with_list}
use Rattle.ni_model.specs.Headers.{names_entry}
use Rattle.ni_model.specs.Arrive.{is_over, running_after, entries_after, updated_at, indices_after}
use Rattle.ni_model.specs.Refusals.{is_linked_anywhere}
use Rattle.ni_model.specs.Append.{fresh, linked_at}
use Rattle.ni_model.specs.Calls.{entry_slot, header_slot, entry_taken, unlinked_in}
use Rattle.ni_objects.specs.users.Sums.{sum_of}
use Rattle.ni_objects.proofs.users.SumLemmas.{one_if, same-self, number_at, sum-split, but-zero, but-same, sum-push, once-new}
use Rattle.target_engine.specs.declared.entry_records.EntryRecord.{EntryRecord}
use Rattle.target_engine.specs.PortalTable.{entries_by, index_by, linked_by, headers_by, lies_in, linked_as, headers_as, idle_as, is_idle}
use Rattle.target_engine.specs.PortalTable.{is_on, where_on, headers_in, frees_at, one_more, one_fewer, not_linked, recorded_anew}
use Rattle.target_engine.specs.PortalTable.{changed_by, recorded_by, unlinked_after, linked_after, advanced_in, updated_in, AreRecorded}
use Rattle.target_engine.proofs.Counting.{any_handle, is_handle, is_slot, but, elsewhere, is_linked_anywhere-count, entry_slot-count}
use Rattle.target_engine.proofs.Counting.{linked-all, linked-unlinked, entries-push, entries-advanced, linked-set, linked-same}
use Rattle.target_engine.proofs.Counting.{linked-split, unlinked-none, advanced-none, map-at}
use Rattle.target_engine.proofs.Headers.{is_entry, is_at_slot, header_slot-count, names-count, unexpected-all, unexpected-append}
use Rattle.target_engine.proofs.Records.{sum-anew, named-anew, busy-anew}

-- ---- what the records tell of the entries and of the headers

-- of one entry
there-alone : (f : Handle → EntryRecord → ℕ) (me : Handle) (is : List (Option Index)) (hs : List IndexedHeader) (t : Table EntryRecord) →
    AreRecorded is hs t → ((h : Handle) (v : EntryRecord) → same_handle h me ≡ false → f h v ≡ 0) →
    sum_of f t.live ≡ number_at f me (lookup me t.live)
there-alone f me is hs t a none = omega (arith, sum-split me f t.live (a.once me), but-zero me f t.live none)

apart-linked : (b s : Bool) → s ≡ false → one_if (b && s) ≡ 0
apart-linked true s e = rw e refl
apart-linked false s e = refl

on-number : (me : Handle) (o : Option EntryRecord) → nat_lt 0 (number_at (linked_as (is_handle me)) me o) ≡ is_on o
on-number me None = refl
on-number me (Some v) = rw (same-self me) (elim v.linked as (λ b. nat_lt 0 (if b && true then 1 else 0) ≡ b) [ true ↦ refl | false ↦ refl ])

pub recorded-anywhere : (me : Handle) (is : List (Option Index)) (hs : List IndexedHeader) (t : Table EntryRecord) → AreRecorded is hs t →
    is_linked_anywhere me is ≡ is_on (lookup me t.live)
recorded-anywhere me is hs t a =
    is_linked_anywhere-count me 0 is
    ∙ ap (λ n. nat_lt 0 n) (a.same (is_handle me) ∙ there-alone (linked_as (is_handle me)) me is hs t a
    (λ h v e. apart-linked v.linked (same_handle h me) e))
    ∙ on-number me (lookup me t.live)

pub on-none : (o : Option EntryRecord) → where_on o ≡ None → is_on o ≡ false
on-none None e = refl
on-none (Some v) e = elim v.linked as (λ b. (if b then Some v else None) ≡ None → b ≡ false) [ true ↦ λ f. cc | false ↦ λ f. refl ] e

pub on-here : (o : Option EntryRecord) (w : EntryRecord) → where_on o ≡ Some w → (o ≡ Some w) × (w.linked ≡ true)
on-here None w e = cc
on-here (Some v) w e =
    elim v.linked as (λ b. v.linked ≡ b → (if b then Some v else None) ≡ Some w → (Some v ≡ Some w) × (w.linked ≡ true)) [
      | true ↦ λ l f. let g : v ≡ w = cc in (f, ap (λ (x : EntryRecord). x.linked) (sym g) ∙ l)
      | false ↦ λ l f. cc
    ] refl e

headers-number : (me : Handle) (o : Option EntryRecord) → number_at (headers_as (is_entry me)) me o ≡ headers_in o
headers-number me None = refl
headers-number me (Some v) = rw (same-self me) refl

pub recorded-headers : (me : Handle) (is : List (Option Index)) (hs : List IndexedHeader) (t : Table EntryRecord) → AreRecorded is hs t →
    headers_by (lies_in (is_entry me)) hs ≡ headers_in (lookup me t.live)
recorded-headers me is hs t a =
    a.lies (is_entry me) ∙ there-alone (headers_as (is_entry me)) me is hs t a (λ h v e. rw e refl) ∙ headers-number me (lookup me t.live)

pub recorded-names : (me : Handle) (is : List (Option Index)) (hs : List IndexedHeader) (t : Table EntryRecord) → AreRecorded is hs t →
    names_entry me hs ≡ nat_lt 0 (headers_in (lookup me t.live))
recorded-names me is hs t a = names-count me hs ∙ ap (λ n. nat_lt 0 n) (recorded-headers me is hs t a)

slot-unlinked : (s : ℕ) (xs : List (Live EntryRecord)) → has_slot s xs ≡ false → sum_of (linked_as (is_slot s)) xs ≡ 0
slot-unlinked s [] e = refl
slot-unlinked s (x ∷ xs) e =
    elim (nat_eq x.handle.slot s) as (λ b. (b || has_slot s xs) ≡ false →
    (if x.value.linked && b then 1 else 0) + sum_of (linked_as (is_slot s)) xs ≡ 0) [
      | true ↦ λ f. cc
      | false ↦ λ f. omega (arith, apart-linked x.value.linked false refl, slot-unlinked s xs f)
    ] e

slot-empty : (s : ℕ) (xs : List (Live EntryRecord)) → has_slot s xs ≡ false → sum_of (headers_as (is_at_slot s)) xs ≡ 0
slot-empty s [] e = refl
slot-empty s (x ∷ xs) e =
    elim (nat_eq x.handle.slot s) as (λ b. (b || has_slot s xs) ≡ false →
    (if b then x.value.headers else 0) + sum_of (headers_as (is_at_slot s)) xs ≡ 0) [
      | true ↦ λ f. cc
      | false ↦ λ f. omega (arith, slot-empty s xs f)
    ] e

-- a slot of which there is no record is that of no linked entry, and of none in which a header lies
pub recorded-slot : (s : ℕ) (is : List (Option Index)) (hs : List IndexedHeader) (t : Table EntryRecord) → AreRecorded is hs t →
    has_slot s t.live ≡ false → entry_taken is hs s ≡ false
recorded-slot s is hs t a free =
    let linked : entry_slot is s ≡ false = entry_slot-count s 0 is
    ∙ ap (λ n. nat_lt 0 n) (a.same (is_slot s) ∙ slot-unlinked s t.live free) in
    let lies : header_slot hs s ≡ false = header_slot-count s hs
    ∙ ap (λ n. nat_lt 0 n) (a.lies (is_at_slot s) ∙ slot-empty s t.live free) in
    rw (linked, lies) refl

-- ---- there is room for a record of each linked entry and of each in which a header lies

needed : (v : EntryRecord) → one_if (is_idle v) ≡ 0 → 1 ≤ one_if (v.linked && true) + v.headers
needed v e =
    elim v.linked as (λ b. one_if (not b && nat_eq v.headers 0) ≡ 0 → 1 ≤ one_if (b && true) + v.headers) [
      | true ↦ λ f. omega arith
      | false ↦ λ f. elim (nat_eq v.headers 0) as (λ z. nat_eq v.headers 0 ≡ z → one_if z ≡ 0 → 1 ≤ 0 + v.headers) [
        | true ↦ λ z g. absurd (omega arith)
        | false ↦ λ z g. grind (arith, nat_tests)
      ] refl f
    ] e

live-at_most : (xs : List (Live EntryRecord)) → sum_of idle_as xs ≡ 0 → length xs ≤ sum_of (linked_as any_handle) xs + sum_of
    (headers_as (λ h. true)) xs
live-at_most [] e = omega arith
live-at_most (x ∷ xs) e = omega (arith, live-at_most xs (omega arith), needed x.value (omega arith))

pub recorded-at_most : (is : List (Option Index)) (hs : List IndexedHeader) (t : Table EntryRecord) → AreRecorded is hs t →
    length t.live ≤ sum_by entries_in is + length hs
recorded-at_most is hs t a = omega (
  arith,
  live-at_most t.live a.busy,
  a.same any_handle,
  a.lies (λ h. true),
  linked-all 0 is,
  unexpected-all hs,
)

-- ---- a record is put in the place of the old one

pub fits-linked : (p : Handle → Option Handle → ℕ → Bool) (me : Handle) (v : EntryRecord) → is_idle v ≡ true → linked_as p me v ≡ 0
fits-linked p me v e =
    elim v.linked as (λ b. (not b && nat_eq v.headers 0) ≡ true → (if b && p me v.ct v.pt then 1 else 0) ≡ 0) [
      | true ↦ λ f. cc
      | false ↦ λ f. refl
    ] e

fits-headers : (p : Handle → Bool) (me : Handle) (v : EntryRecord) → is_idle v ≡ true → headers_as p me v ≡ 0
fits-headers p me v e =
    let none : v.headers ≡ 0 = elim v.linked as (λ b. (not b && nat_eq v.headers 0) ≡ true → v.headers ≡ 0) [
      | true ↦ λ f. cc
      | false ↦ λ f. grind (arith, nat_tests)
    ] e in
    elim (p me) as (λ b. (if b then v.headers else 0) ≡ 0) [ true ↦ none | false ↦ refl ]

recorded-anew : (me : Handle) (w v : EntryRecord) (is ks : List (Option Index)) (hs gs : List IndexedHeader) (t : Table EntryRecord) →
    AreRecorded is hs t → lookup me t.live ≡ Some w → ((p : Handle → Option Handle → ℕ → Bool) →
    linked_by p 0 ks + linked_as p me w ≡ linked_by p 0 is + linked_as p me v) →
    ((p : Handle → Bool) → headers_by (lies_in p) gs + headers_as p me w ≡ headers_by (lies_in p) hs + headers_as p me v) →
    AreRecorded ks gs (recorded_anew me v t)
recorded-anew me w v is ks hs gs t a at linked lies = record {
  same = λ p.
      let s = rw at at (sum-split me (linked_as p) t.live (a.once me)) in
      let n = sum-anew me (linked_as p) t w v (a.once me) at (fits-linked p me v) in
      omega (arith, s, n, a.same p, linked p);
  lies = λ p.
      let s = rw at at (sum-split me (headers_as p) t.live (a.once me)) in
      let n = sum-anew me (headers_as p) t w v (a.once me) at (fits-headers p me v) in
      omega (arith, s, n, a.lies p, lies p);
  once = λ h. omega (arith, named-anew h me v t, a.once h);
  busy = busy-anew me t w v (a.once me) at a.busy;
}

-- ---- a header comes or goes

one-header : (p : Handle → Bool) (me : Handle) (v : EntryRecord) → (if p me then 1 else 0) + headers_as p me v ≡ headers_as p me
    (one_more v)
one-header p me v = elim (p me) as (λ b. (if b then 1 else 0) + (if b then v.headers else 0) ≡ (if b then v.headers + 1 else 0))
    [ true ↦ omega arith | false ↦ refl ]

pub recorded-more : (a : IndexedHeader) (w : EntryRecord) (is : List (Option Index)) (hs : List IndexedHeader) (t : Table EntryRecord) →
    AreRecorded is hs t → lookup a.header.entry t.live ≡ Some w → AreRecorded is (hs ++ a ∷ []) (recorded_by a.header.entry one_more t)
recorded-more a w is hs t p at =
    rw at
    (recorded-anew a.header.entry w (one_more w) is is hs (hs ++ a ∷ []) t p at (λ q. refl)
    (λ q. omega (arith, unexpected-append (lies_in q) hs (a ∷ []), one-header q a.header.entry w)))

less-header : (p : Handle → Bool) (me : Handle) (v : EntryRecord) → 1 ≤ v.headers →
    (if p me then 1 else 0) + headers_as p me (one_fewer v) ≡ headers_as p me v
less-header p me v le = elim (p me) as (λ b. (if b then 1 else 0) + (if b then v.headers - 1 else 0) ≡ (if b then v.headers else 0))
    [ true ↦ omega arith | false ↦ refl ]

-- the headers with this one more
abbrev pub HasOneOf : IndexedHeader → List IndexedHeader → List IndexedHeader → Type 0
HasOneOf a hs left = (p : IndexedHeader → Bool) → headers_by p hs ≡ (if p a then 1 else 0) + headers_by p left

one-there : (gone : IndexedHeader) (is : List (Option Index)) (hs left : List IndexedHeader) (t : Table EntryRecord) →
    AreRecorded is hs t → HasOneOf gone hs left
    → headers_in (lookup gone.header.entry t.live) ≡ 1 + headers_by (lies_in (is_entry gone.header.entry)) left
one-there gone is hs left t a one =
    let me : Handle = gone.header.entry in
    let o = rw (same-self me) at (one (lies_in (is_entry me))) in
    omega (arith, recorded-headers me is hs t a, o)

fewer-by : (gone : IndexedHeader) (is : List (Option Index)) (hs left : List IndexedHeader) (t : Table EntryRecord)
    (o : Option EntryRecord) → AreRecorded is hs t → HasOneOf gone hs left → lookup gone.header.entry t.live ≡ o → 1 ≤ headers_in o
    → AreRecorded is left (changed_by gone.header.entry one_fewer o t)
fewer-by gone is hs left t None a one at le = absurd (omega arith)
fewer-by gone is hs left t (Some w) a one at le =
    recorded-anew gone.header.entry w (one_fewer w) is is hs left t a at (λ p. refl)
    (λ p. omega (arith, one (lies_in p), less-header p gone.header.entry w le))

pub recorded-fewer : (gone : IndexedHeader) (is : List (Option Index)) (hs left : List IndexedHeader) (t : Table EntryRecord) →
    AreRecorded is hs t → HasOneOf gone hs left → AreRecorded is left (recorded_by gone.header.entry one_fewer t)
recorded-fewer gone is hs left t a one = fewer-by gone is hs left t (lookup gone.header.entry t.live) a one refl
    (omega (arith, one-there gone is hs left t a one))

last-one : (n : ℕ) → nat_le (1 + n) 1 ≡ not (nat_lt 0 n)
last-one n = grind (arith, nat_tests)

both-not : (a b : Bool) → (not a && not b) ≡ not (b || a)
both-not true true = refl
both-not true false = refl
both-not false true = refl
both-not false false = refl

-- what the record tells of the entry's freeing
pub recorded-frees : (gone : IndexedHeader) (is : List (Option Index)) (hs left : List IndexedHeader) (t : Table EntryRecord) →
    AreRecorded is hs t → HasOneOf gone hs left → frees_at is t gone ≡ not
    (is_linked_at Overflow gone.header.entry (index_at gone.pt is) || names_entry gone.header.entry left)
recorded-frees gone is hs left t a one =
    let me : Handle = gone.header.entry in
    let n : nat_le (headers_in (lookup me t.live)) 1 ≡ not (names_entry me left) =
    ap (λ k. nat_le k 1) (one-there gone is hs left t a one) ∙ last-one (headers_by (lies_in (is_entry me)) left)
    ∙ ap not (sym (names-count me left)) in
    rw n (both-not (names_entry me left) (is_linked_at Overflow me (index_at gone.pt is)))

-- other headers that lie in the same entries
pub recorded-unexpected : (is : List (Option Index)) (hs gs : List IndexedHeader) (t : Table EntryRecord) → AreRecorded is hs t →
    ((p : Handle → Bool) → headers_by (lies_in p) gs ≡ headers_by (lies_in p) hs) → AreRecorded is gs t
recorded-unexpected is hs gs t a e = record { same = a.same; lies = λ p. e p ∙ a.lies p; once = a.once; busy = a.busy }

-- ---- an entry at its place

there-zero : (b : Bool) (n : ℕ) → one_if (b && (true && not (nat_eq n n))) ≡ 0
there-zero b n = let e : nat_eq n n ≡ true = grind (arith, nat_tests) in
    rw e (elim b as (λ c. one_if (c && false) ≡ 0) [ true ↦ refl | false ↦ refl ])

apart-elsewhere : (b s c : Bool) → s ≡ false → one_if (b && (s && c)) ≡ 0
apart-elsewhere true s c e = rw e refl
apart-elsewhere false s c e = refl

pub unlinked-at : (me : Handle) (w : EntryRecord) (is : List (Option Index)) (hs : List IndexedHeader) (t : Table EntryRecord) →
    AreRecorded is hs t → lookup me t.live ≡ Some w → map (unlinked_in me) is ≡ set is w.pt (unlinked_in me (get_or is w.pt None))
unlinked-at me w is hs t a at =
    let n = rw at at (there-alone (linked_as (elsewhere me w.pt)) me is hs t a
    (λ h v e. apart-elsewhere v.linked (same_handle h me) (not (nat_eq v.pt w.pt)) e)) in
    let z : linked_as (elsewhere me w.pt) me w ≡ 0 = rw (same-self me) (there-zero w.linked w.pt) in
    map-at me w.pt 0 w.pt is (omega arith) (a.same (elsewhere me w.pt) ∙ n ∙ z)

-- ---- an entry is unlinked

apart-but : (b q s : Bool) → s ≡ false → one_if (b && (q && not s)) ≡ one_if (b && q)
apart-but b true s e = rw e refl
apart-but b false s e = refl

off-zero : (b q : Bool) → one_if (b && (q && false)) ≡ 0
off-zero true true = refl
off-zero true false = refl
off-zero false q = refl

off-sum : (me : Handle) (w : EntryRecord) (p : Handle → Option Handle → ℕ → Bool) (is : List (Option Index)) (hs : List IndexedHeader)
    (t : Table EntryRecord) → AreRecorded is hs t → lookup me t.live ≡ Some w → linked_by p 0 (map (unlinked_in me) is) + linked_as p me w
    ≡ linked_by p 0 is
off-sum me w p is hs t a at =
    let s = rw at at (sum-split me (linked_as p) t.live (a.once me)) in
    let b = rw at at (sum-split me (linked_as (but me p)) t.live (a.once me)) in
    let e = but-same me (linked_as (but me p)) (linked_as p) t.live (λ h v f. apart-but v.linked (p h v.ct v.pt) (same_handle h me) f) in
    let z : linked_as (but me p) me w ≡ 0 = rw (same-self me) (off-zero w.linked (p me w.ct w.pt)) in
    omega (arith, linked-unlinked me p 0 is, a.same (but me p), a.same p, s, b, e, z)

pub recorded-unlinked : (me : Handle) (w : EntryRecord) (is : List (Option Index)) (hs : List IndexedHeader) (t : Table EntryRecord) →
    AreRecorded is hs t → lookup me t.live ≡ Some w → AreRecorded (map (unlinked_in me) is) hs (recorded_by me not_linked t)
recorded-unlinked me w is hs t a at =
    rw at
    (recorded-anew me w (not_linked w) is (map (unlinked_in me) is) hs hs t a at (λ p. omega (arith, off-sum me w p is hs t a at))
    (λ p. refl))

-- one entry fewer is linked then
pub one-off : (me : Handle) (w : EntryRecord) (is : List (Option Index)) (hs : List IndexedHeader) (t : Table EntryRecord) →
    AreRecorded is hs t → lookup me t.live ≡ Some w → w.linked ≡ true → sum_by entries_in (map (unlinked_in me) is) + 1 ≡ sum_by
    entries_in is
one-off me w is hs t a at on =
    let e : linked_as any_handle me w ≡ 1 = rw on refl in
    omega (arith, off-sum me w any_handle is hs t a at, linked-all 0 is, linked-all 0 (map (unlinked_in me) is), e)

on-some : (o : Option EntryRecord) → is_on o ≡ true → (w : EntryRecord) × (o ≡ Some w) × (w.linked ≡ true)
on-some None e = cc
on-some (Some w) e = (w, refl, e)

-- the record of an entry that is linked
pub recorded-on : (me : Handle) (is : List (Option Index)) (hs : List IndexedHeader) (t : Table EntryRecord) → AreRecorded is hs t →
    is_linked_anywhere me is ≡ true → (w : EntryRecord) × (lookup me t.live ≡ Some w) × (w.linked ≡ true)
recorded-on me is hs t a e = on-some (lookup me t.live) (sym (recorded-anywhere me is hs t a) ∙ e)

-- ---- an entry goes by a message

pub is_linked-some : (h : Handle) (k : ℕ) (xs : List Linked) → is_linked h xs ≡ true → 0 < entries_by (is_handle h) k xs
is_linked-some h k [] e = cc
is_linked-some h k (x ∷ xs) e =
    elim (same_handle x.handle h) as (λ b. (b || is_linked h xs) ≡ true → 0 < (if b then 1 else 0) + entries_by (is_handle h) k xs) [
      | true ↦ λ f. omega arith
      | false ↦ λ f. omega (arith, is_linked-some h k xs f)
    ] e

one-list : (list : EntryList) (me : Handle) (k : ℕ) (i : Index) → is_linked_at list me (Some i) ≡ true →
    index_by (is_handle me) k (Some i) ≤ 1 → unlinked_in me (Some i) ≡ Some (with_list list (unlinked me) i)
one-list Priority me k i e one =
    let s = is_linked-some me k i.priority e in
    let o : entries_by (is_handle me) k i.overflow ≡ 0 = omega arith in
    rw (unlinked-none me k i.overflow o) refl
one-list Overflow me k i e one =
    let s = is_linked-some me k i.overflow e in
    let o : entries_by (is_handle me) k i.priority ≡ 0 = omega arith in
    rw (unlinked-none me k i.priority o) refl

one-advanced : (list : EntryList) (me : Handle) (to k : ℕ) (i : Index) → is_linked_at list me (Some i) ≡ true →
    index_by (is_handle me) k (Some i) ≤ 1 → advanced_in me to (Some i) ≡ Some (with_list list (advanced me to) i)
one-advanced Priority me to k i e one =
    let s = is_linked-some me k i.priority e in
    let o : entries_by (is_handle me) k i.overflow ≡ 0 = omega arith in
    rw (advanced-none me to k i.overflow o) refl
one-advanced Overflow me to k i e one =
    let s = is_linked-some me k i.overflow e in
    let o : entries_by (is_handle me) k i.priority ≡ 0 = omega arith in
    rw (advanced-none me to k i.priority o) refl

linked_at-some : (list : EntryList) (me : Handle) (k : ℕ) (o : Option Index) → is_linked_at list me o ≡ true →
    0 < index_by (is_handle me) k o
linked_at-some list me k None e = cc
linked_at-some Priority me k (Some i) e = omega (arith, is_linked-some me k i.priority e)
linked_at-some Overflow me k (Some i) e = omega (arith, is_linked-some me k i.overflow e)

entries-over : (x : Linked) (h : Header) (xs : List Linked) → is_over x h ≡ true → entries_after x h xs ≡ unlinked x.handle xs
entries-over x h xs over = rw over refl

list-over : (list : EntryList) (x : Linked) (h : Header) (i : Index) → is_over x h ≡ true →
    with_list list (entries_after x h) i ≡ with_list list (unlinked x.handle) i
list-over Priority x h i over = rw (entries-over x h i.priority over) refl
list-over Overflow x h i over = rw (entries-over x h i.overflow over) refl

over-at : (f : Found) (h : Header) (k : ℕ) (o : Option Index) → is_over f.linked h ≡ true → is_linked_at f.list f.linked.handle o ≡ true →
    index_by (is_handle f.linked.handle) k o ≤ 1 → updated_at f h o ≡ unlinked_in f.linked.handle o
over-at f h k None over e one = refl
over-at f h k (Some i) over e one = ap (λ (j : Index). Some j) (list-over f.list f.linked h i over)
    ∙ sym (one-list f.list f.linked.handle k i e one)

-- where it doesn't go, it is advanced or stays as it is
entries-kept : (x : Linked) (h : Header) (xs : List Linked) → is_over x h ≡ false →
    entries_after x h xs ≡ (if x.entry.manage_local then advanced x.handle (running_after x h) xs else xs)
entries-kept x h xs over = rw over refl

list-kept : (list : EntryList) (x : Linked) (h : Header) (i : Index) → is_over x h ≡ false →
    with_list list (entries_after x h) i ≡ (if x.entry.manage_local then with_list list (advanced x.handle (running_after x h)) i else i)
list-kept Priority x h i over =
    rw (entries-kept x h i.priority over)
    (elim x.entry.manage_local as (λ b. with_list Priority (λ xs. if b then advanced x.handle (running_after x h) i.priority else
    i.priority) i ≡ (if b then with_list Priority (advanced x.handle (running_after x h)) i else i)) [ true ↦ refl | false ↦ refl ])
list-kept Overflow x h i over =
    rw (entries-kept x h i.overflow over)
    (elim x.entry.manage_local as (λ b. with_list Overflow (λ xs. if b then advanced x.handle (running_after x h) i.overflow else
    i.overflow) i ≡ (if b then with_list Overflow (advanced x.handle (running_after x h)) i else i)) [ true ↦ refl | false ↦ refl ])

kept-at : (f : Found) (h : Header) (k : ℕ) (i : Index) → is_over f.linked h ≡ false → is_linked_at f.list f.linked.handle (Some i) ≡ true
    → index_by (is_handle f.linked.handle) k (Some i) ≤ 1
    → (if f.linked.entry.manage_local then advanced_in f.linked.handle (running_after f.linked h) (Some i) else Some i) ≡ updated_at f h
    (Some i)
kept-at f h k i over e one =
    ap (λ o. if f.linked.entry.manage_local then o else Some i) (one-advanced f.list f.linked.handle (running_after f.linked h) k i e one)
    ∙ some-if f.linked.entry.manage_local (with_list f.list (advanced f.linked.handle (running_after f.linked h)) i) i
    ∙ ap (λ (j : Index). Some j) (sym (list-kept f.list f.linked h i over))
  where
    some-if : (b : Bool) (i j : Index) → (if b then Some i else Some j) ≡ Some (if b then i else j)
    some-if true i j = refl
    some-if false i j = refl

updated-alone : (f : Found) (h : Header) (k : ℕ) (i : Index) → is_linked_at f.list f.linked.handle (Some i) ≡ true →
    index_by (is_handle f.linked.handle) k (Some i) ≤ 1 → updated_in f h (Some i) ≡ updated_at f h (Some i)
updated-alone f h k i e one =
    elim (is_over f.linked h) as (λ b. is_over f.linked h ≡ b →
    (if b then unlinked_in f.linked.handle (Some i) else
    (if f.linked.entry.manage_local then advanced_in f.linked.handle (running_after f.linked h) (Some i) else Some i)) ≡ updated_at f
    h (Some i)) [
      | true ↦ λ over. sym (over-at f h k (Some i) over e one)
      | false ↦ λ over. kept-at f h k i over e one
    ] refl

updated-one : (f : Found) (h : Header) (k : ℕ) (o : Option Index) → is_linked_at f.list f.linked.handle o ≡ true →
    index_by (is_handle f.linked.handle) k o ≤ 1 → updated_in f h o ≡ updated_at f h o
updated-one f h k None e one = cc
updated-one f h k (Some i) e one = updated-alone f h k i e one

number-at_most : (me : Handle) (o : Option EntryRecord) → number_at (linked_as (is_handle me)) me o ≤ 1
number-at_most me None = omega arith
number-at_most me (Some v) = elim (v.linked && same_handle me me) as (λ b. (if b then 1 else 0) ≤ 1)
    [ true ↦ omega arith | false ↦ omega arith ]

at_most-at : (me : Handle) (pt : ℕ) (is : List (Option Index)) (hs : List IndexedHeader) (t : Table EntryRecord) → AreRecorded is hs t →
    linked_by (is_handle me) 0 is ≤ 1
at_most-at me pt is hs t a = omega (
  arith,
  a.same (is_handle me),
  there-alone (linked_as (is_handle me)) me is hs t a
      (λ h v e. apart-linked v.linked (same_handle h me) e),
  number-at_most me (lookup me t.live),
)

pub at_most-here : (me : Handle) (pt : ℕ) (is : List (Option Index)) (hs : List IndexedHeader) (t : Table EntryRecord) →
    AreRecorded is hs t → index_by (is_handle me) pt (get_or is pt None) ≤ 1
at_most-here me pt is hs t a = omega (arith, at_most-at me pt is hs t a, linked-split me pt 0 pt is (omega arith))

-- an entry is in one list alone: what becomes of it in both is what becomes of it there
pub updated-handle : (f : Found) (h : Header) (is : List (Option Index)) (hs : List IndexedHeader) (t : Table EntryRecord) →
    AreRecorded is hs t → is_linked_at f.list f.linked.handle (index_at h.pt is) ≡ true →
    slice_set is h.pt (updated_in f h (index_at h.pt is)) ≡ indices_after f h is
updated-handle f h is hs t a e = ap (λ o. set is h.pt o) (updated-one f h h.pt (get_or is h.pt None) e
    (at_most-here f.linked.handle h.pt is hs t a))

pub updated-over : (f : Found) (h : Header) (is : List (Option Index)) (hs : List IndexedHeader) (t : Table EntryRecord) →
    AreRecorded is hs t → is_linked_at f.list f.linked.handle (index_at h.pt is) ≡ true → is_over f.linked h ≡ true →
    indices_after f h is ≡ map (unlinked_in f.linked.handle) is
updated-over f h is hs t a e over =
    let me : Handle = f.linked.handle in
    let here = linked_at-some f.list me h.pt (get_or is h.pt None) e in
    let split = linked-split me h.pt 0 h.pt is (omega arith) in
    let one = at_most-at me h.pt is hs t a in
    let none : linked_by (elsewhere me h.pt) 0 is ≡ 0 = omega arith in
    let at_most : index_by (is_handle me) h.pt (get_or is h.pt None) ≤ 1 = omega arith in
    ap (λ o. set is h.pt o) (over-at f h h.pt (get_or is h.pt None) over e at_most) ∙ sym (map-at me h.pt 0 h.pt is (omega arith) none)

-- an entry in a list of an index is linked
pub linked-anywhere : (list : EntryList) (me : Handle) (pt : ℕ) (is : List (Option Index)) →
    is_linked_at list me (index_at pt is) ≡ true → is_linked_anywhere me is ≡ true
linked-anywhere list me pt is e =
    let here = linked_at-some list me pt (get_or is pt None) e in
    let split = linked-split me pt 0 pt is (omega arith) in
    let some : 0 < linked_by (is_handle me) 0 is = omega arith in
    is_linked_anywhere-count me 0 is ∙ grind (arith, nat_tests)

entries-stay : (x : Linked) (h : Header) (p : Handle → Option Handle → ℕ → Bool) (k : ℕ) (xs : List Linked) → is_over x h ≡ false →
    entries_by p k (entries_after x h xs) ≡ entries_by p k xs
entries-stay x h p k xs over =
    rw over
    (elim x.entry.manage_local as (λ b. entries_by p k (if b then advanced x.handle (running_after x h) xs else xs) ≡ entries_by p k xs) [
      | true ↦ entries-advanced x.handle (running_after x h) p k xs
      | false ↦ refl
    ])

list-stays : (list : EntryList) (x : Linked) (h : Header) (p : Handle → Option Handle → ℕ → Bool) (k : ℕ) (i : Index) →
    is_over x h ≡ false → index_by p k (Some (with_list list (entries_after x h) i)) ≡ index_by p k (Some i)
list-stays Priority x h p k i over = rw (entries-stay x h p k i.priority over) refl
list-stays Overflow x h p k i over = rw (entries-stay x h p k i.overflow over) refl

index-stays : (f : Found) (h : Header) (p : Handle → Option Handle → ℕ → Bool) (k : ℕ) (o : Option Index) → is_over f.linked h ≡ false →
    index_by p k (updated_at f h o) ≡ index_by p k o
index-stays f h p k None over = refl
index-stays f h p k (Some i) over = list-stays f.list f.linked h p k i over

-- where the handles of an index stay, so do all
pub recorded-same : (pt : ℕ) (is : List (Option Index)) (hs : List IndexedHeader) (t : Table EntryRecord) (o : Option Index) →
    AreRecorded is hs t → ((p : Handle → Option Handle → ℕ → Bool) → index_by p pt o ≡ index_by p pt (get_or is pt None)) →
    AreRecorded (set is pt o) hs t
recorded-same pt is hs t o a e = record {
  same = λ p. let z : 0 + pt ≡ pt = omega arith in linked-same p 0 pt is o (rw z (e p)) ∙ a.same p;
  lies = a.lies;
  once = a.once;
  busy = a.busy;
}

-- as many entries are linked then
pub same-many : (pt : ℕ) (is : List (Option Index)) (o : Option Index) →
    ((p : Handle → Option Handle → ℕ → Bool) → index_by p pt o ≡ index_by p pt (get_or is pt None)) →
    sum_by entries_in (set is pt o) ≡ sum_by entries_in is
same-many pt is o e =
    let z : 0 + pt ≡ pt = omega arith in
    sym (linked-all 0 (set is pt o)) ∙ linked-same any_handle 0 pt is o (rw z (e any_handle)) ∙ linked-all 0 is

pub recorded-updated : (f : Found) (h : Header) (is : List (Option Index)) (hs : List IndexedHeader) (t : Table EntryRecord) →
    AreRecorded is hs t → is_linked_at f.list f.linked.handle (index_at h.pt is) ≡ true →
    AreRecorded (indices_after f h is) hs (unlinked_after f h t)
recorded-updated f h is hs t a e =
    let w = recorded-on f.linked.handle is hs t a (linked-anywhere f.list f.linked.handle h.pt is e) in
    elim (is_over f.linked h) as (λ b. is_over f.linked h ≡ b →
    AreRecorded (indices_after f h is) hs (if b then recorded_by f.linked.handle not_linked t else t)) [
      | true ↦ λ over. rw (updated-over f h is hs t a e over) (recorded-unlinked f.linked.handle w.0 is hs t a w.1)
      | false ↦ λ over. recorded-same h.pt is hs t (updated_at f h (get_or is h.pt None)) a
          (λ p. index-stays f h p h.pt (get_or is h.pt None) over)
    ] refl

pub many-updated : (f : Found) (h : Header) (is : List (Option Index)) (hs : List IndexedHeader) (t : Table EntryRecord) →
    AreRecorded is hs t → is_linked_at f.list f.linked.handle (index_at h.pt is) ≡ true → linked_after f h (sum_by entries_in is) ≡ sum_by
    entries_in (indices_after f h is)
many-updated f h is hs t a e =
    let w = recorded-on f.linked.handle is hs t a (linked-anywhere f.list f.linked.handle h.pt is e) in
    elim (is_over f.linked h) as (λ b. is_over f.linked h ≡ b → (if b then sum_by entries_in is - 1 else sum_by entries_in is) ≡ sum_by
    entries_in (indices_after f h is)) [
      | true ↦ λ over. rw (updated-over f h is hs t a e over) (omega (arith, one-off f.linked.handle w.0 is hs t a w.1 w.2))
      | false ↦ λ over. sym (same-many h.pt is (updated_at f h (get_or is h.pt None))
          (λ p. index-stays f h p h.pt (get_or is h.pt None) over))
    ] refl

-- ---- an entry comes

pub some-below : {A : Type 0} → (xs : List (Option A)) (d : ℕ) (x : A) → get_or xs d None ≡ Some x → d < length xs
some-below [] d x e = cc
some-below (y ∷ ys) zero x e = omega arith
some-below (y ∷ ys) (suc d) x e = omega (arith, some-below ys d x e)

index-push : (list : EntryList) (p : Handle → Option Handle → ℕ → Bool) (k : ℕ) (i : Index) (x : Linked) →
    index_by p k (linked_at list x (Some i)) ≡ index_by p k (Some i) + (if p x.handle x.entry.ct k then 1 else 0)
index-push Priority p k i x = omega (arith, entries-push p k i.priority x)
index-push Overflow p k i x = omega (arith, entries-push p k i.overflow x)

-- the record of an entry that is linked now
abbrev pub fresh_at : ℕ → Option Handle → EntryRecord
fresh_at pt ct = record { pt = pt; ct = ct; linked = true; headers = 0 }

linked-more : (slot pt given : ℕ) (list : EntryList) (entry : Entry) (i : Index) (is : List (Option Index)) (p : Handle → Option Handle →
    ℕ → Bool) → index_at pt is ≡ Some i → linked_by p 0 (slice_set is pt
    (linked_at list (fresh (handle slot given) entry) (index_at pt is))) ≡ linked_by p 0 is
    + (if p (handle slot given) entry.ct pt then 1 else 0)
linked-more slot pt given list entry i is p e =
    let x : Linked = fresh (handle slot given) entry in
    let z : 0 + pt ≡ pt = omega arith in
    let s = rw (z, e) at (linked-set p 0 pt is (linked_at list x (get_or is pt None)) (some-below is pt i e)) in
    let g = index-push list p pt i x in
    rw e (omega arith)

none-lies : (p : Handle → Bool) (h : Handle) (pt : ℕ) (ct : Option Handle) → headers_as p h (fresh_at pt ct) ≡ 0
none-lies p h pt ct = elim (p h) as (λ b. (if b then (fresh_at pt ct).headers else 0) ≡ 0) [ true ↦ refl | false ↦ refl ]

recorded-linked_at : (slot pt : ℕ) (list : EntryList) (entry : Entry) (i : Index) (is : List (Option Index)) (hs : List IndexedHeader)
    (t : Table EntryRecord) → AreRecorded is hs t → index_at pt is ≡ Some i → has_slot slot t.live ≡ false →
    AreRecorded (slice_set is pt (linked_at list (fresh (handle slot t.given) entry) (index_at pt is))) hs
    (with_new slot (fresh_at pt entry.ct) t)
recorded-linked_at slot pt list entry i is hs t a e free =
    let x : Live EntryRecord = record { handle = handle slot t.given; value = fresh_at pt entry.ct } in
    record {
      same = λ p. omega (arith, linked-more slot pt t.given list entry i is p e, sum-push (linked_as p) t.live x, a.same p);
      lies = λ p. omega (arith, sum-push (headers_as p) t.live x, none-lies p x.handle pt entry.ct, a.lies p);
      once = once-new slot (fresh_at pt entry.ct) t a.once free;
      busy = omega (arith, sum-push idle_as t.live x, a.busy);
    }

pub some-index : (o : Option Index) → is_some o ≡ true → (i : Index) × (o ≡ Some i)
some-index None e = cc
some-index (Some i) e = (i, refl)

pub recorded-linked : (slot pt : ℕ) (list : EntryList) (entry : Entry) (is : List (Option Index)) (hs : List IndexedHeader)
    (t : Table EntryRecord) → AreRecorded is hs t → is_some (index_at pt is) ≡ true → has_slot slot t.live ≡ false →
    AreRecorded (slice_set is pt (linked_at list (fresh (handle slot t.given) entry) (index_at pt is))) hs
    (with_new slot (fresh_at pt entry.ct) t)
recorded-linked slot pt list entry is hs t a there free = let i = some-index (index_at pt is) there in
    recorded-linked_at slot pt list entry i.0 is hs t a i.1 free

pub many-linked : (slot pt given : ℕ) (list : EntryList) (entry : Entry) (is : List (Option Index)) → is_some (index_at pt is) ≡ true →
    sum_by entries_in (slice_set is pt (linked_at list (fresh (handle slot given) entry) (index_at pt is))) ≡ sum_by entries_in is + 1
many-linked slot pt given list entry is there =
    let i = some-index (index_at pt is) there in
    let ks : List (Option Index) = slice_set is pt (linked_at list (fresh (handle slot given) entry) (index_at pt is)) in
    omega (arith, linked-more slot pt given list entry i.0 is any_handle i.1, linked-all 0 is, linked-all 0 ks)

-- ---- an index comes or goes

none-by : (p : Handle → Option Handle → ℕ → Bool) (k : ℕ) (xs : List Linked) → length xs ≡ 0 → entries_by p k xs ≡ 0
none-by p k [] e = refl
none-by p k (x ∷ xs) e = absurd (omega arith)

empty-by : (p : Handle → Option Handle → ℕ → Bool) (k : ℕ) (o : Option Index) → entries_in o ≡ 0 → index_by p k o ≡ 0
empty-by p k None e = refl
empty-by p k (Some i) e = omega (arith, none-by p k i.priority (omega arith), none-by p k i.overflow (omega arith))

-- an index without entries in the place of one without entries
pub recorded-empty : (pt : ℕ) (is : List (Option Index)) (hs : List IndexedHeader) (t : Table EntryRecord) (o : Option Index) →
    AreRecorded is hs t → entries_in o ≡ 0 → entries_in (index_at pt is) ≡ 0 → AreRecorded (set is pt o) hs t
recorded-empty pt is hs t o a none was = recorded-same pt is hs t o a (λ p. empty-by p pt o none ∙ sym (empty-by p pt (index_at pt is) was))

pub many-empty : (pt : ℕ) (is : List (Option Index)) (o : Option Index) → entries_in o ≡ 0 → entries_in (index_at pt is) ≡ 0 →
    sum_by entries_in (set is pt o) ≡ sum_by entries_in is
many-empty pt is o none was = same-many pt is o (λ p. empty-by p pt o none ∙ sym (empty-by p pt (index_at pt is) was))

none-linked : (p : Handle → Option Handle → ℕ → Bool) (k n : ℕ) → linked_by p k (replicate n None) ≡ 0
none-linked p k zero = refl
none-linked p k (suc n) = omega (arith, none-linked p (k + 1) n)

pub recorded-none : (n limit : ℕ) → AreRecorded (replicate n None) [] (no_things limit)
recorded-none n limit = record { same = λ p. none-linked p 0 n; lies = λ p. refl; once = λ h. omega arith; busy = refl }

pub many-none : (n : ℕ) → sum_by entries_in (replicate n None) ≡ 0
many-none n = sym (linked-all 0 (replicate n None)) ∙ none-linked any_handle 0 n
