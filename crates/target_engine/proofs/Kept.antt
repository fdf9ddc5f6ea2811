-- What a target keeps of its indices, its records and its headers, through each call.
use Rattle.std.proofs.Common.{◌≡◌, ℕ, ◌+◌, ◌-◌, ◌<◌, ◌≤◌, ◌^◌, Bool, true, false, not, List, [], ◌∷◌, ◌++◌, Option, Some, None, take, drop}
use Rattle.std.proofs.Common.{length, if◌then◌else◌, replicate, refl, ap, arith, nat_lt, map, subst, sym, ◌∙◌}
use Rattle.std.specs.Prelude.{All, slice_set, is_some, sum_by, nat_le, ◌||◌}
use Rattle.ptl_types.specs.Handles.{top}
use Rattle.std.proofs.lemmas.Bool.Decides.{nat_tests}
use Rattle.std.proofs.Math.Seq.{take-append_seam}
use Rattle.std.proofs.lemmas.List.{length-append}
use Rattle.std.proofs.lemmas.List.Elements.{All-head, All-tail, All-cons, All-nil}
use Rattle.std.proofs.lemmas.List.Sums.{sum_by-cons}
use Rattle.ptl_types.specs.declared.handles.Handle.{Handle}
use Rattle.ptl_types.specs.declared.headers.Header.{Header}
use Rattle.ptl_types.specs.declared.entries.Entry.{Entry}
use Rattle.ptl_types.specs.declared.entries.List.{List as EntryList}
use Rattle.ptl_types.specs.declared.entries.List.TheVariants.{Priority, Overflow}
use Rattle.ni_model.specs.declared.Found.{Found}
use Rattle.ni_model.specs.declared.IndexedHeader.{IndexedHeader}
use Rattle.ni_model.specs.Tables.{Table, lookup, has_slot, handle, with_new, no_things, is_full}
use Rattle.ni_model.specs.Lists.{Index, index_at, is_linked_at, entries_in}
use Rattle.ni_model.specs.Headers.{UnexpectedList, unexpected_list, oldest, without_oldest, left_in, names_entry}
use Rattle.ni_model.specs.Conditions.{HasRoom}
use Rattle.ni_model.specs.Arrive.{is_over, indices_after, headers_after, delivered, place}
use Rattle.ni_model.specs.Append.{fresh, linked_at}
use Rattle.ni_model.specs.Calls.{unlinked_in, slot_in, entry_slot, header_slot}
use Rattle.target_engine.specs.declared.index.Index.{Index as PortalEntry}
use Rattle.target_engine.specs.declared.entry_records.EntryRecord.{EntryRecord}
use Rattle.target_engine.specs.PortalTable.{index, seen, seen_in, updated_in, HasLists, IsPortalEntry, IsUnused, MayLink, AreRecorded}
use Rattle.target_engine.specs.PortalTable.{IsKept, lies_in, headers_in, frees_at, recorded_by, not_linked, records_with_header}
use Rattle.target_engine.specs.PortalTable.{unlinked_after, linked_after, one_more, one_fewer}
use Rattle.target_engine.proofs.Headers.{is_entry, unexpected-at_most, unexpected-all, unexpected-oldest, unexpected-both}
use Rattle.target_engine.proofs.Records.{given-by, limit-by}
use Rattle.target_engine.proofs.Recorded.{recorded-slot, updated-handle, recorded-at_most, recorded-headers, recorded-more, recorded-fewer}
use Rattle.target_engine.proofs.Recorded.{recorded-frees, recorded-none, many-none, recorded-updated, many-updated, recorded-empty}
use Rattle.target_engine.proofs.Recorded.{many-empty, recorded-unlinked, one-off, recorded-linked, many-linked, fresh_at, recorded-on}
use Rattle.target_engine.proofs.Recorded.{linked-anywhere, unlinked-at}
use Rattle.target_engine.proofs.Views.{seen-on, seen-off, portal_entries-lists, unused-portal_entries, unused-seen}

or-none : (a b : Bool) → (a || b) ≡ false → (a ≡ false) × (b ≡ false)
or-none true b e = cc
or-none false b e = (refl, e)

-- ---- a further entry may be linked at each place

may-on : (slot most records given : ℕ) (i : PortalEntry) (is : List (Option Index)) → IsPortalEntry most records given i →
    sum_by entries_in (Some (index i.eq i.lists) ∷ is) < most → entry_slot (Some (index i.eq i.lists) ∷ is) slot ≡ false →
    slot < records → given < top
    → MayLink slot i × (sum_by entries_in is < most) × (entry_slot is slot ≡ false)
may-on slot most records given i is k lt free below keys =
    let s = sum_by-cons entries_in (Some (index i.eq i.lists)) is in
    let both = or-none (slot_in slot i.lists.priority || slot_in slot i.lists.overflow) (entry_slot is slot) free in (
      record { room = omega (arith, k.limit); below = omega (arith, k.slots); free = both.0; keys = omega (arith, k.at_most) },
      omega arith,
      both.1,
    )

may-off : (slot most records given : ℕ) (i : PortalEntry) (is : List (Option Index)) → i.allocated ≡ false →
    IsPortalEntry most records given i → sum_by entries_in (None ∷ is) < most → entry_slot (None ∷ is) slot ≡ false → slot < records →
    given < top
    → MayLink slot i × (sum_by entries_in is < most) × (entry_slot is slot ≡ false)
may-off slot most records given i is off k lt free below keys =
    let s = sum_by-cons entries_in None is in
    let none = k.empty off in (
      record {
        room = omega (arith, k.limit, ap length none.0, ap length none.1);
        below = omega (arith, k.slots);
        free =
            rw (none.0, none.1) refl;
        keys = omega (arith, k.at_most);
      },
      omega arith,
      free,
    )

may-one : (slot most records given : ℕ) (i : PortalEntry) (is : List (Option Index)) → IsPortalEntry most records given i →
    sum_by entries_in (seen i ∷ is) < most → entry_slot (seen i ∷ is) slot ≡ false → slot < records → given < top
    → MayLink slot i × (sum_by entries_in is < most) × (entry_slot is slot ≡ false)
may-one slot most records given i is k lt free below keys =
    elim i.allocated as (λ b. i.allocated ≡ b → MayLink slot i × (sum_by entries_in is < most) × (entry_slot is slot ≡ false)) [
      | true ↦ λ on. may-on slot most records given i is k (subst (λ o. sum_by entries_in (o ∷ is) < most) (seen-on i on) lt)
          (subst (λ o. entry_slot (o ∷ is) slot ≡ false) (seen-on i on) free) below keys
      | false ↦ λ off. may-off slot most records given i is off k (subst (λ o. sum_by entries_in (o ∷ is) < most) (seen-off i off) lt)
          (subst (λ o. entry_slot (o ∷ is) slot ≡ false) (seen-off i off) free) below keys
    ] refl

may-all : (slot most records given : ℕ) (is : List PortalEntry) → All (IsPortalEntry most records given) is →
    sum_by entries_in (seen_in is) < most → entry_slot (seen_in is) slot ≡ false → slot < records → given < top → All (MayLink slot) is
may-all slot most records given [] all lt free below keys = All-nil (MayLink slot)
may-all slot most records given (i ∷ is) all lt free below keys =
    let one = may-one slot most records given i (seen_in is) (All-head (IsPortalEntry most records given) i is all) lt free below keys in
    All-cons (MayLink slot) i is one.0 (may-all slot most records given is (All-tail (IsPortalEntry most records given) i is all) one.1
    one.2 below keys)

not-full : (most n given : ℕ) → (nat_le most n || nat_le top given) ≡ false → (n < most) × (given < top)
not-full most n given e = let both = or-none (nat_le most n) (nat_le top given) e in
    (grind (arith, nat_tests, both.0), grind (arith, nat_tests, both.1))

pub kept-may_link : (slot most linked : ℕ) (is : List PortalEntry) (t : Table EntryRecord) (hs : UnexpectedList) →
    IsKept most is linked t hs → (nat_le most (sum_by entries_in (seen_in is)) || nat_le top t.given) ≡ false → slot < t.limit →
    has_slot slot t.live ≡ false → All (MayLink slot) is
kept-may_link slot most linked is t hs k room below free =
    let at_most = not-full most (sum_by entries_in (seen_in is)) t.given room in
    let untaken = or-none (entry_slot (seen_in is) slot) (header_slot hs.unexpected slot)
    (recorded-slot slot (seen_in is) hs.unexpected t k.recorded free) in
    may-all slot most (most + hs.limit) t.given is k.portal_entries at_most.0 untaken.0 (omega (arith, k.limit)) at_most.1

pub kept-lists : (most linked : ℕ) (is : List PortalEntry) (t : Table EntryRecord) (hs : UnexpectedList) → IsKept most is linked t hs →
    All HasLists is
kept-lists most linked is t hs k = portal_entries-lists is most (most + hs.limit) t.given k.portal_entries

-- ---- what a target keeps, where its indices were lent and came back
pub kept-lent : (most n linked : ℕ) (is new : List PortalEntry) (after : List (Option Index)) (u : Table EntryRecord)
    (hs : UnexpectedList) → length new ≡ n → seen_in new ≡ after → AreRecorded after hs.unexpected u →
    All (IsPortalEntry most (most + hs.limit) u.given) new → u.limit ≡ most + hs.limit → linked ≡ sum_by entries_in after →
    length hs.unexpected ≤ hs.limit → hs.limit < 2 ^ 32 → IsKept most (take n (new ++ drop (length new) is)) linked u hs
kept-lent most n linked is new after u hs len e recorded portal_entries limit count at_most small =
    let whole : take n (new ++ drop (length new) is) ≡ new = rw (← len) (take-append_seam new (drop (length new) is)) in
    rw whole (record {
      recorded = rw e recorded;
      portal_entries = portal_entries;
      limit = limit;
      count = rw e count;
      held =
          at_most;
      small = small;
    })

-- all places keep their lists
abbrev pub KeepsPortalEntries : List PortalEntry → List PortalEntry → Type 0
KeepsPortalEntries was new = (most records given : ℕ) → All (IsPortalEntry most records given) was →
    All (IsPortalEntry most records given) new

still-portal_entries : (most linked : ℕ) (is was new : List PortalEntry) (t u : Table EntryRecord) (hs : UnexpectedList) →
    IsKept most is linked t hs → was ≡ is → KeepsPortalEntries was new → u.given ≡ t.given →
    All (IsPortalEntry most (most + hs.limit) u.given) new
still-portal_entries most linked is was new t u hs k e keeps given =
    subst (λ g. All (IsPortalEntry most (most + hs.limit) g) new) (sym given)
    (keeps most (most + hs.limit) t.given (subst (All (IsPortalEntry most (most + hs.limit) t.given)) (sym e) k.portal_entries))

same-portal_entries : (most linked : ℕ) (is : List PortalEntry) (t u : Table EntryRecord) (hs : UnexpectedList) →
    IsKept most is linked t hs → u.given ≡ t.given → All (IsPortalEntry most (most + hs.limit) u.given) is
same-portal_entries most linked is t u hs k given = subst (λ g. All (IsPortalEntry most (most + hs.limit) g) is) (sym given)
    k.portal_entries

pub kept-none : (most room n : ℕ) (is : List PortalEntry) → room < 2 ^ 32 → length is ≡ n → All (IsUnused most (most + room)) is →
    IsKept most is 0 (no_things (most + room)) (unexpected_list [] room)
kept-none most room n is lt many unused =
    let none = unused-seen most (most + room) is unused in
    record {
      recorded = rw none (recorded-none (length is) (most + room));
      portal_entries = unused-portal_entries most (most + room) is unused;
      limit = refl;
      count = rw none (sym (many-none (length is)));
      held = omega arith;
      small = lt;
    }

pub unused-indices : (most records n : ℕ) (is : List PortalEntry) → length is ≡ n → All (IsUnused most records) is →
    seen_in is ≡ replicate n None
unused-indices most records n is many unused = unused-seen most records is unused ∙ ap (λ m. replicate m None) many

-- ---- a message's entry

pub limit-after : (f : Found) (h : Header) (t : Table EntryRecord) → (unlinked_after f h t).limit ≡ t.limit
limit-after f h t = elim (is_over f.linked h) as (λ b. (if b then recorded_by f.linked.handle not_linked t else t).limit ≡ t.limit)
    [ true ↦ limit-by f.linked.handle not_linked t | false ↦ refl ]

pub given-after : (f : Found) (h : Header) (t : Table EntryRecord) → (unlinked_after f h t).given ≡ t.given
given-after f h t = elim (is_over f.linked h) as (λ b. (if b then recorded_by f.linked.handle not_linked t else t).given ≡ t.given)
    [ true ↦ given-by f.linked.handle not_linked t | false ↦ refl ]

pub seen-updated : (most linked : ℕ) (f : Found) (h : Header) (is was new : List PortalEntry) (t : Table EntryRecord)
    (hs : UnexpectedList) (s : List (Option Index)) → IsKept most is linked t hs → was ≡ is
    → seen_in new ≡ slice_set (seen_in was) h.pt (updated_in f h (index_at h.pt (seen_in was))) → seen_in is ≡ s →
    is_linked_at f.list f.linked.handle (index_at h.pt s) ≡ true → seen_in new ≡ indices_after f h (seen_in is)
seen-updated most linked f h is was new t hs s k e after seen_as there =
    let at : is_linked_at f.list f.linked.handle (index_at h.pt (seen_in is)) ≡ true = rw seen_as there in
    after ∙ ap (λ x. slice_set (seen_in x) h.pt (updated_in f h (index_at h.pt (seen_in x)))) e
    ∙ updated-handle f h (seen_in is) hs.unexpected t k.recorded at

pub kept-updated : (most n linked : ℕ) (f : Found) (h : Header) (is was new : List PortalEntry) (t u : Table EntryRecord)
    (hs : UnexpectedList) (s : List (Option Index)) → IsKept most is linked t hs → was ≡ is → length new ≡ n
    → seen_in new ≡ slice_set (seen_in was) h.pt (updated_in f h (index_at h.pt (seen_in was))) → KeepsPortalEntries was new →
    u ≡ unlinked_after f h t → seen_in is ≡ s → is_linked_at f.list f.linked.handle (index_at h.pt s) ≡ true
    → IsKept most (take n (new ++ drop (length new) is)) (linked_after f h linked) u hs
kept-updated most n linked f h is was new t u hs s k e len after keeps gone seen_as there =
    let at : is_linked_at f.list f.linked.handle (index_at h.pt (seen_in is)) ≡ true = rw seen_as there in
    let recorded : AreRecorded (indices_after f h (seen_in is)) hs.unexpected u =
    rw gone (recorded-updated f h (seen_in is) hs.unexpected t k.recorded at) in
    let given : u.given ≡ t.given = ap (λ (x : Table EntryRecord). x.given) gone ∙ given-after f h t in
    kept-lent most n (linked_after f h linked) is new (indices_after f h (seen_in is)) u hs len
    (seen-updated most linked f h is was new t hs s k e after seen_as there) recorded
    (still-portal_entries most linked is was new t u hs k e keeps given) (ap (λ (x : Table EntryRecord). x.limit) gone ∙ limit-after f h t
    ∙ k.limit) (ap (linked_after f h) k.count ∙ many-updated f h (seen_in is) hs.unexpected t k.recorded at) k.held k.small

pub kept-at_most : (most linked : ℕ) (is : List PortalEntry) (t : Table EntryRecord) (hs : UnexpectedList) (me : Handle) →
    IsKept most is linked t hs → headers_in (lookup me t.live) < 2 ^ 32
kept-at_most most linked is t hs me k = omega (
  arith,
  recorded-headers me (seen_in is) hs.unexpected t k.recorded,
  unexpected-at_most (lies_in (is_entry me)) hs.unexpected,
  k.held,
  k.small,
)

-- a header comes
kept-more : (most linked : ℕ) (a : IndexedHeader) (is : List PortalEntry) (t : Table EntryRecord) (hs : UnexpectedList) →
    IsKept most is linked t hs → (w : EntryRecord) → lookup a.header.entry t.live ≡ Some w → length hs.unexpected < hs.limit →
    IsKept most is linked (recorded_by a.header.entry one_more t) (unexpected_list (hs.unexpected ++ a ∷ []) hs.limit)
kept-more most linked a is t hs k w at lt = record {
  recorded = recorded-more a w (seen_in is) hs.unexpected t k.recorded at;
  portal_entries = same-portal_entries most linked is t (recorded_by a.header.entry one_more t) hs k (given-by a.header.entry one_more t);
  limit = limit-by a.header.entry one_more t ∙ k.limit;
  count = k.count;
  held = simp length-append (omega arith);
  small = k.small;
}

-- a message in the overflow list leaves its header
pub kept-unexpected : (most linked : ℕ) (f : Found) (h : Header) (is : List PortalEntry) (t u : Table EntryRecord)
    (hs gs : UnexpectedList) (s : List (Option Index)) → IsKept most is linked t hs → HasRoom f.list hs → seen_in is ≡ s →
    is_linked_at f.list f.linked.handle (index_at h.pt s) ≡ true → gs ≡ headers_after f h hs → u ≡ records_with_header f t →
    IsKept most is linked u gs
kept-unexpected most linked f h is t u hs gs s k room seen_as there eg eu =
    let me : Handle = f.linked.handle in
    let a : IndexedHeader = record {
      pt = h.pt;
      header = record {
        entry = me;
        place = place f.linked h;
        delivered =
            delivered f.linked h;
        header = h;
      };
      hidden = f.linked.entry.hidden;
    } in
    let at : is_linked_at f.list me (index_at h.pt (seen_in is)) ≡ true = rw seen_as there in
    rw (eg, eu)
    (elim f.list as (λ l. HasRoom l hs → is_linked_at l me (index_at h.pt (seen_in is)) ≡ true →
    IsKept most is linked (elim l [ Priority ↦ t | Overflow ↦ recorded_by me one_more t ])
    (elim l [ Priority ↦ hs | Overflow ↦ unexpected_list (hs.unexpected ++ a ∷ []) hs.limit ])) [
      | Priority ↦ λ r l. k
      | Overflow ↦ λ r l. let w = recorded-on me (seen_in is) hs.unexpected t k.recorded (linked-anywhere Overflow me h.pt (seen_in is) l)
          in kept-more most linked a is t hs k w.0 w.1 r
    ] room at)

-- the oldest header that an entry finds goes
pub kept-fewer : (most linked pt : ℕ) (e : Entry) (a : IndexedHeader) (is : List PortalEntry) (t u : Table EntryRecord)
    (hs gs : UnexpectedList) → IsKept most is linked t hs → oldest pt e hs.unexpected ≡ Some a →
    gs ≡ unexpected_list (without_oldest pt e hs.unexpected) hs.limit → u ≡ recorded_by a.header.entry one_fewer t →
    IsKept most is linked u gs
kept-fewer most linked pt e a is t u hs gs k o eg eu =
    let n = unexpected-oldest (lies_in (λ h. true)) pt e hs.unexpected a o in
    rw (eg, eu)
    (record {
      recorded = recorded-fewer a (seen_in is) hs.unexpected (without_oldest pt e hs.unexpected) t k.recorded
          (λ p. unexpected-oldest p pt e hs.unexpected a o);
      portal_entries = same-portal_entries most linked is t (recorded_by a.header.entry one_fewer t) hs k
          (given-by a.header.entry one_fewer t);
      limit = limit-by a.header.entry one_fewer t ∙ k.limit;
      count = k.count;
      held = omega (arith, n, k.held, unexpected-all hs.unexpected, unexpected-all (without_oldest pt e hs.unexpected));
      small = k.small;
    })

pub kept-frees : (most linked pt : ℕ) (e : Entry) (a : IndexedHeader) (is : List PortalEntry) (t : Table EntryRecord)
    (hs : UnexpectedList) → IsKept most is linked t hs → oldest pt e hs.unexpected ≡ Some a →
    frees_at (seen_in is) t a ≡ not (is_linked_at Overflow a.header.entry (index_at a.pt (seen_in is)) || names_entry a.header.entry
    (without_oldest pt e hs.unexpected))
kept-frees most linked pt e a is t hs k o = recorded-frees a (seen_in is) hs.unexpected (without_oldest pt e hs.unexpected) t k.recorded
    (λ p. unexpected-oldest p pt e hs.unexpected a o)

-- all headers that an entry finds go
pub kept-left : (most linked pt : ℕ) (e : Entry) (is : List PortalEntry) (t u : Table EntryRecord) (hs gs : UnexpectedList) →
    IsKept most is linked t hs → AreRecorded (seen_in is) (left_in pt e hs.unexpected) u → u.limit ≡ t.limit → u.given ≡ t.given →
    gs ≡ unexpected_list (left_in pt e hs.unexpected) hs.limit → IsKept most is linked u gs
kept-left most linked pt e is t u hs gs k recorded limit given eg =
    rw eg
    (record {
      recorded = recorded;
      portal_entries = same-portal_entries most linked is t u hs k given;
      limit = limit ∙ k.limit;
      count = k.count;
      held = omega (
        arith,
        unexpected-both (lies_in (λ h. true)) pt e hs.unexpected,
        k.held,
        unexpected-all hs.unexpected,
        unexpected-all (left_in pt e hs.unexpected),
      );
      small = k.small;
    })

-- ---- a portal table entry

pub kept-put : (most n pt linked : ℕ) (is was new : List PortalEntry) (o : Option Index) (t : Table EntryRecord) (hs : UnexpectedList) →
    IsKept most is linked t hs → was ≡ is → length new ≡ n → seen_in new ≡ slice_set (seen_in was) pt o
    → KeepsPortalEntries was new → entries_in o ≡ 0 → entries_in (index_at pt (seen_in is)) ≡ 0 →
    IsKept most (take n (new ++ drop (length new) is)) linked t hs
kept-put most n pt linked is was new o t hs k e len after keeps none had =
    kept-lent most n linked is new (slice_set (seen_in is) pt o) t hs len (after ∙ ap (λ x. slice_set (seen_in x) pt o) e)
    (recorded-empty pt (seen_in is) hs.unexpected t o k.recorded none had)
    (still-portal_entries most linked is was new t t hs k e keeps refl) k.limit (k.count ∙ sym (many-empty pt (seen_in is) o none had))
    k.held k.small

-- ---- an entry goes

pub kept-unlinked : (most n linked : ℕ) (me : Handle) (w : EntryRecord) (is was new : List PortalEntry) (t u : Table EntryRecord)
    (hs : UnexpectedList) → IsKept most is linked t hs → was ≡ is → length new ≡ n
    → seen_in new ≡ slice_set (seen_in was) w.pt (unlinked_in me (index_at w.pt (seen_in was))) → KeepsPortalEntries was new →
    u ≡ recorded_by me not_linked t → lookup me t.live ≡ Some w → w.linked ≡ true
    → IsKept most (take n (new ++ drop (length new) is)) (linked - 1) u hs
kept-unlinked most n linked me w is was new t u hs k e len after keeps gone at on =
    let recorded : AreRecorded (map (unlinked_in me) (seen_in is)) hs.unexpected u =
    rw gone (recorded-unlinked me w (seen_in is) hs.unexpected t k.recorded at) in
    let given : u.given ≡ t.given = ap (λ (x : Table EntryRecord). x.given) gone ∙ given-by me not_linked t in
    kept-lent most n (linked - 1) is new (map (unlinked_in me) (seen_in is)) u hs len
    (after ∙ ap (λ x. slice_set (seen_in x) w.pt (unlinked_in me (index_at w.pt (seen_in x)))) e
    ∙ sym (unlinked-at me w (seen_in is) hs.unexpected t k.recorded at)) recorded
    (still-portal_entries most linked is was new t u hs k e keeps given) (ap (λ (x : Table EntryRecord). x.limit) gone
    ∙ limit-by me not_linked t ∙ k.limit) (omega (arith, k.count, one-off me w (seen_in is) hs.unexpected t k.recorded at on)) k.held
    k.small

-- ---- an entry comes

pub kept-linked : (most n pt slot linked : ℕ) (list : EntryList) (entry : Entry) (me : Handle) (is was new : List PortalEntry)
    (t u : Table EntryRecord) (hs : UnexpectedList) → IsKept most is linked t hs → was ≡ is → length new ≡ n
    → seen_in new ≡ slice_set (seen_in was) pt (linked_at list (fresh me entry) (index_at pt (seen_in was))) →
    ((most records given : ℕ) → All (IsPortalEntry most records given) was → All (IsPortalEntry most records (given + 1)) new)
    → u ≡ with_new slot (fresh_at pt entry.ct) t → me ≡ handle slot t.given → is_some (index_at pt (seen_in is)) ≡ true →
    has_slot slot t.live ≡ false → IsKept most (take n (new ++ drop (length new) is)) (linked + 1) u hs
kept-linked most n pt slot linked list entry me is was new t u hs k e len after keeps more named there free =
    let ks : List (Option Index) = slice_set (seen_in is) pt (linked_at list (fresh me entry) (index_at pt (seen_in is))) in
    let recorded : AreRecorded ks hs.unexpected u = rw (more, named)
    (recorded-linked slot pt list entry (seen_in is) hs.unexpected t k.recorded there free) in
    let many : sum_by entries_in ks ≡ sum_by entries_in (seen_in is) + 1 =
    rw named (many-linked slot pt t.given list entry (seen_in is) there) in
    let given : u.given ≡ t.given + 1 = ap (λ (x : Table EntryRecord). x.given) more in
    let portal_entries : All (IsPortalEntry most (most + hs.limit) u.given) new =
    subst (λ g. All (IsPortalEntry most (most + hs.limit) g) new) (sym given)
    (keeps most (most + hs.limit) t.given (subst (All (IsPortalEntry most (most + hs.limit) t.given)) (sym e) k.portal_entries)) in
    kept-lent most n (linked + 1) is new ks u hs len (after ∙ ap
    (λ x. slice_set (seen_in x) pt (linked_at list (fresh me entry) (index_at pt (seen_in x)))) e) recorded
    portal_entries (ap (λ (x : Table EntryRecord). x.limit) more ∙ k.limit) (omega (arith, k.count, many)) k.held k.small

pub none-in : (o : Option Index) → is_some o ≡ false → entries_in o ≡ 0
none-in None e = refl
none-in (Some i) e = cc

pub no-entries : (n : ℕ) → nat_lt 0 n ≡ false → n ≡ 0
no-entries n e = grind (arith, nat_tests)

-- where fewer entries are linked than may be, the records are full only where all stamps were given
full-by : (most linked n limit : ℕ) (top_given : Bool) → n ≤ linked + (limit - most) → most ≤ limit →
    (nat_le most linked || (nat_le limit n || top_given)) ≡ (nat_le most linked || top_given)
full-by most linked n limit top_given le at =
    elim (nat_le most linked) as (λ b. nat_le most linked ≡ b → (b || (nat_le limit n || top_given)) ≡ (b || top_given)) [
      | true ↦ λ e. refl
      | false ↦ λ e. let room : nat_le limit n ≡ false = grind (arith, nat_tests) in rw room refl
    ] refl

pub full-kept : (most linked : ℕ) (is : List PortalEntry) (t : Table EntryRecord) (hs : UnexpectedList) → IsKept most is linked t hs →
    (nat_le most linked || is_full t) ≡ (nat_le most (sum_by entries_in (seen_in is)) || nat_le top t.given)
full-kept most linked is t hs k =
    rw (← k.count) (full-by most linked (length t.live) t.limit (nat_le top t.given)
    (omega (arith, recorded-at_most (seen_in is) hs.unexpected t k.recorded, k.count, k.held, k.limit)) (omega (arith, k.limit)))

pub or-right : (a b : Bool) → (a || b) ≡ false → b ≡ false
or-right true b e = cc
or-right false b e = e

pub full-where : (most linked : ℕ) (is : List PortalEntry) (t : Table EntryRecord) (hs : UnexpectedList) → IsKept most is linked t hs →
    linked < most → is_full t ≡ (nat_le most (sum_by entries_in (seen_in is)) || nat_le top t.given)
full-where most linked is t hs k lt =
    let e : nat_le most linked ≡ false = grind (arith, nat_tests) in
    rw e at (full-kept most linked is t hs k)

pub linked-at_most : (most linked : ℕ) (is : List PortalEntry) (t : Table EntryRecord) (hs : UnexpectedList) →
    IsKept most is linked t hs → (nat_le most (sum_by entries_in (seen_in is)) || nat_le top t.given) ≡ false → linked < most
linked-at_most most linked is t hs k e =
    elim (nat_le most (sum_by entries_in (seen_in is))) as (λ b. nat_le most (sum_by entries_in (seen_in is)) ≡ b →
    (b || nat_le top t.given) ≡ false → linked < most) [
      | true ↦ λ f g. cc
      | false ↦ λ f g. let lt : sum_by entries_in (seen_in is) < most = grind (arith, nat_tests) in omega (arith, k.count)
    ] refl e
