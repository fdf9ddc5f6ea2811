-- A portal table entry is seen as its index, where one is allocated: in the table, and after a change of one place.
use Rattle.std.proofs.Common.{◌≡◌, ℕ, ◌+◌, ◌<◌, ◌≤◌, Bool, true, false, List, Option, Some, None, length, get_or, set, ◌++◌, [], ◌∷◌}
use Rattle.std.proofs.Common.{if◌then◌else◌, refl, ap, sym, ◌∙◌, arith, replicate}
use Rattle.std.specs.Prelude.{All, is_some}
use Rattle.std.proofs.lemmas.List.{map-set, get_or-map, get_or_past, length-map}
use Rattle.std.proofs.lemmas.List.Elements.{All-head, All-tail, All-nil, All-cons, All-get_or, All-set}
use Rattle.ptl_types.specs.declared.handles.Handle.{Handle}
use Rattle.ptl_types.specs.declared.headers.Header.{Header}
use Rattle.ptl_types.specs.declared.entries.List.{List as EntryList}
use Rattle.ptl_types.specs.declared.entries.List.TheVariants.{Priority, Overflow}
use Rattle.ni_model.specs.declared.Linked.{Linked}
use Rattle.ni_model.specs.declared.Found.{Found}
use Rattle.ni_model.specs.Lists.{Index, index_at, entries_in}
use Rattle.ni_model.specs.Arrive.{is_over, running_after}
use Rattle.ni_model.specs.Append.{linked_at}
use Rattle.ni_model.specs.Calls.{new_index, unlinked_in}
use Rattle.match_lists.specs.Lists.{Both, linked_as, with_entries, without_entry, advanced_to}
use Rattle.target_engine.specs.declared.index.Index.{Index as PortalEntry}
use Rattle.target_engine.specs.PortalTable.{index, seen, seen_in, linked_in, advanced_in, updated_lists, updated_in, AreEmpty, HasLists}
use Rattle.target_engine.specs.PortalTable.{IsPortalEntry, IsUnused}

-- ---- one place

pub seen-on : (i : PortalEntry) → i.allocated ≡ true → seen i ≡ Some (index i.eq i.lists)
seen-on i e = rw e refl

pub seen-off : (i : PortalEntry) → i.allocated ≡ false → seen i ≡ None
seen-off i e = rw e refl

pub on-seen : (i : PortalEntry) → is_some (seen i) ≡ true → i.allocated ≡ true
on-seen i e = elim i.allocated as (λ b. is_some (if b then Some (index i.eq i.lists) else None) ≡ true → b ≡ true)
    [ true ↦ λ f. refl | false ↦ λ f. cc ] e

pub linked-seen : (me : Handle) (x : Linked) (i : PortalEntry) → linked_in me (seen i) ≡ Some x → linked_as me i.lists ≡ Some x
linked-seen me x i e =
    elim i.allocated as (λ b. linked_in me (if b then Some (index i.eq i.lists) else None) ≡ Some x → linked_as me i.lists ≡ Some x)
    [ true ↦ λ f. f | false ↦ λ f. cc ] e

no-length : {A : Type 0} (xs : List A) → length xs ≡ 0 → xs ≡ []
no-length [] e = refl
no-length (x ∷ xs) e = absurd (omega arith)

none-linked : (b : Both) → length b.priority + length b.overflow ≡ 0 → AreEmpty b
none-linked b e = (no-length b.priority (omega arith), no-length b.overflow (omega arith))

-- where no entry is linked the lists are empty
pub seen-empty : (i : PortalEntry) → HasLists i → entries_in (seen i) ≡ 0 → AreEmpty i.lists
seen-empty i has e =
    elim i.allocated as (λ b. i.allocated ≡ b → entries_in (if b then Some (index i.eq i.lists) else None) ≡ 0 → AreEmpty i.lists) [
      | true ↦ λ on f. none-linked i.lists f
      | false ↦ λ on f. has on
    ] refl e

-- ---- a place whose lists change

abbrev pub with_lists : PortalEntry → Both → PortalEntry
with_lists i b = record i { lists = b }

pub new-seen : (eq : Option Handle) (b : Both) → AreEmpty b → Some (index eq b) ≡ Some (new_index eq)
new-seen eq b e = rw (e.0, e.1) refl

pub linked-index : (list : EntryList) (x : Linked) (n : ℕ) (i : PortalEntry) →
    seen (with_lists i (with_entries list (λ xs. xs ++ x ∷ []) n i.lists)) ≡ linked_at list x (seen i)
linked-index Priority x n i =
    elim i.allocated as (λ b. (if b then Some (index i.eq (with_entries Priority (λ xs. xs ++ x ∷ []) n i.lists)) else None) ≡ linked_at
    Priority x (if b then Some (index i.eq i.lists) else None)) [ true ↦ refl | false ↦ refl ]
linked-index Overflow x n i =
    elim i.allocated as (λ b. (if b then Some (index i.eq (with_entries Overflow (λ xs. xs ++ x ∷ []) n i.lists)) else None) ≡ linked_at
    Overflow x (if b then Some (index i.eq i.lists) else None)) [ true ↦ refl | false ↦ refl ]

pub unlinked-index : (me : Handle) (i : PortalEntry) → seen (with_lists i (without_entry me i.lists)) ≡ unlinked_in me (seen i)
unlinked-index me i =
    elim i.allocated as (λ b. (if b then Some (index i.eq (without_entry me i.lists)) else None) ≡ unlinked_in me
    (if b then Some (index i.eq i.lists) else None)) [ true ↦ refl | false ↦ refl ]

abbrev updated_more : Found → Header → Option Index → Option Index
updated_more f h o = if f.linked.entry.manage_local then advanced_in f.linked.handle (running_after f.linked h) o else o

updated-here : (f : Found) (h : Header) (eq : Option Handle) (b : Both) → Some (index eq (updated_lists f h b)) ≡ updated_in f h
    (Some (index eq b))
updated-here f h eq b =
    elim (is_over f.linked h) as (λ o. Some (index eq (if o then without_entry f.linked.handle b else
    (if f.linked.entry.manage_local then advanced_to f.linked.handle (running_after f.linked h) b else b)))
    ≡ (if o then unlinked_in f.linked.handle (Some (index eq b)) else updated_more f h (Some (index eq b)))) [
      | true ↦ refl
      | false ↦ elim f.linked.entry.manage_local as (λ m. Some
          (index eq (if m then advanced_to f.linked.handle (running_after f.linked h) b else b))
          ≡ (if m then advanced_in f.linked.handle (running_after f.linked h) (Some (index eq b)) else Some (index eq b)))
          [ true ↦ refl | false ↦ refl ]
    ]

updated-none : (f : Found) (h : Header) → updated_in f h None ≡ None
updated-none f h =
    elim (is_over f.linked h) as (λ o. (if o then None else updated_more f h None) ≡ None) [
      | true ↦ refl
      | false ↦ elim f.linked.entry.manage_local as (λ m. (if m then advanced_in f.linked.handle (running_after f.linked h) None else
          None) ≡ None) [ true ↦ refl | false ↦ refl ]
    ]

pub updated-index : (f : Found) (h : Header) (i : PortalEntry) → seen (with_lists i (updated_lists f h i.lists)) ≡ updated_in f h (seen i)
updated-index f h i =
    elim i.allocated as (λ b. (if b then Some (index i.eq (updated_lists f h i.lists)) else None) ≡ updated_in f h
    (if b then Some (index i.eq i.lists) else None)) [
      | true ↦ updated-here f h i.eq i.lists
      | false ↦ sym (updated-none f h)
    ]

-- ---- what it keeps

-- lists with as much room, and empty where these were
record StaysPortalEntry (b c : Both) : Type 0 where
  limit : c.limit ≡ b.limit
  slots : c.slots ≡ b.slots
  at_most : c.appended ≡ b.appended
  empty : AreEmpty b → AreEmpty c

stays-portal_entry : (i : PortalEntry) (c : Both) (most slots given : ℕ) → StaysPortalEntry i.lists c → IsPortalEntry most slots given i →
    IsPortalEntry most slots given (with_lists i c)
stays-portal_entry i c most slots given s k = record {
  limit = s.limit ∙ k.limit;
  slots = s.slots ∙ k.slots;
  at_most =
      omega (arith, s.at_most, k.at_most);
  empty = λ off. s.empty (k.empty off);
}

unlinked-stays : (me : Handle) (b : Both) → StaysPortalEntry b (without_entry me b)
unlinked-stays me b = record { limit = refl; slots = refl; at_most = refl; empty = λ e. (rw e.0 refl, rw e.1 refl) }

advanced-stays : (me : Handle) (to : ℕ) (b : Both) → StaysPortalEntry b (advanced_to me to b)
advanced-stays me to b = record { limit = refl; slots = refl; at_most = refl; empty = λ e. (rw e.0 refl, rw e.1 refl) }

same-stays : (b : Both) → StaysPortalEntry b b
same-stays b = record { limit = refl; slots = refl; at_most = refl; empty = λ e. e }

updated-stays : (f : Found) (h : Header) (b : Both) → StaysPortalEntry b (updated_lists f h b)
updated-stays f h b =
    elim (is_over f.linked h) as (λ o. StaysPortalEntry b (if o then without_entry f.linked.handle b else
    (if f.linked.entry.manage_local then advanced_to f.linked.handle (running_after f.linked h) b else b))) [
      | true ↦ unlinked-stays f.linked.handle b
      | false ↦ elim f.linked.entry.manage_local as (λ m. StaysPortalEntry b
          (if m then advanced_to f.linked.handle (running_after f.linked h) b else b)) [
            | true ↦ advanced-stays f.linked.handle (running_after f.linked h) b
            | false ↦ same-stays b
          ]
    ]

pub unlinked-portal_entry : (me : Handle) (i : PortalEntry) (most slots given : ℕ) → IsPortalEntry most slots given i →
    IsPortalEntry most slots given (with_lists i (without_entry me i.lists))
unlinked-portal_entry me i most slots given k = stays-portal_entry i (without_entry me i.lists) most slots given
    (unlinked-stays me i.lists) k

pub updated-portal_entry : (f : Found) (h : Header) (i : PortalEntry) (most slots given : ℕ) → IsPortalEntry most slots given i →
    IsPortalEntry most slots given (with_lists i (updated_lists f h i.lists))
updated-portal_entry f h i most slots given k = stays-portal_entry i (updated_lists f h i.lists) most slots given
    (updated-stays f h i.lists) k

pub linked-portal_entry : (list : EntryList) (x : Linked) (i : PortalEntry) (most slots given : ℕ) → i.allocated ≡ true →
    IsPortalEntry most slots given i → IsPortalEntry most slots (given + 1)
    (with_lists i (with_entries list (λ xs. xs ++ x ∷ []) (i.lists.appended + 1) i.lists))
linked-portal_entry Priority x i most slots given on k = record {
  limit = k.limit;
  slots = k.slots;
  at_most =
      omega (arith, k.at_most);
  empty = λ off. let both : true ≡ false = sym on ∙ off in cc;
}
linked-portal_entry Overflow x i most slots given on k = record {
  limit = k.limit;
  slots = k.slots;
  at_most =
      omega (arith, k.at_most);
  empty = λ off. let both : true ≡ false = sym on ∙ off in cc;
}

pub recorded-portal_entry : (allocated : Bool) (eq : Option Handle) (i : PortalEntry) (most slots given : ℕ) → AreEmpty i.lists →
    IsPortalEntry most slots given i → IsPortalEntry most slots given (record { allocated = allocated; eq = eq; lists = i.lists })
recorded-portal_entry allocated eq i most slots given empty k =
    record { limit = k.limit; slots = k.slots; at_most = k.at_most; empty = λ off. empty }

pub portal_entry-more : (i : PortalEntry) (most slots m n : ℕ) → m ≤ n → IsPortalEntry most slots m i → IsPortalEntry most slots n i
portal_entry-more i most slots m n le k = record { limit = k.limit; slots = k.slots; at_most = omega (arith, k.at_most); empty = k.empty }

-- ---- all places

pub portal_entries-more : (is : List PortalEntry) (most slots m n : ℕ) → m ≤ n → All (IsPortalEntry most slots m) is →
    All (IsPortalEntry most slots n) is
portal_entries-more [] most slots m n le all = All-nil (IsPortalEntry most slots n)
portal_entries-more (i ∷ is) most slots m n le all =
    All-cons (IsPortalEntry most slots n) i is (portal_entry-more i most slots m n le (All-head (IsPortalEntry most slots m) i is all))
    (portal_entries-more is most slots m n le (All-tail (IsPortalEntry most slots m) i is all))

pub portal_entries-lists : (is : List PortalEntry) (most slots given : ℕ) → All (IsPortalEntry most slots given) is → All HasLists is
portal_entries-lists [] most slots given all = All-nil HasLists
portal_entries-lists (i ∷ is) most slots given all =
    All-cons HasLists i is ((All-head (IsPortalEntry most slots given) i is all).empty)
    (portal_entries-lists is most slots given (All-tail (IsPortalEntry most slots given) i is all))

unused-portal_entry : (most slots : ℕ) (i : PortalEntry) → IsUnused most slots i → IsPortalEntry most slots 0 i
unused-portal_entry most slots i u = record {
  limit = rw u.lists refl;
  slots = rw u.lists refl;
  at_most =
      rw u.lists (omega arith);
  empty = λ off. rw u.lists (refl, refl);
}

pub unused-portal_entries : (most slots : ℕ) (is : List PortalEntry) → All (IsUnused most slots) is → All (IsPortalEntry most slots 0) is
unused-portal_entries most slots [] all = All-nil (IsPortalEntry most slots 0)
unused-portal_entries most slots (i ∷ is) all =
    All-cons (IsPortalEntry most slots 0) i is (unused-portal_entry most slots i (All-head (IsUnused most slots) i is all))
    (unused-portal_entries most slots is (All-tail (IsUnused most slots) i is all))

pub unused-seen : (most slots : ℕ) (is : List PortalEntry) → All (IsUnused most slots) is → seen_in is ≡ replicate (length is) None
unused-seen most slots [] all = refl
unused-seen most slots (i ∷ is) all =
    let off = seen-off i ((All-head (IsUnused most slots) i is all).free) in
    (λ k. off k ∷ unused-seen most slots is (All-tail (IsUnused most slots) i is all) k)

-- ---- a look-up in the table

pub index_at-seen : (pt : ℕ) (is : List PortalEntry) (d : PortalEntry) → pt < length is → index_at pt (seen_in is) ≡ seen (get_or is pt d)
index_at-seen pt is d lt = get_or-map seen is pt d None lt

pub index_at-past : (pt : ℕ) (is : List PortalEntry) → length is ≤ pt → index_at pt (seen_in is) ≡ None
index_at-past pt is le = get_or_past (seen_in is) pt None (omega (arith, length-map is seen))

-- a write to one place
pub seen-set : (is : List PortalEntry) (k : ℕ) (i : PortalEntry) → seen_in (set is k i) ≡ set (seen_in is) k (seen i)
seen-set is k i = map-set seen is k i

pub set-seen : (is : List PortalEntry) (k : ℕ) (i : PortalEntry) (o : Option Index) → seen i ≡ o →
    seen_in (set is k i) ≡ set (seen_in is) k o
set-seen is k i o e = seen-set is k i ∙ ap (λ p. set (seen_in is) k p) e

-- by what the index was
pub set-seen_by : (is : List PortalEntry) (k : ℕ) (d i : PortalEntry) (f : Option Index → Option Index) → k < length is →
    seen i ≡ f (seen (get_or is k d)) → seen_in (set is k i) ≡ set (seen_in is) k (f (index_at k (seen_in is)))
set-seen_by is k d i f lt e = set-seen is k i (f (index_at k (seen_in is))) (e ∙ ap f (sym (index_at-seen k is d lt)))

pub set-portal_entry : (is : List PortalEntry) (k : ℕ) (d i : PortalEntry) (most records m n : ℕ) → m ≤ n → k < length is →
    (IsPortalEntry most records m (get_or is k d) → IsPortalEntry most records n i)
    → All (IsPortalEntry most records m) is → All (IsPortalEntry most records n) (set is k i)
set-portal_entry is k d i most records m n le lt keeps all =
    All-set (IsPortalEntry most records n) is k i (keeps (All-get_or (IsPortalEntry most records m) is k d lt all))
    (portal_entries-more is most records m n le all)

-- where no entry is linked the lists are empty
pub empty-at : (is : List PortalEntry) (k : ℕ) (d : PortalEntry) → k < length is → All HasLists is →
    entries_in (index_at k (seen_in is)) ≡ 0 → AreEmpty (get_or is k d).lists
empty-at is k d lt has none = seen-empty (get_or is k d) (All-get_or HasLists is k d lt has)
    (ap entries_in (sym (index_at-seen k is d lt)) ∙ none)
