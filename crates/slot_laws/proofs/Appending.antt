-- Appending and searching, and the calls on entries and portal table indices, under renamed handles.
use Rattle.std.proofs.Common.{◌≡◌, ℕ, Bool, true, false, ◌||◌, not, nat_le, nat_lt, ◌+◌, List, [], ◌∷◌, ◌++◌, length, map, cond}
use Rattle.std.proofs.Common.{is_some, Option, Some, None, refl, ap, ap₂, sym, ◌∙◌, option_map}
use Rattle.std.proofs.lemmas.List.{length-map, map-append, map-set}
use Rattle.std.specs.Prelude.{slice_set}
use Rattle.ptl_types.specs.declared.handles.Handle.{Handle}
use Rattle.ptl_types.specs.declared.handles.Count.{Count}
use Rattle.ptl_types.specs.declared.entries.Entry.{Entry}
use Rattle.ptl_types.specs.declared.entries.List.{List as EntryList}
use Rattle.ptl_types.specs.declared.entries.List.TheVariants.{Priority, Overflow}
use Rattle.ptl_types.specs.declared.entries.UnexpectedHeader.{UnexpectedHeader}
use Rattle.ptl_types.specs.declared.events.EventKind.{EventKind}
use Rattle.ptl_types.specs.declared.events.EventKind.TheVariants.{Search}
use Rattle.ptl_types.specs.declared.calls.Appended.{Appended}
use Rattle.ptl_types.specs.declared.calls.Appended.TheVariants.{Linked as IsLinked}
use Rattle.ptl_types.specs.declared.calls.NiFault.TheVariants.{InUse, NoSpace, OutOfRegion, Stale}
use Rattle.ptl_types.specs.Handles.{top}
use Rattle.ni_model.specs.declared.Linked.{Linked}
use Rattle.ni_model.specs.declared.IndexedHeader.{IndexedHeader}
use Rattle.ni_model.specs.Tables.{Table, handle}
use Rattle.ni_model.specs.Counts.{counted, successes}
use Rattle.ni_model.specs.Queues.{Waiting}
use Rattle.ni_model.specs.Lists.{Index, entries_in, index_at}
use Rattle.ni_model.specs.Headers.{found_in, headers_of, left_in, oldest, without_oldest}
use Rattle.ni_model.specs.Events.{header_event, kind_taken, link_event, missed_event}
use Rattle.ni_model.specs.Arrive.{Parts, Side, parts}
use Rattle.ni_model.specs.Append.{Appends, Searched, append, append_fault, append_once, counted_by, each_counted, each_gone, found_header}
use Rattle.ni_model.specs.Append.{fresh, gone_raised, is_allocated, is_within, link_entry, link_side, linked_as, linked_at, need}
use Rattle.ni_model.specs.Append.{overflow_counter, search, search_fault, searched_at, take_all, take_oldest, with_unexpected}
use Rattle.ni_model.specs.State.{State, parts_of, side_of, with_parts}
use Rattle.ni_model.specs.Refusals.{holds_something, is_linked_anywhere, is_linked_in, pt_alloc_fault, pt_free_fault, unlink_fault}
use Rattle.ni_model.specs.Calls.{ends_by, me_append, me_search, me_unlink, new_index, pt_alloc, pt_free, unlinked_in, with_index}
use Rattle.slot_laws.specs.Renaming.{IsRenaming, Renaming}
use Rattle.slot_laws.specs.Renamed.{renamed, renamed_appended, renamed_entry, renamed_index, renamed_indexed, renamed_indices}
use Rattle.slot_laws.specs.Renamed.{renamed_linked, renamed_parts, renamed_side, renamed_things, renamed_unexpected}
use Rattle.slot_laws.proofs.terms.Answered.{renamed_appends, renamed_done, renamed_result, renamed_searched}
use Rattle.slot_laws.proofs.Base.{is_live_or_none_renamed, mapped_twice, where_set_renamed}
use Rattle.slot_laws.proofs.Ending.{ends_by_as, ends_by_same}
use Rattle.slot_laws.proofs.Telling.{counted_renamed}
use Rattle.slot_laws.proofs.Indices.{entries_in_renamed, index_at_renamed, is_linked_renamed, linked_count_renamed}
use Rattle.slot_laws.proofs.Indices.{unlinked_renamed, with_list_renamed}
use Rattle.slot_laws.proofs.Headers.{each_counted_renamed, each_gone_renamed, found_in_renamed, gone_raised_renamed, headers_of_renamed}
use Rattle.slot_laws.proofs.Headers.{left_in_renamed, names_entry_renamed, oldest_renamed, told_at_renamed, without_oldest_renamed}

-- ---- refusals

pub is_allocated_renamed : (r : Renaming) (pt : ℕ) (s : Side) → is_allocated pt (renamed_side r s) ≡ is_allocated pt s
is_allocated_renamed r pt s =
    ap is_some (index_at_renamed r pt s.indices)
    ∙ elim (index_at pt s.indices) as (λ o. is_some (option_map (renamed_index r) o) ≡ is_some o) [ Some i ↦ refl | None ↦ refl ]

pub append_fault_renamed : (r : Renaming) → IsRenaming r → (pt : ℕ) (e : Entry) (p : Parts) →
    append_fault pt (renamed_entry r e) (renamed_parts r p) ≡ append_fault pt e p
append_fault_renamed r rs pt e p =
    ap₂ (λ a later. need a Stale later) (is_allocated_renamed r pt p.side)
    (ap₂ (λ a later. need a Stale later) (is_live_or_none_renamed r.ct (λ x. x) rs.ct e.ct p.cts)
    (ap (λ n. need (not (nat_le p.side.limit n || nat_le top p.side.given)) NoSpace
    (need (is_within e.start e.length (length p.region)) OutOfRegion None))
    (linked_count_renamed r p.side)))

pub search_fault_renamed : (r : Renaming) (pt : ℕ) (p : Parts) → search_fault pt (renamed_parts r p) ≡ search_fault pt p
search_fault_renamed r pt p = ap (λ a. need a Stale None) (is_allocated_renamed r pt p.side)

pub is_linked_in_renamed : (r : Renaming) → IsRenaming r → (me : Handle) (o : Option Index) →
    is_linked_in (r.me me) (option_map (renamed_index r) o) ≡ is_linked_in me o
is_linked_in_renamed r rs me None = refl
is_linked_in_renamed r rs me (Some i) =
    ap₂ (λ a b. a || b) (is_linked_renamed r rs me i.priority) (is_linked_renamed r rs me i.overflow)

pub is_linked_anywhere_renamed : (r : Renaming) → IsRenaming r → (me : Handle) (is : List (Option Index)) →
    is_linked_anywhere (r.me me) (renamed_indices r is) ≡ is_linked_anywhere me is
is_linked_anywhere_renamed r rs me [] = refl
is_linked_anywhere_renamed r rs me (i ∷ is) =
    ap₂ (λ a b. a || b) (is_linked_in_renamed r rs me i) (is_linked_anywhere_renamed r rs me is)

pub unlink_fault_renamed : (r : Renaming) → IsRenaming r → (me : Handle) (s : Side) →
    unlink_fault (r.me me) (renamed_side r s) ≡ unlink_fault me s
unlink_fault_renamed r rs me s =
    ap₂ (λ a b. need a Stale (need (not b) InUse None))
    (is_linked_anywhere_renamed r rs me s.indices)
    (names_entry_renamed r rs me s.headers.unexpected)

pub pt_alloc_fault_renamed : (r : Renaming) → IsRenaming r → (pt : ℕ) (eq : Option Handle) (s : Side) (eqs : Table Waiting) →
    pt_alloc_fault pt (option_map r.eq eq) (renamed_side r s) (renamed_things r.eq eqs) ≡ pt_alloc_fault pt eq s eqs
pt_alloc_fault_renamed r rs pt eq s eqs =
    ap₂ (λ a later. need a Stale later)
    (is_live_or_none_renamed r.eq (λ x. x) rs.eq eq eqs)
    (ap₂ (λ n a. need (nat_lt pt n) NoSpace (need (not a) InUse None))
    (length-map s.indices (option_map (renamed_index r)))
    (is_allocated_renamed r pt s))

pub holds_something_renamed : (r : Renaming) (pt : ℕ) (s : Side) → holds_something pt (renamed_side r s) ≡ holds_something pt s
holds_something_renamed r pt s =
    ap₂ (λ a b. nat_lt 0 a || nat_lt 0 b)
    (ap entries_in (index_at_renamed r pt s.indices) ∙ entries_in_renamed r (index_at pt s.indices))
    (ap length (headers_of_renamed r pt s.headers.unexpected) ∙ length-map (headers_of pt s.headers.unexpected) (renamed_indexed r))

pub pt_free_fault_renamed : (r : Renaming) (pt : ℕ) (s : Side) → pt_free_fault pt (renamed_side r s) ≡ pt_free_fault pt s
pt_free_fault_renamed r pt s =
    ap₂ (λ a b. need a Stale (need (not b) InUse None)) (is_allocated_renamed r pt s) (holds_something_renamed r pt s)

-- ---- the entry is linked

pub linked_at_renamed : (r : Renaming) (list : EntryList) (x : Linked) (o : Option Index) →
    linked_at list (renamed_linked r x) (option_map (renamed_index r) o) ≡ option_map (renamed_index r) (linked_at list x o)
linked_at_renamed r list x None = refl
linked_at_renamed r list x (Some i) =
    ap Some
    (with_list_renamed r list (λ xs. xs ++ renamed_linked r x ∷ []) (λ xs. xs ++ x ∷ [])
    (λ xs. sym (map-append (renamed_linked r) xs (x ∷ []))) i)

pub link_side_renamed : (r : Renaming) (slot slot' pt : ℕ) (list : EntryList) (e : Entry) (s : Side) →
    r.me (handle slot s.given) ≡ handle slot' s.given →
    link_side slot' pt list (renamed_entry r e) (renamed_side r s) ≡ renamed_side r (link_side slot pt list e s)
link_side_renamed r slot slot' pt list e s named =
    ap (λ is. record (renamed_side r s) { indices = is; given = s.given + 1 })
    (ap (λ me. slice_set (renamed_indices r s.indices) pt
    (linked_at list (fresh me (renamed_entry r e)) (index_at pt (renamed_indices r s.indices)))) (sym named)
    ∙ ap (λ o. slice_set (renamed_indices r s.indices) pt (linked_at list (renamed_linked r (fresh (handle slot s.given) e)) o))
    (index_at_renamed r pt s.indices)
    ∙ ap (slice_set (renamed_indices r s.indices) pt)
    (linked_at_renamed r list (fresh (handle slot s.given) e) (index_at pt s.indices))
    ∙ sym (map-set (option_map (renamed_index r)) s.indices pt (linked_at list (fresh (handle slot s.given) e) (index_at pt s.indices))))

pub link_entry_renamed : (r : Renaming) → IsRenaming r → (slot slot' pt : ℕ) (list : EntryList) (e : Entry) (p : Parts) →
    r.me (handle slot p.side.given) ≡ handle slot' p.side.given →
    link_entry slot' pt list (renamed_entry r e) (renamed_parts r p) ≡ renamed_parts r (link_entry slot pt list e p)
link_entry_renamed r rs slot slot' pt list e p named =
    ap₂ (λ s eqs. parts s p.region (renamed_things r.ct p.cts) eqs)
    (link_side_renamed r slot slot' pt list e p.side named)
    (told_at_renamed r rs e.hidden pt (link_event pt e.match_bits) p.side.indices p.eqs)

-- ---- headers are taken

pub overflow_counter_renamed : (r : Renaming) (e : Entry) → overflow_counter (renamed_entry r e) ≡ option_map r.ct (overflow_counter e)
overflow_counter_renamed r e = where_set_renamed r.ct e.count_overflow e.ct

parts_alike : (region : List ℕ) {s s' : Side} {cts cts' : Table Count} {eqs eqs' : Table Waiting} → s ≡ s' → cts ≡ cts' → eqs ≡ eqs' →
    parts s region cts eqs ≡ parts s' region cts' eqs'
parts_alike region {s} {s'} {cts} {cts'} {eqs} {eqs'} a b c =
    ap₂ (λ x y. parts x region y eqs) a b ∙ ap (parts s' region cts') c

pub take_all_renamed : (r : Renaming) → IsRenaming r → (pt : ℕ) (e : Entry) (p : Parts) →
    take_all pt (renamed_entry r e) (renamed_parts r p) ≡ renamed_parts r (take_all pt e p)
take_all_renamed r rs pt e p =
    parts_alike p.region
    (ap (λ xs. with_unexpected xs (renamed_side r p.side)) (left_in_renamed r pt e p.side.headers.unexpected))
    (ap₂ (λ ct xs. each_counted ct xs (renamed_things r.ct p.cts)) (overflow_counter_renamed r e)
    (found_in_renamed r pt e p.side.headers.unexpected)
    ∙ each_counted_renamed r rs (overflow_counter e) (found_in pt e p.side.headers.unexpected) p.cts)
    (ap₂ (λ left found. each_gone e.hidden (renamed_side r p.side) left found (renamed_things r.eq p.eqs))
    (left_in_renamed r pt e p.side.headers.unexpected) (found_in_renamed r pt e p.side.headers.unexpected)
    ∙ each_gone_renamed r rs e.hidden p.side (left_in pt e p.side.headers.unexpected) (found_in pt e p.side.headers.unexpected) p.eqs)

-- the header a goes, and those that are left stay
left_raised_renamed : (r : Renaming) → IsRenaming r → (kind : EventKind) (pt : ℕ) (e : Entry) (a : IndexedHeader) (p : Parts) →
    gone_raised kind e.hidden (renamed_side r p.side)
    (without_oldest pt (renamed_entry r e) (map (renamed_indexed r) p.side.headers.unexpected)) (renamed_indexed r a)
    (renamed_things r.eq p.eqs)
    ≡ renamed_things r.eq (gone_raised kind e.hidden p.side (without_oldest pt e p.side.headers.unexpected) a p.eqs)
left_raised_renamed r rs kind pt e a p =
    ap (λ left. gone_raised kind e.hidden (renamed_side r p.side) left (renamed_indexed r a) (renamed_things r.eq p.eqs))
    (without_oldest_renamed r pt e p.side.headers.unexpected)
    ∙ gone_raised_renamed r rs kind e.hidden p.side (without_oldest pt e p.side.headers.unexpected) a p.eqs

pub take_oldest_renamed : (r : Renaming) → IsRenaming r → (pt : ℕ) (e : Entry) (a : IndexedHeader) (p : Parts) →
    take_oldest pt (renamed_entry r e) (renamed_indexed r a) (renamed_parts r p) ≡ renamed_parts r (take_oldest pt e a p)
take_oldest_renamed r rs pt e a p =
    parts_alike p.region
    (ap (λ xs. with_unexpected xs (renamed_side r p.side)) (without_oldest_renamed r pt e p.side.headers.unexpected))
    (ap (λ ct. counted ct (successes 1) (renamed_things r.ct p.cts)) (overflow_counter_renamed r e)
    ∙ counted_renamed r.ct rs.ct (overflow_counter e) (successes 1) p.cts)
    (left_raised_renamed r rs (kind_taken a.header.header.kind) pt e a p)

-- ---- the append

pub counted_by_renamed : (r : Renaming) (e : Entry) (found : List IndexedHeader) →
    counted_by (renamed_entry r e) (map (renamed_indexed r) found) ≡ option_map r.ct (counted_by e found)
counted_by_renamed r e [] = refl
counted_by_renamed r e (a ∷ found) = overflow_counter_renamed r e

abbrev appends : Parts → Appended → Option Handle → Appends
appends p x ct = record { parts = p; appended = x; counted = ct }

appends_alike : {p p' : Parts} {x x' : Appended} {ct ct' : Option Handle} → p ≡ p' → x ≡ x' → ct ≡ ct' →
    appends p x ct ≡ appends p' x' ct'
appends_alike {p} {p'} {x} {x'} {ct} {ct'} a b c = ap₂ (λ y z. appends y z ct) a b ∙ ap (appends p' x') c

pub linked_as_renamed : (r : Renaming) → IsRenaming r → (slot slot' pt : ℕ) (list : EntryList) (e : Entry) (found : List IndexedHeader)
    (p : Parts) → r.me (handle slot p.side.given) ≡ handle slot' p.side.given →
    linked_as slot' pt list (renamed_entry r e) (map (renamed_indexed r) found) (renamed_parts r p)
    ≡ renamed_appends r (linked_as slot pt list e found p)
linked_as_renamed r rs slot slot' pt list e found p named =
    appends_alike (link_entry_renamed r rs slot slot' pt list e p named) (ap IsLinked (sym named)) (counted_by_renamed r e found)

append_once_renamed : (r : Renaming) → IsRenaming r → (slot slot' pt : ℕ) (e : Entry) (p : Parts) (o : Option IndexedHeader) →
    r.me (handle slot p.side.given) ≡ handle slot' p.side.given →
    append_once slot' pt (renamed_entry r e) (renamed_parts r p) (option_map (renamed_indexed r) o)
    ≡ renamed_appends r (append_once slot pt e p o)
append_once_renamed r rs slot slot' pt e p None named = linked_as_renamed r rs slot slot' pt Priority e [] p named
append_once_renamed r rs slot slot' pt e p (Some a) named =
    appends_alike (take_oldest_renamed r rs pt e a p) refl (overflow_counter_renamed r e)

linked_after_renamed : (r : Renaming) → IsRenaming r → (slot slot' pt : ℕ) (e : Entry) (p : Parts) →
    r.me (handle slot p.side.given) ≡ handle slot' p.side.given →
    linked_as slot' pt Priority (renamed_entry r e) (found_in pt (renamed_entry r e) (map (renamed_indexed r) p.side.headers.unexpected))
    (take_all pt (renamed_entry r e) (renamed_parts r p))
    ≡ renamed_appends r (linked_as slot pt Priority e (found_in pt e p.side.headers.unexpected) (take_all pt e p))
linked_after_renamed r rs slot slot' pt e p named =
    ap₂ (linked_as slot' pt Priority (renamed_entry r e)) (found_in_renamed r pt e p.side.headers.unexpected) (take_all_renamed r rs pt e p)
    ∙ linked_as_renamed r rs slot slot' pt Priority e (found_in pt e p.side.headers.unexpected) (take_all pt e p) named

pub append_renamed : (r : Renaming) → IsRenaming r → (slot slot' pt : ℕ) (list : EntryList) (e : Entry) (p : Parts) →
    r.me (handle slot p.side.given) ≡ handle slot' p.side.given →
    append slot' pt list (renamed_entry r e) (renamed_parts r p) ≡ renamed_appends r (append slot pt list e p)
unfolding append
append_renamed r rs slot slot' pt Overflow e p named = linked_as_renamed r rs slot slot' pt Overflow e [] p named
append_renamed r rs slot slot' pt Priority e p named =
    elim e.use_once as (λ b. cond b
    (append_once slot' pt (renamed_entry r e) (renamed_parts r p)
    (oldest pt (renamed_entry r e) (map (renamed_indexed r) p.side.headers.unexpected)))
    (linked_as slot' pt Priority (renamed_entry r e)
    (found_in pt (renamed_entry r e) (map (renamed_indexed r) p.side.headers.unexpected))
    (take_all pt (renamed_entry r e) (renamed_parts r p)))
    ≡ renamed_appends r (cond b (append_once slot pt e p (oldest pt e p.side.headers.unexpected))
    (linked_as slot pt Priority e (found_in pt e p.side.headers.unexpected) (take_all pt e p)))) [
      | true ↦
          ap (append_once slot' pt (renamed_entry r e) (renamed_parts r p)) (oldest_renamed r pt e p.side.headers.unexpected)
          ∙ append_once_renamed r rs slot slot' pt e p (oldest pt e p.side.headers.unexpected) named
      | false ↦ linked_after_renamed r rs slot slot' pt e p named
    ]

-- ---- the search

abbrev searched : Parts → Option UnexpectedHeader → Searched
searched p found = record { parts = p; found = found }

pub found_header_renamed : (r : Renaming) → IsRenaming r → (pt : ℕ) (e : Entry) (delete : Bool) (a : IndexedHeader) (p : Parts) →
    found_header pt (renamed_entry r e) delete (renamed_indexed r a) (renamed_parts r p) ≡ renamed_parts r (found_header pt e delete a p)
found_header_renamed r rs pt e true a p =
    ap₂ (λ xs eqs. parts (with_unexpected xs (renamed_side r p.side)) p.region (renamed_things r.ct p.cts) eqs)
    (without_oldest_renamed r pt e p.side.headers.unexpected)
    (left_raised_renamed r rs Search pt e a p)
found_header_renamed r rs pt e false a p =
    ap (parts (renamed_side r p.side) p.region (renamed_things r.ct p.cts))
    (told_at_renamed r rs e.hidden pt (header_event Search a) p.side.indices p.eqs)

searched_at_renamed : (r : Renaming) → IsRenaming r → (pt : ℕ) (e : Entry) (delete : Bool) (p : Parts) (o : Option IndexedHeader) →
    searched_at pt (renamed_entry r e) delete (renamed_parts r p) (option_map (renamed_indexed r) o)
    ≡ renamed_searched r (searched_at pt e delete p o)
searched_at_renamed r rs pt e delete p None =
    ap (λ eqs. searched (parts (renamed_side r p.side) p.region (renamed_things r.ct p.cts) eqs) None)
    (told_at_renamed r rs e.hidden pt (missed_event pt e.match_bits) p.side.indices p.eqs)
searched_at_renamed r rs pt e delete p (Some a) =
    ap (λ q. searched q (Some (renamed_unexpected r a.header))) (found_header_renamed r rs pt e delete a p)

pub search_renamed : (r : Renaming) → IsRenaming r → (pt : ℕ) (e : Entry) (delete : Bool) (p : Parts) →
    search pt (renamed_entry r e) delete (renamed_parts r p) ≡ renamed_searched r (search pt e delete p)
unfolding search
search_renamed r rs pt e delete p =
    ap (searched_at pt (renamed_entry r e) delete (renamed_parts r p)) (oldest_renamed r pt e p.side.headers.unexpected)
    ∙ searched_at_renamed r rs pt e delete p (oldest pt e p.side.headers.unexpected)

-- ---- the calls

pub me_append_renamed : (r : Renaming) → IsRenaming r → (slot slot' pt : ℕ) (list : EntryList) (e : Entry) (s : State) →
    r.me (handle slot s.entries_given) ≡ handle slot' s.entries_given →
    me_append slot' pt list (renamed_entry r e) (renamed r s)
    ≡ renamed_done r (renamed_result (renamed_appended r)) (me_append slot pt list e s)
me_append_renamed r rs slot slot' pt list e s named =
    ap₂ (λ fault a. ends_by fault (renamed r s) (with_parts a.parts (renamed r s)) a.appended)
    (append_fault_renamed r rs pt e (parts_of s))
    (append_renamed r rs slot slot' pt list e (parts_of s) named)
    ∙ ends_by_as r (renamed_appended r) (append_fault pt e (parts_of s)) s (with_parts (append slot pt list e (parts_of s)).parts s)
    (append slot pt list e (parts_of s)).appended

pub unlinked_in_renamed : (r : Renaming) → IsRenaming r → (me : Handle) (o : Option Index) →
    unlinked_in (r.me me) (option_map (renamed_index r) o) ≡ option_map (renamed_index r) (unlinked_in me o)
unlinked_in_renamed r rs me None = refl
unlinked_in_renamed r rs me (Some i) =
    ap₂ (λ xs ys. Some (record (renamed_index r i) { priority = xs; overflow = ys }))
    (unlinked_renamed r rs.me me i.priority) (unlinked_renamed r rs.me me i.overflow)

pub me_unlink_renamed : (r : Renaming) → IsRenaming r → (me : Handle) (s : State) →
    me_unlink (r.me me) (renamed r s) ≡ renamed_done r (λ x. x) (me_unlink me s)
me_unlink_renamed r rs me s =
    ap₂ (λ fault is. ends_by fault (renamed r s) (record (renamed r s) { indices = is }) tt)
    (unlink_fault_renamed r rs me (side_of s))
    (mapped_twice (unlinked_in (r.me me)) (option_map (renamed_index r)) (option_map (renamed_index r)) (unlinked_in me)
    (unlinked_in_renamed r rs me) s.indices)
    ∙ ends_by_same r (unlink_fault me (side_of s)) s (record s { indices = map (unlinked_in me) s.indices }) tt

pub me_search_renamed : (r : Renaming) → IsRenaming r → (pt : ℕ) (e : Entry) (delete : Bool) (s : State) →
    me_search pt (renamed_entry r e) delete (renamed r s)
    ≡ renamed_done r (renamed_result (option_map (renamed_unexpected r))) (me_search pt e delete s)
me_search_renamed r rs pt e delete s =
    ap₂ (λ fault x. ends_by fault (renamed r s) (with_parts x.parts (renamed r s)) x.found)
    (search_fault_renamed r pt (parts_of s))
    (search_renamed r rs pt e delete (parts_of s))
    ∙ ends_by_as r (option_map (renamed_unexpected r)) (search_fault pt (parts_of s)) s
    (with_parts (search pt e delete (parts_of s)).parts s) (search pt e delete (parts_of s)).found

pub pt_alloc_renamed : (r : Renaming) → IsRenaming r → (pt : ℕ) (eq : Option Handle) (s : State) →
    pt_alloc pt (option_map r.eq eq) (renamed r s) ≡ renamed_done r (λ x. x) (pt_alloc pt eq s)
pt_alloc_renamed r rs pt eq s =
    ap₂ (λ fault is. ends_by fault (renamed r s) (record (renamed r s) { indices = is }) tt)
    (pt_alloc_fault_renamed r rs pt eq (side_of s) s.eqs)
    (sym (map-set (option_map (renamed_index r)) s.indices pt (Some (new_index eq))))
    ∙ ends_by_same r (pt_alloc_fault pt eq (side_of s) s.eqs) s (with_index pt eq s) tt

pub pt_free_renamed : (r : Renaming) (pt : ℕ) (s : State) → pt_free pt (renamed r s) ≡ renamed_done r (λ x. x) (pt_free pt s)
pt_free_renamed r pt s =
    ap₂ (λ fault is. ends_by fault (renamed r s) (record (renamed r s) { indices = is }) tt)
    (pt_free_fault_renamed r pt (side_of s))
    (sym (map-set (option_map (renamed_index r)) s.indices pt None))
    ∙ ends_by_same r (pt_free_fault pt (side_of s)) s (record s { indices = slice_set s.indices pt None }) tt
