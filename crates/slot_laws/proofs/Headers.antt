-- Unexpected headers under renamed handles: which an entry finds, and what is told and counted of those that go.
use Rattle.std.proofs.Common.{◌≡◌, ℕ, Bool, true, false, ◌||◌, not, nat_le, List, [], ◌∷◌, ◌++◌, map, cond, Option}
use Rattle.std.proofs.Common.{refl, ap, ap₂, sym, ◌∙◌, option_map}
use Rattle.std.proofs.lemmas.List.{length-map, map-append}
use Rattle.ptl_types.specs.declared.handles.Handle.{Handle}
use Rattle.ptl_types.specs.declared.handles.Count.{Count}
use Rattle.ptl_types.specs.declared.entries.Entry.{Entry}
use Rattle.ptl_types.specs.declared.entries.HiddenEntryEvents.{HiddenEntryEvents}
use Rattle.ptl_types.specs.declared.entries.List.TheVariants.{Overflow}
use Rattle.ptl_types.specs.declared.events.Event.{Event}
use Rattle.ptl_types.specs.declared.events.EventKind.{EventKind}
use Rattle.ni_model.specs.declared.IndexedHeader.{IndexedHeader}
use Rattle.ni_model.specs.Tables.{Table}
use Rattle.ni_model.specs.Counts.{counted, successes}
use Rattle.ni_model.specs.Queues.{Waiting}
use Rattle.ni_model.specs.Lists.{Index, index_at, is_linked_at, queue_of}
use Rattle.ni_model.specs.Headers.{UnexpectedList, finds, found_in, headers_of, is_of, left_in, names_entry, no_room, oldest}
use Rattle.ni_model.specs.Headers.{without_oldest}
use Rattle.ni_model.specs.Events.{free_event, header_event, kind_taken}
use Rattle.ni_model.specs.Shown.{told_of_entry}
use Rattle.ni_model.specs.Arrive.{Side}
use Rattle.ni_model.specs.Append.{each_counted, each_gone, frees, gone_events, gone_raised}
use Rattle.slot_laws.specs.Renaming.{IsRenaming, Renaming}
use Rattle.slot_laws.specs.Renamed.{renamed_entry, renamed_headers, renamed_indexed, renamed_indices, renamed_side, renamed_things}
use Rattle.slot_laws.proofs.Base.{filter_mapped, find_mapped}
use Rattle.slot_laws.proofs.Telling.{counted_renamed, told_of_entry_renamed}
use Rattle.slot_laws.proofs.Indices.{index_at_renamed, is_linked_at_renamed, queue_of_index_renamed}

-- ---- which are found

pub oldest_renamed : (r : Renaming) (pt : ℕ) (e : Entry) (hs : List IndexedHeader) →
    oldest pt (renamed_entry r e) (map (renamed_indexed r) hs) ≡ option_map (renamed_indexed r) (oldest pt e hs)
oldest_renamed r pt e hs = find_mapped (finds pt (renamed_entry r e)) (finds pt e) (renamed_indexed r) (λ a. refl) hs

pub without_oldest_renamed : (r : Renaming) (pt : ℕ) (e : Entry) (hs : List IndexedHeader) →
    without_oldest pt (renamed_entry r e) (map (renamed_indexed r) hs) ≡ map (renamed_indexed r) (without_oldest pt e hs)
without_oldest_renamed r pt e [] = refl
without_oldest_renamed r pt e (a ∷ hs) =
    elim (finds pt e a) as (λ b. cond b (map (renamed_indexed r) hs)
    (renamed_indexed r a ∷ without_oldest pt (renamed_entry r e) (map (renamed_indexed r) hs))
    ≡ map (renamed_indexed r) (cond b hs (a ∷ without_oldest pt e hs))) [
      | true ↦ refl
      | false ↦ ap (λ xs. renamed_indexed r a ∷ xs) (without_oldest_renamed r pt e hs)
    ]

pub found_in_renamed : (r : Renaming) (pt : ℕ) (e : Entry) (hs : List IndexedHeader) →
    found_in pt (renamed_entry r e) (map (renamed_indexed r) hs) ≡ map (renamed_indexed r) (found_in pt e hs)
found_in_renamed r pt e hs = filter_mapped (finds pt (renamed_entry r e)) (finds pt e) (renamed_indexed r) (λ a. refl) hs

pub left_in_renamed : (r : Renaming) (pt : ℕ) (e : Entry) (hs : List IndexedHeader) →
    left_in pt (renamed_entry r e) (map (renamed_indexed r) hs) ≡ map (renamed_indexed r) (left_in pt e hs)
left_in_renamed r pt e hs =
    filter_mapped (λ a. not (finds pt (renamed_entry r e) a)) (λ a. not (finds pt e a)) (renamed_indexed r) (λ a. refl) hs

pub names_entry_renamed : (r : Renaming) → IsRenaming r → (me : Handle) (hs : List IndexedHeader) →
    names_entry (r.me me) (map (renamed_indexed r) hs) ≡ names_entry me hs
names_entry_renamed r is me [] = refl
names_entry_renamed r is me (a ∷ hs) = ap₂ (λ b c. b || c) (is.me.same a.header.entry me) (names_entry_renamed r is me hs)

pub headers_of_renamed : (r : Renaming) (pt : ℕ) (hs : List IndexedHeader) →
    headers_of pt (map (renamed_indexed r) hs) ≡ map (renamed_indexed r) (headers_of pt hs)
headers_of_renamed r pt hs = filter_mapped (is_of pt) (is_of pt) (renamed_indexed r) (λ a. refl) hs

pub no_room_renamed : (r : Renaming) (hs : UnexpectedList) → no_room (renamed_headers r hs) ≡ no_room hs
no_room_renamed r hs = ap (nat_le hs.limit) (length-map hs.unexpected (renamed_indexed r))

-- ---- headers go

-- told to the event queue of an index
pub told_at_renamed : (r : Renaming) → IsRenaming r → (o : HiddenEntryEvents) (pt : ℕ) (e : Event) (is : List (Option Index))
    (t : Table Waiting) → told_of_entry o (queue_of (index_at pt (renamed_indices r is))) e (renamed_things r.eq t)
    ≡ renamed_things r.eq (told_of_entry o (queue_of (index_at pt is)) e t)
told_at_renamed r rs o pt e is t =
    ap (λ eq. told_of_entry o eq e (renamed_things r.eq t)) (queue_of_index_renamed r pt is)
    ∙ told_of_entry_renamed r.eq rs.eq o (queue_of (index_at pt is)) e t

pub frees_renamed : (r : Renaming) → IsRenaming r → (s : Side) (left : List IndexedHeader) (a : IndexedHeader) →
    frees (renamed_side r s) (map (renamed_indexed r) left) (renamed_indexed r a) ≡ frees s left a
frees_renamed r rs s left a =
    ap₂ (λ b c. not (b || c))
    (ap (is_linked_at Overflow (r.me a.header.entry)) (index_at_renamed r a.pt s.indices)
    ∙ is_linked_at_renamed r rs Overflow a.header.entry (index_at a.pt s.indices))
    (names_entry_renamed r rs a.header.entry left)

gone_events_renamed : (r : Renaming) → IsRenaming r → (kind : EventKind) (o : HiddenEntryEvents) (is : List (Option Index))
    (freed : Bool) (a : IndexedHeader) (t : Table Waiting) →
    gone_events kind o (renamed_indices r is) freed (renamed_indexed r a) (renamed_things r.eq t)
    ≡ renamed_things r.eq (gone_events kind o is freed a t)
gone_events_renamed r rs kind o is false a t = told_at_renamed r rs o a.pt (header_event kind a) is t
gone_events_renamed r rs kind o is true a t =
    ap (told_of_entry a.hidden (queue_of (index_at a.pt (renamed_indices r is))) (free_event a.pt))
    (told_at_renamed r rs o a.pt (header_event kind a) is t)
    ∙ told_at_renamed r rs a.hidden a.pt (free_event a.pt) is (told_of_entry o (queue_of (index_at a.pt is)) (header_event kind a) t)

pub gone_raised_renamed : (r : Renaming) → IsRenaming r → (kind : EventKind) (o : HiddenEntryEvents) (s : Side)
    (left : List IndexedHeader) (a : IndexedHeader) (t : Table Waiting) →
    gone_raised kind o (renamed_side r s) (map (renamed_indexed r) left) (renamed_indexed r a) (renamed_things r.eq t)
    ≡ renamed_things r.eq (gone_raised kind o s left a t)
gone_raised_renamed r rs kind o s left a t =
    ap (λ b. gone_events kind o (renamed_indices r s.indices) b (renamed_indexed r a) (renamed_things r.eq t)) (frees_renamed r rs s left a)
    ∙ gone_events_renamed r rs kind o s.indices (frees s left a) a t

pub each_gone_renamed : (r : Renaming) → IsRenaming r → (o : HiddenEntryEvents) (s : Side) (stay found : List IndexedHeader)
    (t : Table Waiting) →
    each_gone o (renamed_side r s) (map (renamed_indexed r) stay) (map (renamed_indexed r) found) (renamed_things r.eq t)
    ≡ renamed_things r.eq (each_gone o s stay found t)
each_gone_renamed r rs o s stay [] t = refl
each_gone_renamed r rs o s stay (a ∷ found) t =
    ap (λ left. each_gone o (renamed_side r s) (map (renamed_indexed r) stay) (map (renamed_indexed r) found)
    (gone_raised (kind_taken a.header.header.kind) o (renamed_side r s) left (renamed_indexed r a) (renamed_things r.eq t)))
    (sym (map-append (renamed_indexed r) stay found))
    ∙ ap (each_gone o (renamed_side r s) (map (renamed_indexed r) stay) (map (renamed_indexed r) found))
    (gone_raised_renamed r rs (kind_taken a.header.header.kind) o s (stay ++ found) a t)
    ∙ each_gone_renamed r rs o s stay found (gone_raised (kind_taken a.header.header.kind) o s (stay ++ found) a t)

pub each_counted_renamed : (r : Renaming) → IsRenaming r → (ct : Option Handle) (found : List IndexedHeader) (t : Table Count) →
    each_counted (option_map r.ct ct) (map (renamed_indexed r) found) (renamed_things r.ct t)
    ≡ renamed_things r.ct (each_counted ct found t)
each_counted_renamed r rs ct [] t = refl
each_counted_renamed r rs ct (a ∷ found) t =
    ap (each_counted (option_map r.ct ct) (map (renamed_indexed r) found)) (counted_renamed r.ct rs.ct ct (successes 1) t)
    ∙ each_counted_renamed r rs ct found (counted ct (successes 1) t)
