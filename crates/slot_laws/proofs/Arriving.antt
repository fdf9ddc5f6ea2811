-- A request at its target, under renamed handles.
use Rattle.std.proofs.Common.{◌≡◌, ℕ, Bool, true, false, ◌&&◌, List, [], ◌∷◌, map, Option, Some, None}
use Rattle.std.proofs.Common.{refl, ap, ap₂, sym, ◌∙◌, option_map, cond}
use Rattle.std.proofs.lemmas.List.{length-map, map-append, map-set}
use Rattle.std.specs.Prelude.{find, slice_set, take}
use Rattle.ptl_types.specs.declared.handles.Handle.{Handle}
use Rattle.ptl_types.specs.declared.handles.Count.{Count}
use Rattle.ptl_types.specs.declared.headers.Header.{Header}
use Rattle.ptl_types.specs.declared.headers.MessageKind.{MessageKind}
use Rattle.ptl_types.specs.declared.headers.MessageKind.TheVariants.{Put, Get, Atomic, FetchAtomic, Swap, Ack as AckKind, Reply}
use Rattle.ptl_types.specs.declared.entries.List.{List as EntryList}
use Rattle.ptl_types.specs.declared.entries.List.TheVariants.{Priority, Overflow}
use Rattle.ptl_types.specs.declared.calls.Outcome.{Outcome}
use Rattle.ptl_types.specs.declared.calls.Outcome.TheVariants.{Dropped, Violation}
use Rattle.ptl_types.specs.declared.elements.SwapOp.{SwapOp}
use Rattle.ptl_types.specs.Elements.{written}
use Rattle.ptl_types.specs.Kinds.{is_answer, is_no_ack, is_put_or_atomic}
use Rattle.ptl_types.specs.Messages.{Sent, message}
use Rattle.log_answers.specs.Items.{home_rank}
use Rattle.ni_model.specs.declared.Linked.{Linked}
use Rattle.ni_model.specs.declared.Found.{Found}
use Rattle.ni_model.specs.Tables.{Table}
use Rattle.ni_model.specs.Lists.{Index, advanced, fits, index_at, queue_of, unlinked, with_list}
use Rattle.ni_model.specs.Counts.{counted, successes}
use Rattle.ni_model.specs.Headers.{UnexpectedList, allows, no_room}
use Rattle.ni_model.specs.Events.{kind_delivered, message_event, unlink_event}
use Rattle.ni_model.specs.Shown.{told_of_entry}
use Rattle.ni_model.specs.Queues.{Waiting}
use Rattle.ni_model.specs.Arrive.{accepted, ack_header, answer, as_found, chosen, chosen_at, counts_after, entries_after, events_after}
use Rattle.ni_model.specs.Arrive.{new_bytes, received, swapped_by, writes}
use Rattle.ni_model.specs.Arrive.{counter_of, delivered, delivery_raised, is_overflow, memory_after, old_bytes, place}
use Rattle.ni_model.specs.Arrive.{Parts, headers_after, indices_after, is_over, judged, or_else, refused, reply_header, request}
use Rattle.ni_model.specs.Arrive.{running_after, updated_at}
use Rattle.slot_laws.specs.Renaming.{IsRenaming, KeepsApart, Renaming}
use Rattle.slot_laws.specs.Renamed.{renamed_header, renamed_headers, renamed_index, renamed_indexed, renamed_indices, renamed_linked}
use Rattle.slot_laws.specs.Renamed.{renamed_message}
use Rattle.slot_laws.specs.Renamed.{renamed_parts, renamed_things}
use Rattle.slot_laws.proofs.terms.Received.{renamed_found, renamed_received}
use Rattle.slot_laws.proofs.Base.{find_mapped, where_set_renamed}
use Rattle.slot_laws.proofs.Indices.{advanced_renamed, index_at_renamed, queue_of_renamed, unlinked_renamed, with_list_renamed}
use Rattle.slot_laws.proofs.Telling.{counted_renamed, told_of_entry_renamed}

-- ---- the entry that takes it

as_found_renamed : (r : Renaming) (list : EntryList) (o : Option Linked) →
    as_found list (option_map (renamed_linked r) o) ≡ option_map (renamed_found r) (as_found list o)
as_found_renamed r list None = refl
as_found_renamed r list (Some x) = refl

or_else_renamed : (r : Renaming) (o p : Option Found) →
    or_else (option_map (renamed_found r) o) (option_map (renamed_found r) p) ≡ option_map (renamed_found r) (or_else o p)
or_else_renamed r None p = refl
or_else_renamed r (Some x) p = refl

asked_renamed : (r : Renaming) (asked : Bool) (o : Option Found) →
    cond asked (option_map (renamed_found r) o) None ≡ option_map (renamed_found r) (cond asked o None)
asked_renamed r true o = refl
asked_renamed r false o = refl

fit_renamed : (r : Renaming) (h : Header) (list : EntryList) (xs : List Linked) →
    as_found list (find (fits (renamed_header r h)) (map (renamed_linked r) xs))
    ≡ option_map (renamed_found r) (as_found list (find (fits h) xs))
fit_renamed r h list xs =
    ap (as_found list) (find_mapped (fits (renamed_header r h)) (fits h) (renamed_linked r) (λ x. refl) xs)
    ∙ as_found_renamed r list (find (fits h) xs)

chosen_at_renamed : (r : Renaming) (h : Header) (i : Option Index) →
    chosen_at (renamed_header r h) (option_map (renamed_index r) i) ≡ option_map (renamed_found r) (chosen_at h i)
chosen_at_renamed r h None = refl
chosen_at_renamed r h (Some i) =
    ap₂ or_else (fit_renamed r h Priority i.priority)
    (ap (λ o. cond (is_put_or_atomic h.kind) o None) (fit_renamed r h Overflow i.overflow)
    ∙ asked_renamed r (is_put_or_atomic h.kind) (as_found Overflow (find (fits h) i.overflow)))
    ∙ or_else_renamed r (as_found Priority (find (fits h) i.priority))
    (cond (is_put_or_atomic h.kind) (as_found Overflow (find (fits h) i.overflow)) None)

pub chosen_renamed : (r : Renaming) (h : Header) (is : List (Option Index)) →
    chosen (renamed_header r h) (renamed_indices r is) ≡ option_map (renamed_found r) (chosen h is)
chosen_renamed r h is = ap (chosen_at (renamed_header r h)) (index_at_renamed r h.pt is) ∙ chosen_at_renamed r h (index_at h.pt is)

-- ---- the entries afterwards

entries_after_renamed : (r : Renaming) → KeepsApart r.me → (x : Linked) (h : Header) (xs : List Linked) →
    entries_after (renamed_linked r x) (renamed_header r h) (map (renamed_linked r) xs) ≡ map (renamed_linked r) (entries_after x h xs)
entries_after_renamed r k x h xs =
    rw (unlinked_renamed r k x.handle xs, advanced_renamed r k x.handle (running_after x h) xs)
    (elim (is_over x h) as (λ b. cond b (map (renamed_linked r) (unlinked x.handle xs))
    (cond x.entry.manage_local (map (renamed_linked r) (advanced x.handle (running_after x h) xs)) (map (renamed_linked r) xs))
    ≡ map (renamed_linked r) (cond b (unlinked x.handle xs)
    (cond x.entry.manage_local (advanced x.handle (running_after x h) xs) xs))) [
      | true ↦ refl
      | false ↦ elim x.entry.manage_local as (λ b. cond b (map (renamed_linked r) (advanced x.handle (running_after x h) xs))
          (map (renamed_linked r) xs) ≡ map (renamed_linked r) (cond b (advanced x.handle (running_after x h) xs) xs)) [
            | true ↦ refl
            | false ↦ refl
          ]
    ])

updated_in_list : (r : Renaming) → KeepsApart r.me → (list : EntryList) (x : Linked) (h : Header) (i : Index) →
    with_list list (entries_after (renamed_linked r x) (renamed_header r h)) (renamed_index r i)
    ≡ renamed_index r (with_list list (entries_after x h) i)
updated_in_list r k list x h i =
    with_list_renamed r list (entries_after (renamed_linked r x) (renamed_header r h)) (entries_after x h) (entries_after_renamed r k x h) i

updated_at_renamed : (r : Renaming) → KeepsApart r.me → (f : Found) (h : Header) (i : Option Index) →
    updated_at (renamed_found r f) (renamed_header r h) (option_map (renamed_index r) i) ≡ option_map (renamed_index r) (updated_at f h i)
updated_at_renamed r k f h None = refl
updated_at_renamed r k f h (Some i) = ap Some (updated_in_list r k f.list f.linked h i)

indices_after_renamed : (r : Renaming) → KeepsApart r.me → (f : Found) (h : Header) (is : List (Option Index)) →
    indices_after (renamed_found r f) (renamed_header r h) (renamed_indices r is) ≡ renamed_indices r (indices_after f h is)
indices_after_renamed r k f h is =
    ap (λ i. slice_set (renamed_indices r is) h.pt i)
    (ap (updated_at (renamed_found r f) (renamed_header r h)) (index_at_renamed r h.pt is) ∙ updated_at_renamed r k f h (index_at h.pt is))
    ∙ sym (map-set (option_map (renamed_index r)) is h.pt (updated_at f h (index_at h.pt is)))

-- ---- headers, counts and events

headers_in_list : (r : Renaming) (list : EntryList) (x : Linked) (h : Header) (hs : UnexpectedList) →
    headers_after (record { list = list; linked = renamed_linked r x }) (renamed_header r h) (renamed_headers r hs)
    ≡ renamed_headers r (headers_after (record { list = list; linked = x }) h hs)
headers_in_list r Priority x h hs = refl
headers_in_list r Overflow x h hs =
    ap (λ xs. record hs { unexpected = xs })
    (sym (map-append (renamed_indexed r) hs.unexpected
    ((record {
      pt = h.pt;
      header = record { entry = x.handle; place = place x h; delivered = delivered x h; header = h };
      hidden = x.entry.hidden;
    }) ∷ [])))

counts_after_renamed : (r : Renaming) → KeepsApart r.ct → (x : Linked) (t : Table Count) →
    counts_after (renamed_linked r x) (renamed_things r.ct t) ≡ renamed_things r.ct (counts_after x t)
counts_after_renamed r k x t =
    ap (λ o. counted o (successes 1) (renamed_things r.ct t)) (where_set_renamed r.ct x.entry.count_comm x.entry.ct)
    ∙ counted_renamed r.ct k (counter_of x) (successes 1) t

delivery_renamed : (r : Renaming) → KeepsApart r.eq →
    (list : EntryList) (x : Linked) (h : Header) (eq : Option Handle) (t : Table Waiting) →
    delivery_raised (record { list = list; linked = renamed_linked r x }) (renamed_header r h) (option_map r.eq eq) (renamed_things r.eq t)
    ≡ renamed_things r.eq (delivery_raised (record { list = list; linked = x }) h eq t)
delivery_renamed r k Priority x h eq t =
    told_of_entry_renamed r.eq k x.entry.hidden eq (message_event (kind_delivered h.kind) h (delivered x h) (place x h)) t
delivery_renamed r k Overflow x h eq t = refl

events_after_renamed : (r : Renaming) → KeepsApart r.eq → (f : Found) (h : Header) (eq : Option Handle) (t : Table Waiting) →
    events_after (renamed_found r f) (renamed_header r h) (option_map r.eq eq) (renamed_things r.eq t)
    ≡ renamed_things r.eq (events_after f h eq t)
events_after_renamed r k f h eq t =
    rw (
      delivery_renamed r k f.list f.linked h eq t,
      told_of_entry_renamed r.eq k f.linked.entry.hidden eq (unlink_event h.pt f.linked.entry.match_bits) (delivery_raised f h eq t),
    )
    (elim (is_over f.linked h) as (λ b. cond b (renamed_things r.eq (told_of_entry f.linked.entry.hidden eq
    (unlink_event h.pt f.linked.entry.match_bits) (delivery_raised f h eq t))) (renamed_things r.eq (delivery_raised f h eq t))
    ≡ renamed_things r.eq (cond b (told_of_entry f.linked.entry.hidden eq (unlink_event h.pt f.linked.entry.match_bits)
    (delivery_raised f h eq t)) (delivery_raised f h eq t))) [
      | true ↦ refl
      | false ↦ refl
    ])

-- ---- the answer

home_of_request : (h : Header) → is_answer h.kind ≡ false → home_rank h ≡ h.source
home_of_request h asks = rw asks refl

ack_renamed : (r : Renaming) (ok : Bool) (count : ℕ) (h : Header) → is_answer h.kind ≡ false →
    ack_header ok count (renamed_header r h) ≡ renamed_header r (ack_header ok count h)
ack_renamed r ok count h asks =
    ap (λ rank. record (ack_header ok count h) { home = option_map (r.md rank) h.home }) (home_of_request h asks)

reply_renamed : (r : Renaming) (ok : Bool) (count : ℕ) (h : Header) → is_answer h.kind ≡ false →
    reply_header ok count (renamed_header r h) ≡ renamed_header r (reply_header ok count h)
reply_renamed r ok count h asks =
    ap (λ rank. record (reply_header ok count h) { home = option_map (r.md rank) h.home }) (home_of_request h asks)

answer_renamed : (r : Renaming) (ok : Bool) (count : ℕ) (bytes : List ℕ) (h : Header) → is_answer h.kind ≡ false →
    answer ok count bytes (renamed_header r h) ≡ option_map (renamed_message r) (answer ok count bytes h)
answer_renamed r ok count bytes h asks =
    rw (ack_renamed r ok count h asks, reply_renamed r ok count h asks)
    (elim (is_put_or_atomic h.kind) as (λ b. cond b
    (cond (is_no_ack h.ack) None (Some (message (renamed_header r (ack_header ok count h)) [])))
    (Some (message (renamed_header r (reply_header ok count h)) (cond ok bytes [])))
    ≡ option_map (renamed_message r) (cond b (cond (is_no_ack h.ack) None (Some (message (ack_header ok count h) [])))
    (Some (message (reply_header ok count h) (cond ok bytes []))))) [
      | true ↦ elim (is_no_ack h.ack) as (λ b. cond b None (Some (message (renamed_header r (ack_header ok count h)) []))
          ≡ option_map (renamed_message r) (cond b None (Some (message (ack_header ok count h) [])))) [
            | true ↦ refl
            | false ↦ refl
          ]
      | false ↦ refl
    ])

-- ---- the region

swapped_renamed : (r : Renaming) (o : Option SwapOp) (h : Header) (old new : List ℕ) →
    swapped_by o (renamed_header r h) old new ≡ swapped_by o h old new
swapped_renamed r None h old new = refl
swapped_renamed r (Some s) h old new = refl

new_bytes_renamed : (r : Renaming) (kind : MessageKind) (h : Header) (old new : List ℕ) →
    new_bytes kind (renamed_header r h) old new ≡ new_bytes kind h old new
new_bytes_renamed r Put h old new = refl
new_bytes_renamed r Get h old new = refl
new_bytes_renamed r Atomic h old new = refl
new_bytes_renamed r FetchAtomic h old new = refl
new_bytes_renamed r Swap h old new = swapped_renamed r h.swap h old new
new_bytes_renamed r AckKind h old new = refl
new_bytes_renamed r Reply h old new = refl

memory_after_renamed : (r : Renaming) (x : Linked) (m : Sent) (memory : List ℕ) →
    memory_after (renamed_linked r x) (renamed_message r m) memory ≡ memory_after x m memory
memory_after_renamed r x m memory =
    ap (λ new. cond (writes m.header.kind) (written (place x m.header) new memory) memory)
    (new_bytes_renamed r m.header.kind m.header (old_bytes x m.header memory) (take (delivered x m.header) m.bytes))

-- ---- a request

accepted_renamed : (r : Renaming) → IsRenaming r → (p : Parts) (m : Sent) (f : Found) → is_answer m.header.kind ≡ false →
    accepted (renamed_parts r p) (renamed_message r m) (renamed_found r f) ≡ renamed_received r (accepted p m f)
accepted_renamed r is p m f asks =
    rw (
      memory_after_renamed r f.linked m p.region,
      indices_after_renamed r is.me f m.header p.side.indices,
      headers_in_list r f.list f.linked m.header p.side.headers,
      counts_after_renamed r is.ct f.linked p.cts,
      index_at_renamed r m.header.pt p.side.indices,
      queue_of_renamed r (index_at m.header.pt p.side.indices),
      events_after_renamed r is.eq f m.header (queue_of (index_at m.header.pt p.side.indices)) p.eqs,
      answer_renamed r true (delivered f.linked m.header) (old_bytes f.linked m.header p.region) m.header asks,
      where_set_renamed r.ct f.linked.entry.count_comm f.linked.entry.ct,
    )
    refl

refused_renamed : (r : Renaming) (p : Parts) (outcome : Outcome) (h : Header) → is_answer h.kind ≡ false →
    received (renamed_parts r p) (refused outcome (renamed_header r h)) ≡ renamed_received r (received p (refused outcome h))
refused_renamed r p outcome h asks = rw (answer_renamed r false 0 [] h asks) refl

judged_renamed : (r : Renaming) → IsRenaming r → (p : Parts) (m : Sent) (f : Option Found) → is_answer m.header.kind ≡ false →
    judged (renamed_parts r p) (renamed_message r m) (option_map (renamed_found r) f) ≡ renamed_received r (judged p m f)
judged_renamed r is p m None asks = refused_renamed r p Dropped m.header asks
judged_renamed r is p m (Some f) asks =
    rw (
      accepted_renamed r is p m f asks,
      refused_renamed r p Dropped m.header asks,
      refused_renamed r p Violation m.header asks,
      length-map p.side.headers.unexpected (renamed_indexed r),
    )
    (elim (allows f.linked.entry m.header.kind) as (λ b. cond b
    (cond (is_overflow f.list && no_room p.side.headers) (renamed_received r (received p (refused Dropped m.header)))
    (renamed_received r (accepted p m f))) (renamed_received r (received p (refused Violation m.header)))
    ≡ renamed_received r (cond b (cond (is_overflow f.list && no_room p.side.headers) (received p (refused Dropped m.header))
    (accepted p m f)) (received p (refused Violation m.header)))) [
      | true ↦ elim (is_overflow f.list && no_room p.side.headers) as
          (λ b. cond b (renamed_received r (received p (refused Dropped m.header)))
          (renamed_received r (accepted p m f)) ≡ renamed_received r (cond b (received p (refused Dropped m.header)) (accepted p m f))) [
            | true ↦ refl
            | false ↦ refl
          ]
      | false ↦ refl
    ])

pub request_renamed : (r : Renaming) → IsRenaming r → (p : Parts) (m : Sent) → is_answer m.header.kind ≡ false →
    request (renamed_parts r p) (renamed_message r m) ≡ renamed_received r (request p m)
unfolding request
request_renamed r is p m asks =
    ap (judged (renamed_parts r p) (renamed_message r m)) (chosen_renamed r m.header p.side.indices)
    ∙ judged_renamed r is p m (chosen m.header p.side.indices) asks
