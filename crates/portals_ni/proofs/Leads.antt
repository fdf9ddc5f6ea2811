-- What one state leads to another by: limits stay, what is live stays live, sums fit, and what is named anew is live.
use Rattle.std.proofs.Common.{◌≡◌, ℕ, ◌&&◌, ◌||◌, Bool, true, false, List, [], Option, Some, None, length, if◌then◌else◌, refl, sym, ap}
use Rattle.std.proofs.Common.{◌∙◌}
use Rattle.std.specs.Prelude.{All, slice_set}
use Rattle.std.proofs.lemmas.List.{length-set}
use Rattle.std.proofs.lemmas.List.Elements.{All-map, All-set, All-weaker}
use Rattle.ptl_types.specs.declared.handles.Handle.{Handle}
use Rattle.ptl_types.specs.declared.headers.Header.{Header}
use Rattle.ptl_types.specs.declared.entries.Entry.{Entry}
use Rattle.ptl_types.specs.declared.entries.List.{List as EntryList}
use Rattle.ptl_types.specs.declared.entries.List.TheVariants.{Priority, Overflow}
use Rattle.ptl_types.specs.declared.events.EventKind.TheVariants.{Search}
use Rattle.ptl_types.specs.declared.calls.Limits.{Limits}
use Rattle.ptl_types.specs.declared.calls.TriggeredOp.{TriggeredOp}
use Rattle.ptl_types.specs.declared.calls.Outcome.TheVariants.{Dropped, Violation}
use Rattle.ptl_types.specs.declared.handles.Count.{Count}
use Rattle.ptl_types.specs.Handles.{same_handle}
use Rattle.ptl_types.specs.Messages.{Sent}
use Rattle.ni_model.specs.declared.Bound.{Bound}
use Rattle.ni_model.specs.declared.Found.{Found}
use Rattle.ni_model.specs.declared.Linked.{Linked}
use Rattle.ni_model.specs.declared.IndexedHeader.{IndexedHeader}
use Rattle.ni_model.specs.Tables.{Live, Table, change_one, changed, is_live_or_none}
use Rattle.ni_model.specs.Counts.{successes}
use Rattle.ni_model.specs.Queues.{Waiting}
use Rattle.ni_model.specs.Lists.{Index, index_at, queue_of}
use Rattle.ni_model.specs.Headers.{UnexpectedList, allows, no_room, oldest, found_in, left_in, without_oldest}
use Rattle.ni_model.specs.Events.{message_event, unlink_event, kind_delivered, link_event, header_event, kind_taken, missed_event, is_reply}
use Rattle.ni_model.specs.Shown.{told_of_descriptor, told_of_entry}
use Rattle.ni_model.specs.Events.{asks_event, answer_event, send_event}
use Rattle.ni_model.specs.Arrive.{Parts, Received, received, refused, request, judged, accepted, chosen, is_overflow, is_over, counter_of}
use Rattle.ni_model.specs.Arrive.{delivered, place, updated_at, updated, headers_after, delivery_raised, events_after}
use Rattle.ni_model.specs.Answers.{Home, Returned, answered, answered_at, bound_at, came_home, lost_answer, is_due, counter_home}
use Rattle.ni_model.specs.Answers.{one_answer, awaits_less, one_less, events_home}
use Rattle.ni_model.specs.Starts.{started, started_by, header_of, awaits_more, one_awaited, send_counter, send_told, counted_on}
use Rattle.ni_model.specs.Append.{Appends, append, append_once, linked_as, linked_at, fresh, next_handle, queue_at, take_all}
use Rattle.ni_model.specs.Append.{overflow_counter, search, searched_at, found_header}
use Rattle.ni_model.specs.State.{State, parts_of, with_parts, home_of, with_home}
use Rattle.target_engine.proofs.Within.{at_has}
use Rattle.portals_ni.specs.Lasting.{HasEntries, EntryIsLive, QueueIsLive, BoundIsLive, OperationIsLive}
use Rattle.portals_ni.specs.Sound.{Stands}
use Rattle.portals_ni.proofs.Parts.{indices-entries, append-entries}
use Rattle.portals_ni.proofs.Homes.{KeepsMd, keeps-awaited, keeps-less}
use Rattle.portals_ni.proofs.Steady.{Grows, grows-same, grows-twice, grows-or-none, grows-entry, grows-descriptor, grows-gone}
use Rattle.portals_ni.proofs.Steady.{grows-each_gone, CountsOn}
use Rattle.portals_ni.proofs.Steady.{counts-same, counts-counted, counts-each, entries-on, queues-on, bounds-on, operations-on}

pub record Leads (s q : State) : Type 0 where
  pub limits : q.limits ≡ s.limits
  pub indices : length q.indices ≡ length s.indices
  pub headers : q.headers.limit ≡ s.headers.limit
  pub descriptors : q.mds.limit ≡ s.mds.limit
  pub operations : q.pending.limit ≡ s.pending.limit
  pub counts : CountsOn s.cts q.cts
  pub queues : Grows s.eqs q.eqs
  pub entries_live : All (HasEntries (EntryIsLive q.cts)) s.indices → All (HasEntries (EntryIsLive q.cts)) q.indices
  pub indices_live : All (QueueIsLive q.eqs) s.indices → All (QueueIsLive q.eqs) q.indices
  pub bounds_live : All (BoundIsLive q.cts q.eqs) s.mds.live → All (BoundIsLive q.cts q.eqs) q.mds.live
  pub operations_live : All (OperationIsLive q.cts) s.pending.waiting → All (OperationIsLive q.cts) q.pending.waiting

pub leads-stands : (s q : State) → Leads s q → Stands s → Stands q
leads-stands s q leads is = record {
  limits = record {
    indices = leads.indices ∙ is.limits.indices ∙ ap (λ (l : Limits). l.pts) (sym leads.limits);
    headers = leads.headers ∙ is.limits.headers ∙ ap (λ (l : Limits). l.unexpected) (sym leads.limits);
    counting_events = leads.counts.grows.limit ∙ is.limits.counting_events ∙ ap (λ (l : Limits). l.cts) (sym leads.limits);
    queues = leads.queues.limit ∙ is.limits.queues ∙ ap (λ (l : Limits). l.eqs) (sym leads.limits);
    descriptors = leads.descriptors ∙ is.limits.descriptors ∙ ap (λ (l : Limits). l.mds) (sym leads.limits);
    operations = leads.operations ∙ is.limits.operations ∙ ap (λ (l : Limits). l.triggered) (sym leads.limits);
  };
  sums = leads.counts.sums is.sums;
  names = record {
    entries = leads.entries_live (entries-on s.cts q.cts s.indices leads.counts.grows is.names.entries);
    indices = leads.indices_live (queues-on s.eqs q.eqs s.indices leads.queues is.names.indices);
    descriptors = leads.bounds_live (bounds-on s.cts q.cts s.eqs q.eqs s.mds.live leads.counts.grows leads.queues is.names.descriptors);
    operations = leads.operations_live (operations-on s.cts q.cts s.pending.waiting leads.counts.grows is.names.operations);
  };
}

-- ---- the target's parts

pub record PartsLead (p q : Parts) : Type 0 where
  pub indices : length q.side.indices ≡ length p.side.indices
  pub headers : q.side.headers.limit ≡ p.side.headers.limit
  pub counts : CountsOn p.cts q.cts
  pub queues : Grows p.eqs q.eqs
  pub entries_live : All (HasEntries (EntryIsLive q.cts)) p.side.indices → All (HasEntries (EntryIsLive q.cts)) q.side.indices
  pub indices_live : All (QueueIsLive q.eqs) p.side.indices → All (QueueIsLive q.eqs) q.side.indices

pub parts-lead : (s : State) (q : Parts) → PartsLead (parts_of s) q → Leads s (with_parts q s)
parts-lead s q is = record {
  limits = refl;
  indices = is.indices;
  headers = is.headers;
  descriptors = refl;
  operations = refl;
  counts = is.counts;
  queues = is.queues;
  entries_live = is.entries_live;
  indices_live = is.indices_live;
  bounds_live = λ all. all;
  operations_live = λ all. all;
}

same-parts : (p : Parts) → PartsLead p p
same-parts p = record {
  indices = refl;
  headers = refl;
  counts = counts-same p.cts;
  queues = grows-same p.eqs;
  entries_live =
      λ all. all;
  indices_live = λ all. all;
}

-- an index that changed and has its queue still
queue-set : (eqs : Table Waiting) (is : List (Option Index)) (pt : ℕ) (o : Option Index) → queue_of o ≡ queue_of (index_at pt is) →
    All (QueueIsLive eqs) is → All (QueueIsLive eqs) (slice_set is pt o)
queue-set eqs is pt o same all = All-set (QueueIsLive eqs) is pt o (ap (λ h. is_live_or_none h eqs) same
    ∙ at_has (QueueIsLive eqs) is pt None all refl) all

-- ---- a request

updated-queue : (f : Found) (h : Header) (o : Option Index) → queue_of (updated_at f h o) ≡ queue_of o
updated-queue f h None = refl
updated-queue f h (Some i) = elim f.list as (λ l. queue_of (Some (updated (record f { list = l }) h i)) ≡ i.eq)
    [ Priority ↦ refl | Overflow ↦ refl ]

headers-limit : (f : Found) (h : Header) (hs : UnexpectedList) → (headers_after f h hs).limit ≡ hs.limit
headers-limit f h hs = elim f.list as (λ l. (headers_after (record f { list = l }) h hs).limit ≡ hs.limit)
    [ Priority ↦ refl | Overflow ↦ refl ]

delivery-grows : (f : Found) (h : Header) (eq : Option Handle) (eqs : Table Waiting) → Grows eqs (delivery_raised f h eq eqs)
delivery-grows f h eq eqs =
    elim f.list as (λ l. Grows eqs (delivery_raised (record f { list = l }) h eq eqs)) [
      | Priority ↦ grows-entry f.linked.entry.hidden eq
          (message_event (kind_delivered h.kind) h (delivered f.linked h) (place f.linked h)) eqs
      | Overflow ↦ grows-same eqs
    ]

events-grow : (f : Found) (h : Header) (eq : Option Handle) (eqs : Table Waiting) → Grows eqs (events_after f h eq eqs)
events-grow f h eq eqs =
    let told : Table Waiting = delivery_raised f h eq eqs in
    let gone : Table Waiting = told_of_entry f.linked.entry.hidden eq (unlink_event h.pt f.linked.entry.match_bits) told in
    elim (is_over f.linked h) as (λ b. Grows eqs (if b then gone else told)) [
      | true ↦ grows-twice eqs told gone (delivery-grows f h eq eqs)
          (grows-entry f.linked.entry.hidden eq (unlink_event h.pt f.linked.entry.match_bits) told)
      | false ↦ delivery-grows f h eq eqs
    ]

accepted-lead : (p : Parts) (m : Sent) (f : Found) → PartsLead p (accepted p m f).parts
accepted-lead p m f = record {
  indices = length-set p.side.indices m.header.pt (updated_at f m.header (index_at m.header.pt p.side.indices));
  headers = headers-limit f m.header p.side.headers;
  counts = counts-counted (counter_of f.linked) (successes 1) p.cts;
  queues = events-grow f m.header (queue_of (index_at m.header.pt p.side.indices)) p.eqs;
  entries_live = indices-entries (EntryIsLive (accepted p m f).parts.cts) (λ x to is. is) f m.header p.side.indices;
  indices_live = queue-set (accepted p m f).parts.eqs p.side.indices m.header.pt
      (updated_at f m.header (index_at m.header.pt p.side.indices)) (updated-queue f m.header (index_at m.header.pt p.side.indices));
}

either : {D : Type 0} (P : D → Type 0) (b : Bool) (x y : D) → P x → P y → P (if b then x else y)
either P true x y px py = px
either P false x y px py = py

abbrev ReceivedLead : Parts → Received → Type 0
ReceivedLead p r = PartsLead p r.parts

judged-lead : (p : Parts) (m : Sent) (o : Option Found) → ReceivedLead p (judged p m o)
judged-lead p m None = same-parts p
judged-lead p m (Some f) =
    either (ReceivedLead p) (allows f.linked.entry m.header.kind)
    (if is_overflow f.list && no_room p.side.headers then received p (refused Dropped m.header) else accepted p m f)
    (received p (refused Violation m.header))
    (either (ReceivedLead p) (is_overflow f.list && no_room p.side.headers) (received p (refused Dropped m.header)) (accepted p m f)
    (same-parts p) (accepted-lead p m f))
    (same-parts p)

pub request-lead : (p : Parts) (m : Sent) → PartsLead p (request p m).parts
unfolding request
request-lead p m = judged-lead p m (chosen m.header p.side.indices)

-- ---- an append

linked-queue : (list : EntryList) (x : Linked) (o : Option Index) → queue_of (linked_at list x o) ≡ queue_of o
linked-queue list x None = refl
linked-queue Priority x (Some i) = refl
linked-queue Overflow x (Some i) = refl

linked-lead : (slot pt : ℕ) (list : EntryList) (e : Entry) (p : Parts) (found : List IndexedHeader) → is_live_or_none e.ct p.cts ≡ true →
    PartsLead p (linked_as slot pt list e found p).parts
linked-lead slot pt list e p found live = record {
  indices = length-set p.side.indices pt (linked_at list (fresh (next_handle slot p.side) e) (index_at pt p.side.indices));
  headers = refl;
  counts = counts-same p.cts;
  queues = grows-entry e.hidden (queue_at pt p.side) (link_event pt e.match_bits) p.eqs;
  entries_live = append-entries (EntryIsLive p.cts) pt list (fresh (next_handle slot p.side) e) p.side.indices live;
  indices_live = queue-set (linked_as slot pt list e found p).parts.eqs p.side.indices pt
      (linked_at list (fresh (next_handle slot p.side) e) (index_at pt p.side.indices))
      (linked-queue list (fresh (next_handle slot p.side) e) (index_at pt p.side.indices));
}

taken-lead : (slot pt : ℕ) (e : Entry) (p : Parts) (found : List IndexedHeader) → is_live_or_none e.ct p.cts ≡ true →
    PartsLead p (linked_as slot pt Priority e found (take_all pt e p)).parts
taken-lead slot pt e p found live =
    let q : Parts = take_all pt e p in
    let counts : CountsOn p.cts q.cts = counts-each (overflow_counter e) (found_in pt e p.side.headers.unexpected) p.cts in
    let gone : Grows p.eqs q.eqs = grows-each_gone e.hidden p.side (left_in pt e p.side.headers.unexpected)
    (found_in pt e p.side.headers.unexpected) p.eqs in
    let linked : PartsLead q (linked_as slot pt Priority e found q).parts =
    linked-lead slot pt Priority e q found (grows-or-none e.ct p.cts q.cts counts.grows live) in
    record {
      indices = linked.indices;
      headers = refl;
      counts = counts;
      queues = grows-twice p.eqs q.eqs (linked_as slot pt Priority e found q).parts.eqs gone linked.queues;
      entries_live = linked.entries_live;
      indices_live = linked.indices_live;
    }

once-lead : (slot pt : ℕ) (e : Entry) (p : Parts) (o : Option IndexedHeader) → is_live_or_none e.ct p.cts ≡ true →
    PartsLead p (append_once slot pt e p o).parts
once-lead slot pt e p None live = linked-lead slot pt Priority e p [] live
once-lead slot pt e p (Some a) live = record {
  indices = refl;
  headers = refl;
  counts = counts-counted (overflow_counter e) (successes 1) p.cts;
  queues = grows-gone (kind_taken a.header.header.kind) e.hidden p.side (without_oldest pt e p.side.headers.unexpected) a p.eqs;
  entries_live = λ all. all;
  indices_live = λ all. all;
}

abbrev AppendLead : Parts → Appends → Type 0
AppendLead p a = PartsLead p a.parts

pub append-lead : (slot pt : ℕ) (list : EntryList) (e : Entry) (p : Parts) → is_live_or_none e.ct p.cts ≡ true →
    PartsLead p (append slot pt list e p).parts
unfolding append
append-lead slot pt Priority e p live =
    either (AppendLead p) e.use_once
    (append_once slot pt e p (oldest pt e p.side.headers.unexpected))
    (linked_as slot pt Priority e (found_in pt e p.side.headers.unexpected) (take_all pt e p))
    (once-lead slot pt e p (oldest pt e p.side.headers.unexpected) live)
    (taken-lead slot pt e p (found_in pt e p.side.headers.unexpected) live)
append-lead slot pt Overflow e p live = linked-lead slot pt Overflow e p [] live

-- ---- a search

found-lead : (pt : ℕ) (e : Entry) (delete : Bool) (a : IndexedHeader) (p : Parts) → PartsLead p (found_header pt e delete a p)
found-lead pt e true a p = record {
  indices = refl;
  headers = refl;
  counts = counts-same p.cts;
  queues = grows-gone Search e.hidden p.side (without_oldest pt e p.side.headers.unexpected) a p.eqs;
  entries_live = λ all. all;
  indices_live = λ all. all;
}
found-lead pt e false a p = record {
  indices = refl;
  headers = refl;
  counts = counts-same p.cts;
  queues = grows-entry e.hidden (queue_at pt p.side) (header_event Search a) p.eqs;
  entries_live = λ all. all;
  indices_live = λ all. all;
}

searched-lead : (pt : ℕ) (e : Entry) (delete : Bool) (p : Parts) (o : Option IndexedHeader) →
    PartsLead p (searched_at pt e delete p o).parts
searched-lead pt e delete p None = record {
  indices = refl;
  headers = refl;
  counts = counts-same p.cts;
  queues = grows-entry e.hidden (queue_at pt p.side) (missed_event pt e.match_bits) p.eqs;
  entries_live = λ all. all;
  indices_live = λ all. all;
}
searched-lead pt e delete p (Some a) = found-lead pt e delete a p

pub search-lead : (pt : ℕ) (e : Entry) (delete : Bool) (p : Parts) → PartsLead p (search pt e delete p).parts
unfolding search
search-lead pt e delete p = searched-lead pt e delete p (oldest pt e p.side.headers.unexpected)

-- ---- the initiator's parts

pub record HomeLead (p q : Home) : Type 0 where
  pub descriptors : q.mds.limit ≡ p.mds.limit
  pub counts : CountsOn p.cts q.cts
  pub queues : Grows p.eqs q.eqs
  pub bounds_live : All (BoundIsLive q.cts q.eqs) p.mds.live → All (BoundIsLive q.cts q.eqs) q.mds.live

pub home-lead : (s : State) (q : Home) → HomeLead (home_of s) q → Leads s (with_home q s)
home-lead s q is = record {
  limits = refl;
  indices = refl;
  headers = refl;
  descriptors = is.descriptors;
  operations = refl;
  counts = is.counts;
  queues = is.queues;
  entries_live = λ all. all;
  indices_live = λ all. all;
  bounds_live = is.bounds_live;
  operations_live = λ all. all;
}

same-home : (p : Home) → HomeLead p p
same-home p = record { descriptors = refl; counts = counts-same p.cts; queues = grows-same p.eqs; bounds_live = λ all. all }

one-bound : (cts : Table Count) (eqs : Table Waiting) (h : Handle) (f : Bound → Bound) (x : Live Bound) → KeepsMd f →
    BoundIsLive cts eqs x → BoundIsLive cts eqs (change_one h f x)
one-bound cts eqs h f x keeps live =
    elim (same_handle x.handle h) as (λ b. BoundIsLive cts eqs (record { handle = x.handle; value = if b then f x.value else x.value })) [
      | true ↦ rw (keeps x.value) live
      | false ↦ live
    ]

changed-bounds : (cts : Table Count) (eqs : Table Waiting) (h : Handle) (f : Bound → Bound) (mds : Table Bound) → KeepsMd f →
    All (BoundIsLive cts eqs) mds.live → All (BoundIsLive cts eqs) (changed h f mds).live
changed-bounds cts eqs h f mds keeps all =
    All-map (BoundIsLive cts eqs) (change_one h f) mds.live (All-weaker (BoundIsLive cts eqs)
    (λ x. BoundIsLive cts eqs (change_one h f x)) (λ x live. one-bound cts eqs h f x keeps live) mds.live all)

more-bounds : (cts : Table Count) (eqs : Table Waiting) (h : Option Handle) (mds : Table Bound) → All (BoundIsLive cts eqs) mds.live →
    All (BoundIsLive cts eqs) (awaits_more h mds).live
more-bounds cts eqs None mds all = all
more-bounds cts eqs (Some h) mds all = changed-bounds cts eqs h one_awaited mds keeps-awaited all

less-bounds : (cts : Table Count) (eqs : Table Waiting) (h : Option Handle) (mds : Table Bound) → All (BoundIsLive cts eqs) mds.live →
    All (BoundIsLive cts eqs) (awaits_less h mds).live
less-bounds cts eqs None mds all = all
less-bounds cts eqs (Some h) mds all = changed-bounds cts eqs h one_less mds keeps-less all

more-limit : (h : Option Handle) (mds : Table Bound) → (awaits_more h mds).limit ≡ mds.limit
more-limit None mds = refl
more-limit (Some h) mds = refl

less-limit : (h : Option Handle) (mds : Table Bound) → (awaits_less h mds).limit ≡ mds.limit
less-limit None mds = refl
less-limit (Some h) mds = refl

send-grows : (b : Option Bound) (h : Header) (eqs : Table Waiting) → Grows eqs (send_told b h eqs)
send-grows None h eqs = grows-same eqs
send-grows (Some b) h eqs = grows-descriptor b.md.hidden b.md.eq (send_event h) eqs

by-lead : (p : Home) (d : TriggeredOp) (o : Option Header) → HomeLead p (started_by p d o).home
by-lead p d None = same-home p
by-lead p d (Some h) =
    let q : Home = (started_by p d (Some h)).home in
    record {
      descriptors = more-limit h.home p.mds;
      counts = counts-counted (send_counter (bound_at (counted_on d) p.mds)) (successes 1) p.cts;
      queues = send-grows (bound_at (counted_on d) p.mds) h p.eqs;
      bounds_live = more-bounds q.cts q.eqs h.home p.mds;
    }

pub started-lead : (rank : ℕ) (p : Home) (d : TriggeredOp) → HomeLead p (started rank p d).home
unfolding started
started-lead rank p d = by-lead p d (header_of rank d)

home-grows : (h : Header) (b : Bound) (eqs : Table Waiting) → Grows eqs (events_home h b eqs)
home-grows h b eqs =
    let told : Table Waiting = told_of_descriptor b.md.hidden b.md.eq (answer_event b h) eqs in
    elim (is_reply h.kind || asks_event h.ack) as (λ t. Grows eqs (if t then told else eqs)) [
      | true ↦ grows-descriptor b.md.hidden b.md.eq (answer_event b h) eqs
      | false ↦ grows-same eqs
    ]

came-lead : (p : Home) (m : Sent) (b : Bound) → HomeLead p (came_home p m b).home
came-lead p m b =
    let q : Home = (came_home p m b).home in
    record {
      descriptors = less-limit m.header.home p.mds;
      counts = counts-counted (counter_home m.header b) (one_answer m.header.ok) p.cts;
      queues = home-grows m.header b p.eqs;
      bounds_live = less-bounds q.cts q.eqs m.header.home p.mds;
    }

abbrev ReturnedLead : Home → Returned → Type 0
ReturnedLead p r = HomeLead p r.home

at-lead : (p : Home) (m : Sent) (o : Option Bound) → HomeLead p (answered_at p m o).home
at-lead p m None = same-home p
at-lead p m (Some b) = either (ReturnedLead p) (is_due m.header b) (came_home p m b) (lost_answer p) (came-lead p m b) (same-home p)

pub answered-lead : (p : Home) (m : Sent) → HomeLead p (answered p m).home
unfolding answered
answered-lead p m = at-lead p m (bound_at m.header.home p.mds)
