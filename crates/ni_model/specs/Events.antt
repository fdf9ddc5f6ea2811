-- What the full events hold: this profile's own, under the names that Portals 4.3 has for their types. A field that an event doesn't speak
-- of is 0.
use Rattle.std.specs.Prelude.{ℕ, Bool, true, false, ◌&&◌, nat_lt, ◌+◌, if◌then◌else◌}
use Rattle.ptl_types.specs.declared.headers.Header.{Header}
use Rattle.ptl_types.specs.declared.headers.MessageKind.{MessageKind}
use Rattle.ptl_types.specs.declared.headers.MessageKind.TheVariants.{Put, Get, Atomic, Reply}
use Rattle.ptl_types.specs.declared.headers.AckRequest.{AckRequest}
use Rattle.ptl_types.specs.declared.headers.AckRequest.TheVariants.{Ack}
use Rattle.ptl_types.specs.declared.events.Event.{Event}
use Rattle.ptl_types.specs.declared.events.EventKind.{EventKind}
use Rattle.ptl_types.specs.declared.events.EventKind.TheVariants.{Put as PutEvent, Get as GetEvent, Atomic as AtomicEvent}
use Rattle.ptl_types.specs.declared.events.EventKind.TheVariants.{FetchAtomic as FetchAtomicEvent, PutOverflow, AtomicOverflow}
use Rattle.ptl_types.specs.declared.events.EventKind.TheVariants.{Reply as ReplyEvent, Ack as AckEvent, Send, Link, AutoUnlink, AutoFree}
use Rattle.ptl_types.specs.declared.events.EventKind.TheVariants.{Search}
use Rattle.ni_model.specs.declared.Bound.{Bound}
use Rattle.ni_model.specs.declared.IndexedHeader.{IndexedHeader}

-- an event of a message, or of its unexpected header: `delivered` bytes at this place
abbrev pub message_event : EventKind → Header → ℕ → ℕ → Event
message_event kind h delivered place = record {
  kind = kind;
  source = h.source;
  pt = h.pt;
  match_bits = h.match_bits;
  hdr_data = h.hdr_data;
  requested = h.length;
  delivered = delivered;
  place = place;
  ok = true;
}

-- an event of an entry
abbrev pub entry_event : EventKind → ℕ → ℕ → Bool → Event
entry_event kind pt match_bits ok =
    record { kind = kind; source = 0; pt = pt; match_bits = match_bits; hdr_data = 0; requested = 0; delivered = 0; place = 0; ok = ok }

-- a message delivered to a priority entry; a swap is told as a fetching atomic
abbrev pub kind_delivered : MessageKind → EventKind
kind_delivered Put = PutEvent
kind_delivered Get = GetEvent
kind_delivered Atomic = AtomicEvent
kind_delivered _ = FetchAtomicEvent

-- a header that an append takes
abbrev pub kind_taken : MessageKind → EventKind
kind_taken Put = PutOverflow
kind_taken _ = AtomicOverflow

-- an event of an unexpected header
abbrev pub header_event : EventKind → IndexedHeader → Event
header_event kind a = message_event kind a.header.header a.header.delivered a.header.place

-- an entry is linked
abbrev pub link_event : ℕ → ℕ → Event
link_event pt match_bits = entry_event Link pt match_bits true

-- an entry is unlinked by a message
abbrev pub unlink_event : ℕ → ℕ → Event
unlink_event pt match_bits = entry_event AutoUnlink pt match_bits true

-- an unlinked overflow entry holds no header any more
abbrev pub free_event : ℕ → Event
free_event pt = entry_event AutoFree pt 0 true

-- a search that finds nothing
abbrev pub missed_event : ℕ → ℕ → Event
missed_event pt match_bits = entry_event Search pt match_bits false

-- a start
abbrev pub send_event : Header → Event
send_event h = message_event Send h 0 0

-- a reply
abbrev pub is_reply : MessageKind → Bool
is_reply Reply = true
is_reply _ = false

-- an acknowledgement with an event was asked for
abbrev pub asks_event : AckRequest → Bool
asks_event Ack = true
asks_event _ = false

-- the answer's length as delivered; a reply that wrote bytes has the place of the first
abbrev pub answer_event : Bound → Header → Event
answer_event b h = record {
  kind = if is_reply h.kind then ReplyEvent else AckEvent;
  source = h.source;
  pt = h.pt;
  match_bits = h.match_bits;
  hdr_data = h.hdr_data;
  requested = 0;
  delivered = h.length;
  place = if is_reply h.kind && (h.ok && nat_lt 0 h.length) then b.md.start + h.home_offset else 0;
  ok = h.ok;
}
