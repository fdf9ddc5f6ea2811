-- Things of an interface, in the form that C has them.
use Rattle.std.specs.Prelude.{ℕ, Bool, true, false, ◌==◌, Option, Some, None, if◌then◌else◌}
use Rattle.std.specs.Int.Bits.{bit_and}
use Rattle.ptl_types.specs.declared.handles.Handle.{Handle}
use Rattle.ptl_types.specs.declared.handles.Count.{Count}
use Rattle.ptl_types.specs.declared.entries.Descriptor.{Descriptor}
use Rattle.ptl_types.specs.declared.entries.Entry.{Entry}
use Rattle.ptl_types.specs.declared.entries.List.{List as EntryList}
use Rattle.ptl_types.specs.declared.entries.List.TheVariants.{Priority, Overflow}
use Rattle.ptl_types.specs.declared.calls.Appended.{Appended}
use Rattle.ptl_types.specs.declared.calls.Appended.TheVariants.{Linked, Consumed}
use Rattle.ptl_types.specs.declared.calls.EqGot.{EqGot}
use Rattle.ptl_types.specs.declared.calls.EqGot.TheVariants.{Got, Empty, Dropped}
use Rattle.ptl_types.specs.declared.calls.Limits.{Limits}
use Rattle.ptl_types.specs.declared.entries.UnexpectedHeader.{UnexpectedHeader}
use Rattle.ptl_types.specs.declared.events.Event.{Event}
use Rattle.ptl_types.specs.declared.events.EventKind.{EventKind}
use Rattle.ptl_types.specs.declared.events.EventKind.TheVariants.{Put, PutOverflow, Get, Atomic, AtomicOverflow, FetchAtomic, Reply, Send}
use Rattle.ptl_types.specs.declared.events.EventKind.TheVariants.{Ack, Link, AutoUnlink, AutoFree, Search}
use Rattle.c_interface.specs.declared.forms.CHandle.{CHandle}
use Rattle.c_interface.specs.declared.forms.CCount.{CCount}
use Rattle.c_interface.specs.declared.forms.CLimits.{CLimits}
use Rattle.c_interface.specs.declared.forms.CDescriptor.{CDescriptor}
use Rattle.c_interface.specs.declared.forms.CEntry.{CEntry}
use Rattle.c_interface.specs.declared.forms.CEvent.{CEvent}

-- ---- handles and counts

abbrev pub handle_of : CHandle → Handle
handle_of h = record { slot = h.slot; stamp = h.stamp }

abbrev pub handle_told : Handle → CHandle
handle_told h = record { stamp = h.stamp; slot = h.slot }

-- the handle that stands for none: no table gives this stamp
abbrev pub none_told : CHandle
none_told = record { stamp = 18446744073709551615; slot = 4294967295 }

abbrev pub unless_none : CHandle → Option Handle
unless_none h = if h.stamp == 18446744073709551615 then None else Some (handle_of h)

abbrev pub count_of : CCount → Count
count_of c = record { success = c.success; failure = c.failure }

abbrev pub count_told : Count → CCount
count_told c = record { success = c.success; failure = c.failure }

abbrev pub limits_of : CLimits → Limits
limits_of l = record {
  entries = l.max_entries;
  unexpected = l.max_unexpected_headers;
  mds = l.max_mds;
  cts = l.max_cts;
  eqs = l.max_eqs;
  pts = l.max_pt_index;
  triggered = l.max_triggered_ops;
  msg = l.max_msg_size;
  atomic = l.max_atomic_size;
  fetch_atomic = l.max_fetch_atomic_size;
}

-- ---- options, as bits of a number

abbrev pub has : ℕ → ℕ → Bool
has options bit = if bit_and options bit == 0 then false else true

-- some bit isn't one of those that are known
abbrev pub unknown : ℕ → ℕ → Bool
unknown options known = if bit_and options known == options then false else true

-- ---- descriptors and entries: none where an option is unknown

abbrev pub descriptor_of : CDescriptor → Option Descriptor
descriptor_of d =
    if unknown d.options 31 then None
    else Some (record {
      start = d.start;
      length = d.length;
      eq = unless_none d.eq_handle;
      ct = unless_none d.ct_handle;
      count_send = has d.options 1;
      count_reply = has d.options 2;
      count_ack = has d.options 4;
      hidden = record { send = has d.options 8; success = has d.options 16 };
    })

-- 2^32 - 1 matches any source
abbrev pub match_of : ℕ → Option ℕ
match_of rank = if rank == 4294967295 then None else Some rank

abbrev pub entry_of : CEntry → Option Entry
entry_of e =
    if unknown e.options 4095 then None
    else Some (record {
      start = e.start;
      length = e.length;
      ct = unless_none e.ct_handle;
      match_id = match_of e.match_id;
      match_bits = e.match_bits;
      ignore_bits = e.ignore_bits;
      min_free = e.min_free;
      allow_put = has e.options 1;
      allow_get = has e.options 2;
      use_once = has e.options 4;
      manage_local = has e.options 8;
      no_truncate = has e.options 16;
      count_comm = has e.options 32;
      count_overflow = has e.options 64;
      hidden = record {
        link = has e.options 128;
        unlink = has e.options 256;
        comm = has e.options 512;
        overflow = has e.options 1024;
        success = has e.options 2048;
      };
    })

abbrev pub list_of : ℕ → Option EntryList
list_of n = if n == 0 then Some Priority else if n == 1 then Some Overflow else None

-- an entry and a list, where both are
abbrev pub both_of : {A B : Type 0} → Option A → Option B → Option (A × B)
both_of (Some x) (Some y) = Some (x, y)
both_of _ _ = None

-- ---- what is written out

abbrev pub one_handle : Handle → CHandle → CHandle
one_handle h old = handle_told h

-- an entry that isn't linked has no handle
abbrev pub appended_told : Appended → CHandle → CHandle
appended_told (Linked h) old = handle_told h
appended_told (Consumed u) old = none_told

abbrev pub one_count : Count → CCount → CCount
one_count c old = count_told c

abbrev pub one_number : ℕ → ℕ → ℕ
one_number n old = n

-- whether there was one
abbrev pub found_told : Option UnexpectedHeader → ℕ → ℕ
found_told None old = 0
found_told (Some u) old = 1

abbrev pub kind_told : EventKind → ℕ
kind_told Put = 0
kind_told PutOverflow = 1
kind_told Get = 2
kind_told Atomic = 3
kind_told AtomicOverflow = 4
kind_told FetchAtomic = 5
kind_told Reply = 6
kind_told Send = 7
kind_told Ack = 8
kind_told Link = 9
kind_told AutoUnlink = 10
kind_told AutoFree = 11
kind_told Search = 12

-- 1 for true
abbrev pub bit : Bool → ℕ
bit true = 1
bit false = 0

abbrev pub event_told : Event → CEvent
event_told e = record {
  kind = kind_told e.kind;
  initiator = e.source;
  pt_index = e.pt;
  ok = bit e.ok;
  match_bits = e.match_bits;
  hdr_data = e.hdr_data;
  rlength = e.requested;
  mlength = e.delivered;
  start = e.place;
}

-- an event and 1; or 0 or 2, and the event's place is as it was
abbrev pub got_told : EqGot → CEvent × ℕ → CEvent × ℕ
got_told (Got e) old = (event_told e, 1)
got_told Empty old = (old.0, 0)
got_told Dropped old = (old.0, 2)
