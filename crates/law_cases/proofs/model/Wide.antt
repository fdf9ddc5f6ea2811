-- A setting in which each field has a value of its own: limits that differ, bytes that differ, and two counters, queues and descriptors.
use Rattle.std.specs.Prelude.{ℕ, true, List, [], ◌∷◌, map, Option, Some, None, Result, Ok, Err}
use Rattle.ptl_types.specs.declared.handles.Handle.{Handle}
use Rattle.ptl_types.specs.declared.headers.Header.{Header}
use Rattle.ptl_types.specs.declared.headers.MessageKind.{MessageKind}
use Rattle.ptl_types.specs.declared.headers.AckRequest.{AckRequest}
use Rattle.ptl_types.specs.declared.headers.AckRequest.TheVariants.{NoAck}
use Rattle.ptl_types.specs.declared.elements.ElemType.TheVariants.{U8}
use Rattle.ptl_types.specs.declared.entries.Descriptor.{Descriptor}
use Rattle.ptl_types.specs.declared.events.Event.{Event}
use Rattle.ptl_types.specs.declared.events.EventKind.{EventKind}
use Rattle.ptl_types.specs.declared.events.EventKind.TheVariants.{Link}
use Rattle.ptl_types.specs.declared.calls.NiFault.{NiFault}
use Rattle.ptl_types.specs.declared.calls.Limits.{Limits}
use Rattle.ptl_types.specs.declared.calls.PutArgs.{PutArgs}
use Rattle.ptl_types.specs.declared.calls.GetArgs.{GetArgs}
use Rattle.ni_model.specs.Queues.{Waiting}
use Rattle.ni_model.specs.Tables.{handle, lookup}
use Rattle.ni_model.specs.State.{State, opened}
use Rattle.ni_model.specs.Calls.{ct_alloc, eq_alloc, md_bind}
use Rattle.law_cases.proofs.model.Setting.{first, second, part_of}

abbrev pub many : Limits
many = record { entries = 6; unexpected = 5; mds = 2; cts = 3; eqs = 2; pts = 3; triggered = 7; msg = 16; atomic = 8; fetch_atomic = 4 }

-- sixteen bytes, from 10 to 25
abbrev pub region : List ℕ
region = 10 ∷ 11 ∷ 12 ∷ 13 ∷ 14 ∷ 15 ∷ 16 ∷ 17 ∷ 18 ∷ 19 ∷ 20 ∷ 21 ∷ 22 ∷ 23 ∷ 24 ∷ 25 ∷ []

-- a handle of nothing
abbrev pub unknown : Handle
unknown = handle 0 9

-- ---- rank 1 of 4 starts operations and gets their answers

-- two counting events and two queues
abbrev pub base : State
base = (eq_alloc 1 8 (eq_alloc 0 8 (ct_alloc 1 (ct_alloc 0 (opened 1 4 many region)).state).state).state).state

-- bytes 2 to 7, with the first counting event and the first queue; it counts starts
abbrev pub source : Descriptor
source = record (part_of 2 6) { eq = Some first; ct = Some first; count_send = true }

-- bytes 8 to 15, with the second ones
abbrev pub goal : Descriptor
goal = record (part_of 8 8) { eq = Some second; ct = Some second; count_send = true }

abbrev pub bound_both : Descriptor → Descriptor → State
bound_both a b = (md_bind 1 b (md_bind 0 a base).state).state

abbrev pub sending : AckRequest → PutArgs
sending ack = record {
  md = first;
  local_offset = 1;
  length = 2;
  ack = ack;
  target = 3;
  pt = 4;
  match_bits = 5;
  remote_offset = 6;
  hdr_data = 77;
}

abbrev pub fetching : GetArgs
fetching = record { md = second; local_offset = 3; length = 2; target = 3; pt = 4; match_bits = 5; remote_offset = 6 }

-- ---- rank 0 of 2 has messages of rank 1 for portal table index 1

abbrev pub asks : MessageKind → ℕ → Header
asks kind length = record {
  kind = kind;
  source = 1;
  target = 0;
  pt = 1;
  match_bits = 5;
  offset = 1;
  length = length;
  hdr_data = 77;
  op = None;
  swap = None;
  ty = U8;
  operand = 0;
  ack = NoAck;
  home = Some second;
  home_offset = 9;
  ok = true;
}

-- ---- events

abbrev pub events_of : Option Waiting → List Event
events_of None = []
events_of (Some q) = q.events

-- those that wait in a queue, oldest first
abbrev pub events_in : Handle → State → List Event
events_in eq s = events_of (lookup eq s.eqs.live)

abbrev pub kind_of : Event → EventKind
kind_of e = e.kind

abbrev pub kinds_in : Handle → State → List EventKind
kinds_in eq s = map kind_of (events_in eq s)

-- an entry with match bits 5 is linked at index 1
abbrev pub linked_event : Event
linked_event = record { kind = Link; source = 0; pt = 1; match_bits = 5; hdr_data = 0; requested = 0; delivered = 0; place = 0; ok = true }

-- ---- refusals

-- the refusal that a call answers, if it does
abbrev pub fault_of : {A : Type 0} → Result A NiFault → Option NiFault
fault_of (Ok x) = None
fault_of (Err fault) = Some fault
