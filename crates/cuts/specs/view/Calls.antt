-- What the calls that prepare a rank's interface do, one after the other. Here is no plan: the calls are values, made on an
-- interface whose own cells are given.
use Rattle.std.specs.Prelude.{ℕ, Bool, true, false, ◌≡◌, List, Option, Some, None, [], ◌∷◌, length, if◌then◌else◌}
use Rattle.ptl_types.specs.declared.handles.Handle.{Handle}
use Rattle.ptl_types.specs.declared.elements.AtomicOp.{AtomicOp}
use Rattle.ptl_types.specs.declared.elements.ElemType.{ElemType}
use Rattle.ptl_types.specs.declared.headers.AckRequest.{AckRequest}
use Rattle.ptl_types.specs.declared.entries.Entry.{Entry}
use Rattle.ptl_types.specs.declared.entries.Descriptor.{Descriptor}
use Rattle.ptl_types.specs.declared.entries.TheConstants.HiddenEntryEvents as hidden_entry_events
use Rattle.ptl_types.specs.declared.entries.TheConstants.HiddenDescriptorEvents as hidden_descriptor_events
use Rattle.ptl_types.specs.declared.entries.List.{List as EntryList}
use Rattle.ptl_types.specs.declared.entries.List.TheVariants.{Priority, Overflow as InOverflow}
use Rattle.ptl_types.specs.declared.calls.NiFault.{NiFault}
use Rattle.ptl_types.specs.declared.calls.PutArgs.{PutArgs}
use Rattle.ptl_types.specs.declared.calls.TriggeredOp.{TriggeredOp}
use Rattle.ptl_types.specs.declared.calls.TriggeredOp.TheVariants.{Put as PutAction, Atomic as AtomicAction, Inc as IncAction}
use Rattle.ptl_types.specs.declared.steps.PlannedOp.{PlannedOp}
use Rattle.ptl_types.specs.declared.steps.PlannedOp.TheVariants.{Send, BumpCell, BumpDone}
use Rattle.ptl_types.specs.declared.steps.Call.{Call}
use Rattle.ptl_types.specs.declared.steps.Call.TheVariants.{PtAlloc, CtDone, CtCell, MdBind, Overflow, MeAppend, Trigger}
use Rattle.ni_model.specs.Append.{append, append_fault}
use Rattle.ni_model.specs.Calls.{with_index, with_counter, with_bound, with_operation}
use Rattle.ni_model.specs.Conditions.{MayStart}
use Rattle.ni_model.specs.Counts.{successes}
use Rattle.ni_model.specs.Refusals.{pt_alloc_fault, alloc_fault, bind_fault, triggered_fault}
use Rattle.ni_model.specs.State.{State, opened, parts_of, side_of, with_parts}
use Rattle.plan_core.specs.Plan.{Plan, own}
use Rattle.plan_core.specs.Values.{Inputs}
use Rattle.plan_core.specs.calls.Areas.{initial_region}
use Rattle.plan_core.specs.calls.Calls.{prepare_calls}
use Rattle.plan_core.specs.calls.Limits.{limits_for}
use Rattle.cuts.specs.view.Slots.{Slots, counter_at, done_ct, the_md}

-- ---- what the calls are made with

-- the entry of a cell: each message counts on the cell's counter, and so does each header that the append takes
abbrev pub cell_entry : Handle → ℕ → ℕ → ℕ → ℕ → Entry
cell_entry ct start n bits ignored = record {
  start = start;
  length = n;
  ct = Some ct;
  match_id = None;
  match_bits = bits;
  ignore_bits = ignored;
  min_free = 0;
  allow_put = true;
  allow_get = false;
  use_once = false;
  manage_local = false;
  no_truncate = true;
  count_comm = true;
  count_overflow = true;
  hidden = hidden_entry_events.NONE;
}

-- the entry of an area: messages lie there one after the other, and nothing is counted
abbrev pub area_entry : ℕ → ℕ → ℕ → ℕ → Entry
area_entry start n bits ignored = record {
  start = start;
  length = n;
  ct = None;
  match_id = None;
  match_bits = bits;
  ignore_bits = ignored;
  min_free = 0;
  allow_put = true;
  allow_get = false;
  use_once = false;
  manage_local = true;
  no_truncate = true;
  count_comm = false;
  count_overflow = false;
  hidden = hidden_entry_events.NONE;
}

-- the whole region; where completion waits for acknowledgements it counts them on the done counter
abbrev pub whole_region : Handle → ℕ → Bool → Descriptor
whole_region done n remote = record {
  start = 0;
  length = n;
  eq = None;
  ct = if remote then Some done else None;
  count_send = false;
  count_reply = false;
  count_ack = remote;
  hidden = hidden_descriptor_events.NONE;
}

-- the arguments of what is sent
abbrev pub args_at : Handle → ℕ → ℕ → ℕ → ℕ → ℕ → ℕ → AckRequest → PutArgs
args_at md local n target bits remote hdr ack = record {
  md = md;
  local_offset = local;
  length = n;
  ack = ack;
  target = target;
  pt = 0;
  match_bits = bits;
  remote_offset = remote;
  hdr_data = hdr;
}

-- a put, or an atomic where there is an operation
abbrev pub sending_action : PutArgs → Option AtomicOp → ElemType → TriggeredOp
sending_action args None ty = PutAction args
sending_action args (Some o) ty = AtomicAction args o ty

-- what a triggered operation does
abbrev pub action_at : Slots → List ℕ → PlannedOp → TriggeredOp
action_at k cells (Send local n target bits remote hdr op ty ack) = sending_action (args_at (the_md k) local n target bits remote hdr ack)
    op ty
action_at k cells (BumpCell c) = IncAction (counter_at k cells c) (successes 1)
action_at k cells BumpDone = IncAction (done_ct k) (successes 1)

-- ---- the calls

-- an entry at the end of a list of index 0
abbrev pub with_entry : ℕ → EntryList → Entry → State → State
with_entry slot list e s = with_parts (append slot 0 list e (parts_of s)).parts s

-- one call, where it isn't refused, on an interface whose own cells are these
unfoldable pub call_made : Slots → List ℕ → Call → State → State
call_made k cells PtAlloc s = with_index 0 None s
call_made k cells CtDone s = with_counter (k.ct s.cts.given) s
call_made k cells (CtCell c) s = with_counter (k.ct s.cts.given) s
call_made k cells (MdBind n remote) s = with_bound k.md (whole_region (done_ct k) n remote) s
call_made k cells (Overflow start n bits ignored) s = with_entry (k.me s.entries_given) InOverflow (area_entry start n bits ignored) s
call_made k cells (MeAppend c start n bits ignored) s =
    with_entry (k.me s.entries_given) Priority (cell_entry (counter_at k cells c) start n bits ignored) s
call_made k cells (Trigger c threshold act) s = with_operation (action_at k cells act) (counter_at k cells c) threshold s

-- a list of calls, in order
abbrev pub calls_made : Slots → List ℕ → List Call → State → State
calls_made k cells [] s = s
calls_made k cells (call ∷ calls) s = calls_made k cells calls (call_made k cells call s)

-- ---- whether they are refused

-- why the interface refuses a call, if it does
abbrev pub call_fault : Slots → List ℕ → Call → State → Option NiFault
call_fault k cells PtAlloc s = pt_alloc_fault 0 None (side_of s) s.eqs
call_fault k cells CtDone s = alloc_fault s.cts
call_fault k cells (CtCell c) s = alloc_fault s.cts
call_fault k cells (MdBind n remote) s = bind_fault (whole_region (done_ct k) n remote) (length s.memory) s.cts s.eqs s.mds
call_fault k cells (Overflow start n bits ignored) s = append_fault 0 (area_entry start n bits ignored) (parts_of s)
call_fault k cells (MeAppend c start n bits ignored) s =
    append_fault 0 (cell_entry (counter_at k cells c) start n bits ignored) (parts_of s)
call_fault k cells (Trigger c threshold act) s = triggered_fault (action_at k cells act) (counter_at k cells c) s.cts s.mds s.pending

-- what a caller sees to: what a triggered operation sends goes to a rank that there is, and is within the limits
abbrev pub MayMake : Slots → List ℕ → Call → State → Type 0
MayMake k cells (Trigger c threshold act) s = MayStart (action_at k cells act) s.ranks s.limits
MayMake k cells _ s = Unit {0}

-- each call may be made where it stands, and isn't refused
abbrev pub AllPass : Slots → List ℕ → List Call → State → Type 0
AllPass k cells [] s = Unit {0}
AllPass k cells (call ∷ calls) s =
    MayMake k cells call s × (call_fault k cells call s ≡ None) × AllPass k cells calls (call_made k cells call s)

-- ---- the interface of rank r of a plan before its start

-- opened with the plan's limits, the cells' initial bytes and blank areas
abbrev pub fresh : Plan → Inputs → ℕ → State
fresh p inputs r = opened r p.ranks (limits_for p r) (initial_region p inputs r)

-- after the calls that prepare it
abbrev pub prepare : Plan → Inputs → Slots → ℕ → State
prepare p inputs k r = calls_made k (own p r) (prepare_calls p r) (fresh p inputs r)
