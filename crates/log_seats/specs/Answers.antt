-- What each call of an interface does, and what is owed as its answer.
use Rattle.std.specs.Prelude.{ℕ, ◌≡◌, ◌==◌, Bool, false, ◌+◌, nat_lt, List, [], ◌∷◌, Option, Some, None, Result, Ok, Err, codes}
use Rattle.std.specs.Prelude.{if◌then◌else◌, is_some, length, unwrap_or}
use Rattle.std.specs.List.{slice_get}
use Rattle.ptl_types.specs.declared.handles.Handle.{Handle}
use Rattle.ptl_types.specs.declared.handles.Count.{Count}
use Rattle.ptl_types.specs.declared.entries.Entry.{Entry}
use Rattle.ptl_types.specs.declared.entries.Descriptor.{Descriptor}
use Rattle.ptl_types.specs.declared.entries.UnexpectedHeader.{UnexpectedHeader}
use Rattle.ptl_types.specs.declared.calls.NiFault.{NiFault}
use Rattle.ptl_types.specs.declared.calls.NiFault.TheVariants as faults
use Rattle.ptl_types.specs.declared.calls.EqGot.{EqGot}
use Rattle.ptl_types.specs.declared.calls.EqGot.TheVariants.{Got, Empty, Dropped}
use Rattle.ptl_types.specs.declared.calls.Appended.{Appended}
use Rattle.ptl_types.specs.declared.calls.Appended.TheVariants.{Linked, Consumed}
use Rattle.ptl_types.specs.declared.calls.TriggeredOp.{TriggeredOp}
use Rattle.ptl_types.specs.declared.calls.TriggeredOp.TheVariants.{Put, Get, Atomic, FetchAtomic, Swap, Inc, Set}
use Rattle.ptl_types.specs.Messages.{Sent}
use Rattle.ni_model.specs.Answers.{is_awaited}
use Rattle.ni_model.specs.Calls as calls
use Rattle.ni_model.specs.Calls.{Done, Makes, entry_taken}
use Rattle.ni_model.specs.Ready.{Fires, fired, is_ready, ready_numbers, ready_numbers_to, target_at}
use Rattle.ni_model.specs.State.{State, Delivers, target}
use Rattle.ni_model.specs.Tables.{has_slot}
use Rattle.match_lists.specs.unexpected.Places.{header_at}
use Rattle.guarded_ni.specs.declared.faults.CallFault.{CallFault}
use Rattle.guarded_ni.specs.declared.faults.CallFault.TheVariants.{Misused, Refused}
use Rattle.guarded_ni.specs.declared.faults.Misuse.{Misuse}
use Rattle.guarded_ni.specs.declared.faults.Misuse.TheVariants as misuses
use Rattle.guarded_ni.specs.Misuses.{start_misuse, unless}
use Rattle.log_words.specs.declared.call_fields.said.TheConstants.{NO_HANDLE}
use Rattle.log_lines.specs.declared.calls.Call.{Call}
use Rattle.log_lines.specs.declared.calls.Call.TheVariants as said
use Rattle.log_lines.specs.declared.calls.TriggeredOpSaid.{TriggeredOpSaid}
use Rattle.log_words.specs.declared.call_fields.said.EntrySaid.{EntrySaid}
use Rattle.log_words.specs.declared.call_fields.said.MdSaid.{MdSaid}
use Rattle.log_answers.specs.declared.owed.Sort.{Sort}
use Rattle.log_answers.specs.declared.owed.Sort.TheVariants.{Counter, Queue, Descriptor as Md, Entry as Me}
use Rattle.log_answers.specs.declared.owed.Owed.{Owed}
use Rattle.log_answers.specs.declared.owed.Owed.TheVariants as owed
use Rattle.log_answers.specs.names.Postings.{cancelled, posted, removed}
use Rattle.log_seats.specs.Bytes.{bytes_in}
use Rattle.log_seats.specs.Seats.{handle_if, handle_of, operation_of, with_nic, with_operations, without_thing}
use Rattle.log_seats.specs.declared.seats.Seat.{Seat}
use Rattle.log_seats.specs.declared.after.After.{After as Told}

-- the interface after a call, what is owed, and the message that was sent
pub record After : Type 0 where
  pub seat : Seat
  pub owed : Owed
  pub sent : Option Sent

abbrev pub after : Seat → Owed → After
after s o = record { seat = s; owed = o; sent = None }

abbrev pub says : List ℕ → Owed
says word = owed.Word word

abbrev pub yes : Bool → Owed
yes b = says (if b then codes "yes" else codes "no")

-- ---- refusals

abbrev pub fault_word : NiFault → List ℕ
fault_word faults.Stale = codes "Stale"
fault_word faults.NoSpace = codes "NoSpace"
fault_word faults.OutOfRegion = codes "OutOfRegion"
fault_word faults.InUse = codes "InUse"
fault_word faults.CountFull = codes "CountFull"
fault_word faults.NoMemory = codes "NoMemory"

abbrev pub misuse_word : Misuse → List ℕ
misuse_word misuses.UnknownRank = codes "UnknownRank"
misuse_word misuses.UnfitLimits = codes "UnfitLimits"
misuse_word misuses.TooLong = codes "TooLong"
misuse_word misuses.PartialElement = codes "PartialElement"
misuse_word misuses.HalvesDiffer = codes "HalvesDiffer"
misuse_word misuses.AsksAcknowledgement = codes "AsksAcknowledgement"
misuse_word misuses.NoRoom = codes "NoRoom"
misuse_word misuses.OutsideRegion = codes "OutsideRegion"
misuse_word misuses.Elsewhere = codes "Elsewhere"
misuse_word misuses.NotReady = codes "NotReady"

-- a rule is broken: the interface is as it was
abbrev pub unless_misused : Option Misuse → Seat → After → After
unless_misused None s a = a
unless_misused (Some m) s a = after s (says (misuse_word m))

-- an answer, or the refusal
abbrev pub told : {A : Type 0} → (A → Owed) → Result A NiFault → Owed
told f (Ok x) = f x
told f (Err fault) = says (fault_word fault)

-- a call that answers so
abbrev pub tells : {A : Type 0} → (A → Owed) → Done (Result A NiFault) → Seat → After
tells f d s = after (with_nic d.state s) (told f d.answer)

abbrev pub ok : Unit {0} → Owed
ok _ = says (codes "ok")

-- a thing is freed: its word names nothing then
abbrev pub gone : Sort → Handle → Result (Unit {0}) NiFault → Seat → Seat
gone sort h (Ok _) s = without_thing sort h s
gone sort h (Err fault) s = s

abbrev pub frees : Sort → Handle → Done (Result (Unit {0}) NiFault) → Seat → After
frees sort h d s = after (gone sort h d.answer (with_nic d.state s)) (told ok d.answer)

-- ---- what the words of a call name

abbrev pub entry_of : Seat → EntrySaid → Entry
entry_of s e = record e.entry { ct = handle_if Counter s e.ct }

abbrev pub md_of : Seat → MdSaid → Descriptor
md_of s m = record m.md { eq = handle_if Queue s m.eq; ct = handle_if Counter s m.ct }

-- a deed with its handles
abbrev pub deed_with : TriggeredOp → Handle → Handle → TriggeredOp
deed_with (Put a) on back = Put (record a { md = on })
deed_with (Get g) on back = Get (record g { md = on })
deed_with (Atomic a op ty) on back = Atomic (record a { md = on }) op ty
deed_with (FetchAtomic g a op ty) on back = FetchAtomic (record g { md = back }) (record a { md = on }) op ty
deed_with (Swap g a op ty operand) on back = Swap (record g { md = back }) (record a { md = on }) op ty operand
deed_with (Inc ct by) on back = Inc on by
deed_with (Set ct to) on back = Set on to

-- what it is on: a counting event or a descriptor
abbrev pub sort_of : TriggeredOp → Sort
sort_of (Inc ct by) = Counter
sort_of (Set ct to) = Counter
sort_of _ = Md

abbrev pub deed_of : Seat → TriggeredOpSaid → TriggeredOp
deed_of s d = deed_with d.deed (handle_of (sort_of d.deed) s d.on) (unwrap_or (handle_if Md s d.back) NO_HANDLE)

-- ---- entries, headers and events

abbrev pub found : Option UnexpectedHeader → Owed
found None = says (codes "none")
found (Some u) = owed.Found u

abbrev pub appended : Appended → Owed
appended (Linked h) = owed.Linked h
appended (Consumed u) = owed.Taken u

abbrev pub got : EqGot → Owed
got (Got e) = owed.Event e
got Empty = says (codes "empty")
got Dropped = says (codes "dropped")

-- ---- operations

abbrev pub message_owed : Option Sent → Owed
message_owed None = says (codes "none")
message_owed (Some m) = owed.Message

abbrev pub sent_by : Result (Option Sent) NiFault → Option Sent
sent_by (Ok m) = m
sent_by (Err fault) = None

abbrev pub starts : TriggeredOp → Seat → After
starts d s =
    let r = calls.start d s.nic in
    unless_misused (start_misuse d s.nic.ranks s.nic.limits) s (record (tells message_owed r s) { sent = sent_by r.answer })

-- an operation that waits has the log's word
abbrev pub with_posted : List ℕ → Handle → Result ℕ NiFault → Seat → Seat
with_posted word ct (Ok t) s = with_operations (posted t ct word s.operations) s
with_posted word ct (Err fault) s = s

abbrev pub posts : List ℕ → TriggeredOp → Handle → ℕ → Seat → After
posts word d ct threshold s =
    let r = calls.triggered d ct threshold s.nic in
    unless_misused (start_misuse d s.nic.ranks s.nic.limits) s
    (after (with_posted word ct r.answer (with_nic r.state s)) (told (λ t. says (codes "ok")) r.answer))

abbrev pub fires_as : ℕ → Fires → Seat → After
fires_as t f s =
    record (after (with_operations (removed t s.operations) (with_nic f.state s)) (message_owed f.message)) { sent = f.message }

-- an operation that doesn't wait isn't ready
abbrev pub fires_at : Option ℕ → Seat → After
fires_at None s = after s (says (misuse_word misuses.NotReady))
fires_at (Some t) s = unless_misused (unless (is_ready s.nic t) misuses.NotReady) s (fires_as t (fired s.nic t) s)

-- those of a counting event wait no longer
abbrev pub without_waiting : Handle → Result ℕ NiFault → Seat → Seat
without_waiting ct (Ok n) s = with_operations (cancelled ct s.operations) s
without_waiting ct (Err fault) s = s

abbrev pub cancels : Handle → Seat → After
cancels ct s =
    let r = calls.ct_cancel ct s.nic in
    after (without_waiting ct r.answer (with_nic r.state s)) (told (λ n. owed.Amount n) r.answer)

abbrev pub ready_owed : List ℕ → Owed
ready_owed [] = says (codes "none")
ready_owed (t ∷ ts) = owed.Ready

abbrev pub ready_at_owed : Option ℕ → Owed
ready_at_owed None = says (misuse_word misuses.NotReady)
ready_at_owed (Some t) = owed.Operation t

abbrev pub is_ready_at : State → Option ℕ → Bool
is_ready_at s None = false
is_ready_at s (Some t) = is_ready s t

abbrev pub rank_owed : Option ℕ → Owed
rank_owed None = says (codes "none")
rank_owed (Some r) = owed.Amount r

abbrev pub lane_owed : State → Option ℕ → Owed
lane_owed s None = says (codes "none")
lane_owed s (Some t) = rank_owed (target_at s t)

-- ---- the region

abbrev pub outside : State → ℕ → ℕ → Option Misuse
outside s start n = if nat_lt (length s.memory) (start + n) then Some misuses.OutsideRegion else None

abbrev pub reads : ℕ → ℕ → Seat → After
reads start n s = unless_misused (outside s.nic start n) s (after s (owed.Part start n))

abbrev pub writes : ℕ → List ℕ → Seat → After
writes start bytes s =
    unless_misused (outside s.nic start (length bytes)) s (after (with_nic (calls.write_memory start bytes s.nic) s) (ok tt))

-- ---- messages: what became of one, and its answer

abbrev pub delivers_as : Delivers → Seat → After
delivers_as d s = record {
  seat = with_nic d.state s;
  owed = owed.Delivered d.delivered.outcome (is_some d.delivered.answer);
  sent = d.delivered.answer;
}

abbrev pub arrives : Sent → Seat → After
arrives m s = delivers_as (target s.nic m) s

-- at the interface that it is for
abbrev pub arrived : Sent → Seat → After
arrived m s = unless_misused (unless (m.header.target == s.nic.rank) misuses.Elsewhere) s (arrives m s)

-- ---- a call of an open interface, but for `open` and `deliver`: what may stand after it. A new thing gets some slot that is free.

abbrev pub number : ℕ → Owed
number n = owed.Amount n

abbrev pub counts : Count → Owed
counts c = owed.Counts c

abbrev pub new : Sort → Handle → Owed
new sort h = owed.New sort h

-- calls of counting events, queues, indices and descriptors
unfoldable pub TableAnswers : Call → Seat → After → Type 0
TableAnswers (said.PtAlloc pt eq) s x = x ≡ tells ok (calls.pt_alloc pt (handle_if Queue s eq) s.nic) s
TableAnswers (said.PtFree pt) s x = x ≡ tells ok (calls.pt_free pt s.nic) s
TableAnswers said.CtAlloc s x = Makes (λ slot. has_slot slot s.nic.cts.live) (λ slot. tells (new Counter) (calls.ct_alloc slot s.nic) s) x
TableAnswers (said.CtFree ct) s x = x ≡ frees Counter (handle_of Counter s ct) (calls.ct_free (handle_of Counter s ct) s.nic) s
TableAnswers (said.CtSet ct to) s x = x ≡ tells ok (calls.ct_set (handle_of Counter s ct) to s.nic) s
TableAnswers (said.CtInc ct by) s x = x ≡ tells ok (calls.ct_inc (handle_of Counter s ct) by s.nic) s
TableAnswers (said.CtCancel ct) s x = x ≡ cancels (handle_of Counter s ct) s
TableAnswers (said.EqAlloc room) s x =
    Makes (λ slot. has_slot slot s.nic.eqs.live)
    (λ slot. unless_misused (unless (nat_lt 0 room) misuses.NoRoom) s (tells (new Queue) (calls.eq_alloc slot room s.nic) s)) x
TableAnswers (said.EqFree eq) s x = x ≡ frees Queue (handle_of Queue s eq) (calls.eq_free (handle_of Queue s eq) s.nic) s
TableAnswers (said.EqGet eq) s x = x ≡ tells got (calls.eq_get (handle_of Queue s eq) s.nic) s
TableAnswers (said.MdBind md) s x =
    Makes (λ slot. has_slot slot s.nic.mds.live) (λ slot. tells (new Md) (calls.md_bind slot (md_of s md) s.nic) s) x
TableAnswers (said.MdRelease md) s x = x ≡ frees Md (handle_of Md s md) (calls.md_release (handle_of Md s md) s.nic) s
TableAnswers _ s x = x ≡ after s (says [])

-- and of entries, operations and the region
unfoldable pub EntryAnswers : Call → Seat → After → Type 0
EntryAnswers (said.MeAppend pt list e) s x =
    Makes (entry_taken s.nic.indices x.seat.nic.headers.unexpected)
    (λ slot. tells appended (calls.me_append slot pt list (entry_of s e) s.nic) s) x
EntryAnswers (said.MeUnlink me) s x = x ≡ frees Me (handle_of Me s me) (calls.me_unlink (handle_of Me s me) s.nic) s
EntryAnswers (said.MeSearch pt delete e) s x = x ≡ tells found (calls.me_search pt (entry_of s e) delete s.nic) s
EntryAnswers (said.Start d) s x = x ≡ starts (deed_of s d) s
EntryAnswers (said.Triggered t ct threshold d) s x = x ≡ posts t.text (deed_of s d) (handle_of Counter s ct) threshold s
EntryAnswers (said.Fire t) s x = x ≡ fires_at (operation_of s t) s
EntryAnswers (said.Write start word) s x = x ≡ writes start (bytes_in word.text) s
EntryAnswers call s x = TableAnswers call s x

-- and those that ask, which leave everything as it was
unfoldable pub Answers : Call → Seat → After → Type 0
Answers (said.CtGet ct) s x = x ≡ after s (told counts (calls.ct_get (handle_of Counter s ct) s.nic))
Answers (said.Awaits md) s x = x ≡ after s (told number (calls.awaits (handle_of Md s md) s.nic))
Answers said.AwaitsAny s x = x ≡ after s (yes (is_awaited s.nic.mds.live))
Answers said.Headers s x = x ≡ after s (number (length s.nic.headers.unexpected))
Answers (said.Header pt i) s x = x ≡ after s (found (header_at pt i s.nic.headers.unexpected))
Answers (said.IsReady t) s x = x ≡ after s (yes (is_ready_at s.nic (operation_of s t)))
Answers said.Ready s x = x ≡ after s (ready_owed (ready_numbers s.nic))
Answers said.ReadyCount s x = x ≡ after s (number (length (ready_numbers s.nic)))
Answers (said.ReadyAt i) s x = x ≡ after s (ready_at_owed (slice_get (ready_numbers s.nic) i))
Answers (said.ReadyCountTo rank) s x = x ≡ after s (number (length (ready_numbers_to rank s.nic)))
Answers (said.LaneOf t) s x = x ≡ after s (lane_owed s.nic (operation_of s t))
Answers (said.Read start n) s x = x ≡ reads start n s
Answers said.Pending s x = x ≡ after s (number (length s.nic.pending.waiting))
Answers said.Drops s x = x ≡ after s (number s.nic.drops)
Answers said.Violations s x = x ≡ after s (number s.nic.violations)
Answers call s x = EntryAnswers call s x

-- ---- what code has of it

-- what is owed where a call is refused; the judge's own want of memory is no answer
abbrev pub IsRefused : CallFault → Owed → Type 0
IsRefused (Misused m) o = o ≡ says (misuse_word m)
IsRefused (Refused faults.NoMemory) o = ⊥
IsRefused (Refused fault) o = o ≡ says (fault_word fault)

-- and where an operation is started
abbrev pub IsStarted : Result Sent CallFault → Told → Type 0
IsStarted (Ok m) a = a ≡ record { owed = owed.Message; sent = Some m }
IsStarted (Err fault) a = IsRefused fault a.owed × (a.sent ≡ None)

-- what a call left, and what it answered
abbrev pub left : Seat → Told → After
left s a = record { seat = s; owed = a.owed; sent = a.sent }

-- that is this
abbrev pub Ends : Seat → Told → After → Type 0
Ends s a x = left s a ≡ x

-- for some slot of the new thing that isn't taken
abbrev pub EndsSome : Seat → Told → (ℕ → Bool) → (ℕ → After) → Type 0
EndsSome s a taken x = Makes taken x (left s a)
