-- Answers that come home: which are due, what each writes, counts and tells, and at which descriptor (Portals 4.3, acknowledgements and
-- replies).
use Rattle.std.specs.Prelude.{ℕ, Bool, true, false, ◌≡◌, List, [], ◌∷◌, Option, Some, None, Ok, refl}
use Rattle.ptl_types.specs.declared.handles.Handle.{Handle}
use Rattle.ptl_types.specs.declared.headers.Header.{Header}
use Rattle.ptl_types.specs.declared.headers.MessageKind.{MessageKind}
use Rattle.ptl_types.specs.declared.headers.MessageKind.TheVariants.{Ack as AckKind, Reply as ReplyKind}
use Rattle.ptl_types.specs.declared.headers.AckRequest.{AckRequest}
use Rattle.ptl_types.specs.declared.headers.AckRequest.TheVariants.{NoAck, CtAck, Ack}
use Rattle.ptl_types.specs.declared.elements.ElemType.TheVariants.{U8}
use Rattle.ptl_types.specs.declared.events.Event.{Event}
use Rattle.ptl_types.specs.declared.events.EventKind.TheVariants.{Send, Ack as AckEvent, Reply as ReplyEvent}
use Rattle.ptl_types.specs.declared.calls.TriggeredOp.TheVariants.{Put, Get}
use Rattle.ptl_types.specs.declared.calls.Outcome.TheVariants.{Answered, Dropped}
use Rattle.ptl_types.specs.Messages.{Sent, message}
use Rattle.ni_model.specs.Answers.{answered, is_awaited}
use Rattle.ni_model.specs.Counts.{successes, failures}
use Rattle.ni_model.specs.Starts.{started}
use Rattle.ni_model.specs.Tables.{handle}
use Rattle.ni_model.specs.State.{State, target, home_of}
use Rattle.ni_model.specs.Calls.{awaits, ct_get, start}
use Rattle.law_cases.proofs.model.Setting.{first, second}
use Rattle.law_cases.proofs.model.Wide.{bound_both, events_in, fetching, goal, region, sending, source, unknown}

-- the first descriptor counts acknowledgements alone, the second replies alone; neither counts starts
abbrev ready : State
ready = bound_both (record source { count_send = false; count_ack = true }) (record goal { count_send = false; count_reply = true })

abbrev asked : AckRequest → State
asked ack = (start (Put (sending ack)) ready).state

abbrev asked_twice : State
asked_twice = (start (Put (sending CtAck)) (asked CtAck)).state

abbrev got : State
got = (start (Get fetching) ready).state

-- a put of the first descriptor, and a get of the second
abbrev both_asked : State
both_asked = (start (Get fetching) (asked Ack)).state

-- ---- what rank 3 answers
abbrev back : MessageKind → ℕ → Bool → Option Handle → ℕ → Header
back kind length ok home at = record {
  kind = kind;
  source = 3;
  target = 1;
  pt = 4;
  match_bits = 5;
  offset = 0;
  length = length;
  hdr_data = 66;
  op = None;
  swap = None;
  ty = U8;
  operand = 0;
  ack = NoAck;
  home = home;
  home_offset = at;
  ok = ok;
}

abbrev ack : AckRequest → ℕ → Bool → Sent
ack request length ok = message (record (back AckKind length ok (Some first) 0) { ack = request }) []

abbrev reply : ℕ → List ℕ → ℕ → Bool → Sent
reply at bytes length ok = message (back ReplyKind length ok (Some second) at) bytes

-- ---- an acknowledgement
abbrev acked : State
acked = (target (asked Ack) (ack Ack 2 true)).state

abbrev of_send : ℕ → Event
of_send n = record { kind = Send; source = 1; pt = 4; match_bits = 5; hdr_data = n; requested = 2; delivered = 0; place = 0; ok = true }

abbrev ack_event : ℕ → Bool → Event
ack_event delivered ok =
    record { kind = AckEvent; source = 3; pt = 4; match_bits = 5; hdr_data = 66; requested = 0; delivered = delivered; place = 0; ok = ok }

ack_is_told : events_in first acked ≡ of_send 77 ∷ ack_event 2 true ∷ []
unfolding target answered started
ack_is_told = refl

failed_ack_is_told : events_in first (target (asked Ack) (ack Ack 0 false)).state ≡ of_send 77 ∷ ack_event 0 false ∷ []
unfolding target answered started
failed_ack_is_told = refl

other_queue_is_told_nothing : events_in second acked ≡ []
unfolding target answered started
other_queue_is_told_nothing = refl

counted_ack_is_not_told : events_in first (target (asked CtAck) (ack CtAck 2 true)).state ≡ of_send 77 ∷ []
unfolding target answered started
counted_ack_is_not_told = refl

ack_counts : ct_get first acked ≡ Ok (successes 1)
unfolding target answered started
ack_counts = refl

ack_counts_no_other : ct_get second acked ≡ Ok (successes 0)
unfolding target answered started
ack_counts_no_other = refl

failed_ack_counts : ct_get first (target (asked Ack) (ack Ack 0 false)).state ≡ Ok (failures 1)
unfolding target answered started
failed_ack_counts = refl

ack_writes_nothing : acked.memory ≡ region
unfolding target answered started
ack_writes_nothing = refl

-- whatever length it tells: no byte comes with it
long_ack : (target (asked Ack) (ack Ack 99 true)).delivered.outcome ≡ Answered
unfolding target answered started
long_ack = refl

-- an answer is answered by nothing
no_answer : (target (asked Ack) (ack Ack 2 true)).delivered.answer ≡ None
unfolding target answered started
no_answer = refl

-- ---- a reply: byte 3 of the second descriptor is byte 11 of the region
abbrev replied : State
replied = (target got (reply 3 (8 ∷ 9 ∷ []) 2 true)).state

reply_is_written : replied.memory ≡ 10 ∷ 11 ∷ 12 ∷ 13 ∷ 14 ∷ 15 ∷ 16 ∷ 17 ∷ 18 ∷ 19 ∷ 20 ∷ 8 ∷ 9 ∷ 23 ∷ 24 ∷ 25 ∷ []
unfolding target answered started
reply_is_written = refl

abbrev reply_event : ℕ → ℕ → Bool → Event
reply_event delivered place ok =
    record (ack_event delivered ok) { kind = ReplyEvent; place = place }

reply_is_told : events_in second replied ≡ of_send 0 ∷ reply_event 2 11 true ∷ []
unfolding target answered started
reply_is_told = refl

-- no byte, no place
empty_reply_is_told : events_in second (target got (reply 3 [] 0 true)).state ≡ of_send 0 ∷ reply_event 0 0 true ∷ []
unfolding target answered started
empty_reply_is_told = refl

failed_reply_is_told : events_in second (target got (reply 3 [] 0 false)).state ≡ of_send 0 ∷ reply_event 0 0 false ∷ []
unfolding target answered started
failed_reply_is_told = refl

-- a reply that isn't ok brings no bytes that would have to fit
failed_reply_is_due : (target got (reply 7 [] 2 false)).delivered.outcome ≡ Answered
unfolding target answered started
failed_reply_is_due = refl

reply_counts : ct_get second replied ≡ Ok (successes 1)
unfolding target answered started
reply_counts = refl

failed_reply_counts : ct_get second (target got (reply 3 [] 0 false)).state ≡ Ok (failures 1)
unfolding target answered started
failed_reply_counts = refl

-- ---- a descriptor that doesn't count answers of this kind; the kind isn't compared with what is awaited
uncounted_reply : ct_get first (target (asked CtAck) (message (back ReplyKind 2 true (Some first) 0) (8 ∷ 9 ∷ []))).state ≡ Ok (successes 0)
unfolding target answered started
uncounted_reply = refl

uncounted_ack : ct_get second (target got (message (back AckKind 2 true (Some second) 0) [])).state ≡ Ok (successes 0)
unfolding target answered started
uncounted_ack = refl

-- the counting event that rose
ack_rose : (answered (home_of (asked Ack)) (ack Ack 2 true)).counted ≡ Some first
unfolding answered started
ack_rose = refl

none_rose : (answered (home_of ready) (ack Ack 2 true)).counted ≡ None
unfolding answered started
none_rose = refl

-- ---- one answer fewer, at the descriptor that the answer names
one_is_left : awaits first (target asked_twice (ack CtAck 2 true)).state ≡ Ok 1
unfolding target answered started
one_is_left = refl

none_is_left : awaits first (target both_asked (ack Ack 2 true)).state ≡ Ok 0
unfolding target answered started
none_is_left = refl

other_still_awaits : awaits second (target both_asked (ack Ack 2 true)).state ≡ Ok 1
unfolding target answered started
other_still_awaits = refl

nothing_is_awaited : is_awaited ready.mds.live ≡ false
nothing_is_awaited = refl

something_is_awaited : is_awaited (asked Ack).mds.live ≡ true
unfolding started
something_is_awaited = refl

second_awaits : is_awaited got.mds.live ≡ true
unfolding started
second_awaits = refl

-- ---- an answer that isn't due: of a descriptor that awaits nothing, of none, of one that isn't live
abbrev for_home : Option Handle → Sent
for_home home = message (record (back AckKind 2 true home 0) { ack = Ack }) []

first_awaits_nothing : (target got (for_home (Some first))).delivered.outcome ≡ Dropped
unfolding target answered started
first_awaits_nothing = refl

no_home : (target (asked Ack) (for_home None)).delivered.outcome ≡ Dropped
unfolding target answered started
no_home = refl

unknown_home : (target (asked Ack) (for_home (Some unknown))).delivered.outcome ≡ Dropped
unfolding target answered started
unknown_home = refl

-- slot and stamp are both compared
other_slot : (target (asked Ack) (for_home (Some (handle 1 0)))).delivered.outcome ≡ Dropped
unfolding target answered started
other_slot = refl

other_stamp : (target (asked Ack) (for_home (Some (handle 0 1)))).delivered.outcome ≡ Dropped
unfolding target answered started
other_stamp = refl

dropped_changes_one : (target got (for_home (Some first))).state ≡ record got { drops = 1 }
unfolding target answered started
dropped_changes_one = refl
