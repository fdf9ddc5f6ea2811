-- Starts, their headers, and the answers that come home (Portals 4.3, acknowledgements, replies and event types).
use Rattle.std.specs.Prelude.{ℕ, Bool, true, false, ◌≡◌, List, [], ◌∷◌, Option, Some, None, Ok, Err, refl, replicate}
use Rattle.ptl_types.specs.declared.headers.MessageKind.TheVariants.{Ack as AckKind, Reply as ReplyKind}
use Rattle.ptl_types.specs.declared.headers.AckRequest.{AckRequest}
use Rattle.ptl_types.specs.declared.headers.AckRequest.TheVariants.{NoAck, CtAck, Ack}
use Rattle.ptl_types.specs.declared.elements.ElemType.TheVariants.{U8}
use Rattle.ptl_types.specs.declared.entries.Descriptor.{Descriptor}
use Rattle.ptl_types.specs.declared.events.Event.{Event}
use Rattle.ptl_types.specs.declared.events.EventKind.TheVariants.{Send, Ack as AckEvent, Reply as ReplyEvent}
use Rattle.ptl_types.specs.declared.calls.TriggeredOp.TheVariants.{Put as PutAction, Get as GetAction}
use Rattle.ptl_types.specs.declared.calls.NiFault.TheVariants.{InUse}
use Rattle.ptl_types.specs.declared.calls.Outcome.TheVariants.{Answered, Dropped}
use Rattle.ptl_types.specs.Messages.{Sent, message}
use Rattle.ni_model.specs.Arrive.{request}
use Rattle.ni_model.specs.Answers.{answered}
use Rattle.ni_model.specs.Starts.{started}
use Rattle.ni_model.specs.Counts.{successes}
use Rattle.ni_model.specs.State.{State, Delivers, target}
use Rattle.ni_model.specs.Calls.{ct_alloc, ct_get, eq_alloc, md_bind, md_release, start}
use Rattle.law_cases.proofs.model.Wide.{events_in}
use Rattle.law_cases.proofs.model.Setting.{new, first, args, back, part_of}

-- the whole region with a queue of room 4 and a counter of acknowledgements
abbrev telling : Descriptor
telling = record (part_of 0 16) { eq = Some first; ct = Some first; count_ack = true }

abbrev ready : State
ready = (md_bind 0 telling (eq_alloc 0 4 (ct_alloc 0 new).state).state).state

abbrev asked : AckRequest → State
asked ack = (start (PutAction (record (args 0 0 2) { ack = ack; target = 1 })) ready).state

-- the answer of rank 1 to it
abbrev ack : AckRequest → Bool → ℕ → Sent
ack request ok length = message (record {
  kind = AckKind;
  source = 1;
  target = 0;
  pt = 0;
  match_bits = 5;
  offset = 0;
  length =
      length;
  hdr_data = 77;
  op = None;
  swap = None;
  ty = U8;
  operand = 0;
  ack = request;
  home = Some first;
  home_offset = 0;
  ok = ok;
}) []

abbrev events : State → List Event
events s = events_in first s

abbrev send_event : Event
send_event = record { kind = Send; source = 0; pt = 0; match_bits = 5; hdr_data = 77; requested = 2; delivered = 0; place = 0; ok = true }

sent_at_once : events (asked Ack) ≡ send_event ∷ []
unfolding started
sent_at_once = refl

awaited_is_in_use : (md_release first (asked Ack)).answer ≡ Err InUse
unfolding started
awaited_is_in_use = refl

-- with no acknowledgement nothing is awaited
not_awaited : (md_release first (asked NoAck)).answer ≡ Ok tt
unfolding started
not_awaited = refl

comes_home : (target (asked Ack) (ack Ack true 2)).delivered.outcome ≡ Answered
unfolding target answered started
comes_home = refl

told : events (target (asked Ack) (ack Ack true 2)).state ≡ send_event ∷ record {
  kind = AckEvent;
  source = 1;
  pt = 0;
  match_bits =
      5;
  hdr_data = 77;
  requested = 0;
  delivered = 2;
  place = 0;
  ok = true;
} ∷ []
unfolding target answered started
told = refl

counts_success : ct_get first (target (asked Ack) (ack Ack true 2)).state ≡ Ok (successes 1)
unfolding target answered started
counts_success = refl

counts_failure : ct_get first (target (asked Ack) (ack Ack false 0)).state ≡ Ok (record { success = 0; failure = 1 })
unfolding target answered started
counts_failure = refl

-- counted, and no event
counted_alone : events (target (asked CtAck) (ack CtAck true 2)).state ≡ send_event ∷ []
unfolding target answered started
counted_alone = refl

counted_too : ct_get first (target (asked CtAck) (ack CtAck true 2)).state ≡ Ok (successes 1)
unfolding target answered started
counted_too = refl

-- an answer is taken once
abbrev twice : Delivers
twice = target (target (asked Ack) (ack Ack true 2)).state (ack Ack true 2)

second_is_dropped : twice.delivered.outcome ≡ Dropped
unfolding target answered started
second_is_dropped = refl

second_counts_nothing : ct_get first twice.state ≡ Ok (successes 1)
unfolding target answered started
second_counts_nothing = refl

second_raises_the_register : twice.state.drops ≡ 1
unfolding target answered started
second_raises_the_register = refl

-- ---- replies
abbrev reading : State
reading = (md_bind 0 (record telling { length = 8; count_reply = true; count_ack = false })
    (eq_alloc 0 4 (ct_alloc 0 new).state).state).state

abbrev got : State
got = (start (GetAction (record (back 2) { target = 1 })) reading).state

abbrev reply : ℕ → Bool → List ℕ → ℕ → Sent
reply at ok bytes length = message (record {
  kind = ReplyKind;
  source = 1;
  target = 0;
  pt = 0;
  match_bits = 5;
  offset = 0;
  length =
      length;
  hdr_data = 0;
  op = None;
  swap = None;
  ty = U8;
  operand = 0;
  ack = NoAck;
  home = Some first;
  home_offset = at;
  ok = ok;
}) bytes

written_at_home : (target got (reply 3 true (8 ∷ 9 ∷ []) 2)).state.memory ≡ 0 ∷ 0 ∷ 0 ∷ 8 ∷ 9 ∷ replicate 11 0
unfolding target answered started
written_at_home = refl

place_of_bytes : events (target got (reply 3 true (8 ∷ 9 ∷ []) 2)).state ≡ record send_event { hdr_data = 0 }
    ∷ record { kind = ReplyEvent; source = 1; pt = 0; match_bits = 5; hdr_data = 0; requested = 0; delivered = 2; place = 3; ok = true }
    ∷ []
unfolding target answered started
place_of_bytes = refl

-- a reply that isn't ok writes nothing and has no place, whatever its length says
failed_place : events (target got (reply 3 false [] 2)).state ≡ record send_event { hdr_data = 0 } ∷ record {
  kind = ReplyEvent;
  source =
      1;
  pt = 0;
  match_bits = 5;
  hdr_data = 0;
  requested = 0;
  delivered = 2;
  place = 0;
  ok = false;
} ∷ []
unfolding target answered started
failed_place = refl

-- a reply that doesn't fit changes nothing but the register
too_long : target got (reply 7 true (8 ∷ 9 ∷ []) 2) ≡ record {
  state = record got { drops = 1 };
  delivered =
      record { outcome = Dropped; answer = None };
}
unfolding target answered started
too_long = refl

-- the last that fits
just_fits : (target got (reply 6 true (8 ∷ 9 ∷ []) 2)).delivered.outcome ≡ Answered
unfolding target answered started
just_fits = refl

-- ---- headers: the operation's place at home, and no header data for a get
abbrev home_offset : Option Sent → List ℕ
home_offset None = []
home_offset (Some m) = m.header.home_offset ∷ m.header.hdr_data ∷ m.header.length ∷ []

get_header_says : home_offset (started 0 (record { mds = reading.mds; region = reading.memory; cts = reading.cts; eqs = reading.eqs })
    (GetAction (back 2))).message ≡ 3 ∷ 0 ∷ 2 ∷ []
unfolding started
get_header_says = refl

put_header_says : home_offset (started 0 (record { mds = reading.mds; region = reading.memory; cts = reading.cts; eqs = reading.eqs })
    (PutAction (args 0 4 2))).message ≡ 0 ∷ 77 ∷ 2 ∷ []
unfolding started
put_header_says = refl

-- ---- a start counts on its descriptor, a get's included
abbrev sending : State
sending = (md_bind 0 (record telling { count_send = true; count_ack = false }) (eq_alloc 0 4 (ct_alloc 0 new).state).state).state

put_counts : ct_get first (start (PutAction (args 0 0 2)) sending).state ≡ Ok (successes 1)
unfolding started
put_counts = refl

get_counts : ct_get first (start (GetAction (back 2)) sending).state ≡ Ok (successes 1)
unfolding started
get_counts = refl
