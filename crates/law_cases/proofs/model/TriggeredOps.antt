-- What each start sends, and what it counts, tells and awaits (Portals 4.3, data movement operations).
use Rattle.std.specs.Prelude.{ℕ, true, false, ◌≡◌, [], ◌∷◌, Option, Some, None, Ok, refl}
use Rattle.ptl_types.specs.declared.handles.Handle.{Handle}
use Rattle.ptl_types.specs.declared.headers.Header.{Header}
use Rattle.ptl_types.specs.declared.headers.MessageKind.TheVariants.{Put as PutKind, Get as GetKind, Atomic as AtomicKind}
use Rattle.ptl_types.specs.declared.headers.MessageKind.TheVariants.{FetchAtomic as FetchKind, Swap as SwapKind}
use Rattle.ptl_types.specs.declared.headers.AckRequest.{AckRequest}
use Rattle.ptl_types.specs.declared.headers.AckRequest.TheVariants.{NoAck, CtAck, Ack}
use Rattle.ptl_types.specs.declared.elements.ElemType.TheVariants.{U8, U16}
use Rattle.ptl_types.specs.declared.elements.AtomicOp.TheVariants.{Sum, Max}
use Rattle.ptl_types.specs.declared.elements.SwapOp.TheVariants.{Cswap}
use Rattle.ptl_types.specs.declared.events.Event.{Event}
use Rattle.ptl_types.specs.declared.events.EventKind.TheVariants.{Send}
use Rattle.ptl_types.specs.declared.calls.TriggeredOp.{TriggeredOp}
use Rattle.ptl_types.specs.declared.calls.TriggeredOp.TheVariants.{Put, Get, Atomic, FetchAtomic, Swap}
use Rattle.ptl_types.specs.Handles.{top}
use Rattle.ptl_types.specs.Messages.{message}
use Rattle.ni_model.specs.declared.Bound.{Bound}
use Rattle.ni_model.specs.Counts.{successes}
use Rattle.ni_model.specs.Starts.{started}
use Rattle.ni_model.specs.Tables.{changed}
use Rattle.ni_model.specs.State.{State, home_of}
use Rattle.ni_model.specs.Calls.{awaits, ct_get, start}
use Rattle.law_cases.proofs.model.Setting.{first, second}
use Rattle.law_cases.proofs.model.Wide.{bound_both, events_in, fetching, goal, sending, source}

abbrev ready : State
ready = bound_both source goal

abbrev after : TriggeredOp → State
after d = (start d ready).state

-- the actions: 2 bytes of the first descriptor, from its second byte on; replies go to the second one
abbrev fetch : TriggeredOp
fetch = FetchAtomic fetching (sending NoAck) Max U16

abbrev swap : TriggeredOp
swap = Swap fetching (sending NoAck) Cswap U16 258

-- ---- messages
abbrev of_put : AckRequest → Option Handle → Header
of_put ack home = record {
  kind = PutKind;
  source = 1;
  target = 3;
  pt = 4;
  match_bits = 5;
  offset = 6;
  length = 2;
  hdr_data = 77;
  op = None;
  swap = None;
  ty = U8;
  operand = 0;
  ack = ack;
  home = home;
  home_offset = 0;
  ok = true;
}

abbrev of_get : Header
of_get = record {
  kind = GetKind;
  source = 1;
  target = 3;
  pt = 4;
  match_bits = 5;
  offset = 6;
  length = 2;
  hdr_data = 0;
  op = None;
  swap = None;
  ty = U8;
  operand = 0;
  ack = NoAck;
  home = Some second;
  home_offset = 3;
  ok = true;
}

abbrev of_fetch : Header
of_fetch = record {
  kind = FetchKind;
  source = 1;
  target = 3;
  pt = 4;
  match_bits = 5;
  offset = 6;
  length = 2;
  hdr_data = 77;
  op = Some Max;
  swap = None;
  ty = U16;
  operand = 0;
  ack = NoAck;
  home = Some second;
  home_offset = 3;
  ok = true;
}

put_is_sent : (start (Put (sending NoAck)) ready).answer ≡ Ok (Some (message (of_put NoAck None) (13 ∷ 14 ∷ [])))
unfolding started
put_is_sent = refl

counted_put_is_sent : (start (Put (sending CtAck)) ready).answer ≡ Ok (Some (message (of_put CtAck (Some first)) (13 ∷ 14 ∷ [])))
unfolding started
counted_put_is_sent = refl

abbrev of_atomic : Header
of_atomic = record (of_put Ack (Some first)) { kind = AtomicKind; op = Some Sum; ty = U16 }

atomic_is_sent : (start (Atomic (sending Ack) Sum U16) ready).answer ≡ Ok (Some (message of_atomic (13 ∷ 14 ∷ [])))
unfolding started
atomic_is_sent = refl

get_is_sent : (start (Get fetching) ready).answer ≡ Ok (Some (message of_get []))
unfolding started
get_is_sent = refl

fetch_is_sent : (start fetch ready).answer ≡ Ok (Some (message of_fetch (13 ∷ 14 ∷ [])))
unfolding started
fetch_is_sent = refl

abbrev of_swap : Header
of_swap = record of_fetch { kind = SwapKind; op = None; swap = Some Cswap; operand = 258 }

swap_is_sent : (start swap ready).answer ≡ Ok (Some (message of_swap (13 ∷ 14 ∷ [])))
unfolding started
swap_is_sent = refl

-- ---- Send: at the descriptor of the put arguments, of a get at its own
abbrev of_send : ℕ → Event
of_send n = record { kind = Send; source = 1; pt = 4; match_bits = 5; hdr_data = n; requested = 2; delivered = 0; place = 0; ok = true }

put_is_told : events_in first (after (Put (sending NoAck))) ≡ of_send 77 ∷ []
unfolding started
put_is_told = refl

get_is_told : events_in second (after (Get fetching)) ≡ of_send 0 ∷ []
unfolding started
get_is_told = refl

get_tells_no_other : events_in first (after (Get fetching)) ≡ []
unfolding started
get_tells_no_other = refl

fetch_is_told : events_in first (after fetch) ≡ of_send 77 ∷ []
unfolding started
fetch_is_told = refl

fetch_tells_no_other : events_in second (after fetch) ≡ []
unfolding started
fetch_tells_no_other = refl

swap_is_told : events_in first (after swap) ≡ of_send 77 ∷ []
unfolding started
swap_is_told = refl

swap_tells_no_other : events_in second (after swap) ≡ []
unfolding started
swap_tells_no_other = refl

-- ---- counts, on the same descriptor alone
put_counts : ct_get first (after (Put (sending NoAck))) ≡ Ok (successes 1)
unfolding started
put_counts = refl

atomic_counts : ct_get first (after (Atomic (sending NoAck) Sum U16)) ≡ Ok (successes 1)
unfolding started
atomic_counts = refl

get_counts : ct_get second (after (Get fetching)) ≡ Ok (successes 1)
unfolding started
get_counts = refl

fetch_counts : ct_get first (after fetch) ≡ Ok (successes 1)
unfolding started
fetch_counts = refl

fetch_counts_no_other : ct_get second (after fetch) ≡ Ok (successes 0)
unfolding started
fetch_counts_no_other = refl

swap_counts : ct_get first (after swap) ≡ Ok (successes 1)
unfolding started
swap_counts = refl

swap_counts_no_other : ct_get second (after swap) ≡ Ok (successes 0)
unfolding started
swap_counts_no_other = refl

-- a descriptor that counts answers and no starts
abbrev silent : State
silent = bound_both (record source { count_send = false; count_reply = true; count_ack = true }) goal

silent_counts_nothing : ct_get first (start (Put (sending NoAck)) silent).state ≡ Ok (successes 0)
unfolding started
silent_counts_nothing = refl

-- the counting event that rose
rose : (started 1 (home_of ready) (Put (sending NoAck))).counted ≡ Some first
unfolding started
rose = refl

rose_by_a_fetch : (started 1 (home_of ready) fetch).counted ≡ Some first
unfolding started
rose_by_a_fetch = refl

none_rose : (started 1 (home_of silent) (Put (sending NoAck))).counted ≡ None
unfolding started
none_rose = refl

-- ---- who awaits
put_awaits_nothing : awaits first (after (Put (sending NoAck))) ≡ Ok 0
unfolding started
put_awaits_nothing = refl

counted_put_awaits : awaits first (after (Put (sending CtAck))) ≡ Ok 1
unfolding started
counted_put_awaits = refl

atomic_awaits : awaits first (after (Atomic (sending Ack) Sum U16)) ≡ Ok 1
unfolding started
atomic_awaits = refl

get_awaits : awaits second (after (Get fetching)) ≡ Ok 1
unfolding started
get_awaits = refl

fetch_awaits : awaits second (after fetch) ≡ Ok 1
unfolding started
fetch_awaits = refl

fetch_awaits_no_other : awaits first (after fetch) ≡ Ok 0
unfolding started
fetch_awaits_no_other = refl

swap_awaits : awaits second (after swap) ≡ Ok 1
unfolding started
swap_awaits = refl

two_are_awaited : awaits first (start (Put (sending Ack)) (after (Put (sending CtAck)))).state ≡ Ok 2
unfolding started
two_are_awaited = refl

-- the number stays at its greatest value
abbrev long_awaiting : State
long_awaiting = record ready { mds = changed first (λ (b : Bound). record b { awaits = top }) ready.mds }

awaits_stay : awaits first (start (Put (sending CtAck)) long_awaiting).state ≡ Ok top
unfolding started
awaits_stay = refl

-- a start changes no memory
memory_stays : (after (Put (sending Ack))).memory ≡ ready.memory
unfolding started
memory_stays = refl
