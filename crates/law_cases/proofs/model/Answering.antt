-- The answer that a request is given at its target, field by field (Portals 4.3, acknowledgements and replies).
use Rattle.std.specs.Prelude.{ℕ, Bool, true, false, ◌≡◌, List, [], ◌∷◌, Option, Some, None, refl}
use Rattle.ptl_types.specs.declared.headers.Header.{Header}
use Rattle.ptl_types.specs.declared.headers.MessageKind.{MessageKind}
use Rattle.ptl_types.specs.declared.headers.MessageKind.TheVariants.{Put, Get, Atomic, FetchAtomic, Swap, Ack as AckKind, Reply}
use Rattle.ptl_types.specs.declared.headers.AckRequest.TheVariants.{NoAck, CtAck, Ack}
use Rattle.ptl_types.specs.declared.elements.ElemType.TheVariants.{U8, U16}
use Rattle.ptl_types.specs.declared.elements.AtomicOp.TheVariants.{Sum}
use Rattle.ptl_types.specs.declared.elements.SwapOp.TheVariants.{Mswap}
use Rattle.ptl_types.specs.declared.entries.Entry.{Entry}
use Rattle.ptl_types.specs.declared.entries.List.{List as EntryList}
use Rattle.ptl_types.specs.declared.entries.List.TheVariants.{Priority, Overflow}
use Rattle.ptl_types.specs.Messages.{Sent, message}
use Rattle.ni_model.specs.Append.{append}
use Rattle.ni_model.specs.Arrive.{request}
use Rattle.ni_model.specs.State.{State, opened, parts_of, target}
use Rattle.ni_model.specs.Calls.{ct_alloc, me_append, pt_alloc}
use Rattle.law_cases.proofs.model.Setting.{counting, entry, first, second}
use Rattle.law_cases.proofs.model.Wide.{asks, many, region}

abbrev empty : State
empty = (pt_alloc 1 None (opened 0 2 many region)).state

abbrev holding : EntryList → Entry → State
holding place e = (me_append 0 1 place e empty).state

-- bytes 4 to 9, so that offset 1 is byte 5
abbrev part : Entry
part = entry 4 6

abbrev answer_of : State → Sent → Option Sent
answer_of s m = (target s m).delivered.answer

-- ---- requests at offset 1
abbrev put : ℕ → List ℕ → Sent
put length bytes = message (record (asks Put length) { ack = CtAck }) bytes

abbrev atomic : Sent
atomic = message (record (asks Atomic 2) { op = Some Sum; ty = U16; ack = Ack }) (1 ∷ 0 ∷ [])

abbrev fetch : Sent
fetch = message (record (asks FetchAtomic 2) { op = Some Sum; ty = U16 }) (1 ∷ 0 ∷ [])

-- the low byte of 0x0201 for that of 0x100f
abbrev swap : Sent
swap = message (record (asks Swap 2) { swap = Some Mswap; ty = U16; operand = 255 }) (1 ∷ 2 ∷ [])

abbrev get : ℕ → Sent
get length = message (record (asks Get length) { hdr_data = 0 }) []

-- ---- answers
abbrev back : MessageKind → ℕ → Bool → Header
back kind length ok = record {
  kind = kind;
  source = 0;
  target = 1;
  pt = 1;
  match_bits = 5;
  offset = 0;
  length = length;
  hdr_data = 77;
  op = None;
  swap = None;
  ty = U8;
  operand = 0;
  ack = NoAck;
  home = Some second;
  home_offset = 9;
  ok = ok;
}

put_is_acknowledged :
    answer_of (holding Priority part) (put 2 (1 ∷ 2 ∷ []))
    ≡ Some (message (record (back AckKind 2 true) { ack = CtAck }) [])
unfolding target request append
put_is_acknowledged = refl

atomic_is_acknowledged : answer_of (holding Priority part) atomic ≡ Some (message (record (back AckKind 2 true) { ty = U16; ack = Ack }) [])
unfolding target request append
atomic_is_acknowledged = refl

get_is_replied :
    answer_of (holding Priority part) (get 3)
    ≡ Some (message (record (back Reply 3 true) { hdr_data = 0 }) (15 ∷ 16 ∷ 17 ∷ []))
unfolding target request append
get_is_replied = refl

-- what there is from offset 1 on
get_is_cut :
    answer_of (holding Priority part) (get 9)
    ≡ Some (message (record (back Reply 5 true) { hdr_data = 0 }) (15 ∷ 16 ∷ 17 ∷ 18 ∷ 19 ∷ []))
unfolding target request append
get_is_cut = refl

fetch_is_replied : answer_of (holding Priority part) fetch ≡ Some (message (record (back Reply 2 true) { ty = U16 }) (15 ∷ 16 ∷ []))
unfolding target request append
fetch_is_replied = refl

swap_is_replied : answer_of (holding Priority part) swap ≡ Some (message (record (back Reply 2 true) { ty = U16 }) (15 ∷ 16 ∷ []))
unfolding target request append
swap_is_replied = refl

-- a reply asks for no acknowledgement, whatever the request said
reply_asks_nothing :
    answer_of (holding Priority part) (message (record (asks Get 1) { ack = CtAck }) [])
    ≡ Some (message (back Reply 1 true) (15 ∷ []))
unfolding target request append
reply_asks_nothing = refl

-- ---- what they leave in memory
abbrev memory_of : Sent → List ℕ
memory_of m = (target (holding Priority part) m).state.memory

put_is_written : memory_of (put 2 (1 ∷ 2 ∷ [])) ≡ 10 ∷ 11 ∷ 12 ∷ 13 ∷ 14 ∷ 1 ∷ 2 ∷ 17 ∷ 18 ∷ 19 ∷ 20 ∷ 21 ∷ 22 ∷ 23 ∷ 24 ∷ 25 ∷ []
unfolding target request append
put_is_written = refl

atomic_is_combined : memory_of atomic ≡ 10 ∷ 11 ∷ 12 ∷ 13 ∷ 14 ∷ 16 ∷ 16 ∷ 17 ∷ 18 ∷ 19 ∷ 20 ∷ 21 ∷ 22 ∷ 23 ∷ 24 ∷ 25 ∷ []
unfolding target request append
atomic_is_combined = refl

fetch_is_combined : memory_of fetch ≡ 10 ∷ 11 ∷ 12 ∷ 13 ∷ 14 ∷ 16 ∷ 16 ∷ 17 ∷ 18 ∷ 19 ∷ 20 ∷ 21 ∷ 22 ∷ 23 ∷ 24 ∷ 25 ∷ []
unfolding target request append
fetch_is_combined = refl

swap_is_written : memory_of swap ≡ 10 ∷ 11 ∷ 12 ∷ 13 ∷ 14 ∷ 1 ∷ 16 ∷ 17 ∷ 18 ∷ 19 ∷ 20 ∷ 21 ∷ 22 ∷ 23 ∷ 24 ∷ 25 ∷ []
unfolding target request append
swap_is_written = refl

get_writes_nothing : memory_of (get 3) ≡ region
unfolding target request append
get_writes_nothing = refl

-- ---- dropped, where no entry is; a violation, where it isn't allowed
dropped_put : answer_of empty (put 2 (1 ∷ 2 ∷ [])) ≡ Some (message (record (back AckKind 0 false) { ack = CtAck }) [])
unfolding target request append
dropped_put = refl

dropped_get : answer_of empty (get 3) ≡ Some (message (record (back Reply 0 false) { hdr_data = 0 }) [])
unfolding target request append
dropped_get = refl

dropped_swap : answer_of empty swap ≡ Some (message (record (back Reply 0 false) { ty = U16 }) [])
unfolding target request append
dropped_swap = refl

abbrev closed : State
closed = holding Priority (record part { allow_put = false; allow_get = false })

forbidden_put : answer_of closed (put 2 (1 ∷ 2 ∷ [])) ≡ Some (message (record (back AckKind 0 false) { ack = CtAck }) [])
unfolding target request append
forbidden_put = refl

forbidden_fetch : answer_of closed fetch ≡ Some (message (record (back Reply 0 false) { ty = U16 }) [])
unfolding target request append
forbidden_fetch = refl

-- ---- in the overflow list: ok, with what was delivered there
overflow_is_acknowledged :
    answer_of (holding Overflow (entry 4 2)) (put 2 (1 ∷ 2 ∷ []))
    ≡ Some (message (record (back AckKind 1 true) { ack = CtAck }) [])
unfolding target request append
overflow_is_acknowledged = refl

-- ---- the counting event that rose
abbrev with_counter : Entry → State
with_counter e = (me_append 0 1 Priority e (ct_alloc 0 empty).state).state

delivery_rose : (request (parts_of (with_counter (counting first part))) (get 3)).arrived.counted ≡ Some first
unfolding request append
delivery_rose = refl

uncounted_delivery :
    (request (parts_of (with_counter (record part { ct = Some first; count_overflow = true }))) (get 3)).arrived.counted
    ≡ None
unfolding request append
uncounted_delivery = refl

drop_raises_none : (request (parts_of empty) (get 3)).arrived.counted ≡ None
unfolding request append
drop_raises_none = refl
