-- What a caller sees to before a start, what parts and messages keep, and which entry matches: each bound with the last number that
-- meets it and the first that doesn't.
use Rattle.std.proofs.Common.{ℕ, Bool, true, false, ◌≡◌, ◌≤◌, ◌+◌, ◌-◌, ◌^◌, List, [], ◌∷◌, map, Option, Some, None, refl, arith, lit<}
use Rattle.std.proofs.Common.{lit≤, replicate}
use Rattle.ptl_types.specs.declared.headers.AckRequest.TheVariants.{NoAck, CtAck}
use Rattle.ptl_types.specs.declared.headers.MessageKind.{MessageKind}
use Rattle.ptl_types.specs.declared.headers.MessageKind.TheVariants.{Put as PutKind, Get as GetKind, Atomic as AtomicKind}
use Rattle.ptl_types.specs.declared.headers.MessageKind.TheVariants.{FetchAtomic as FetchKind, Swap as SwapKind, Ack as AckKind, Reply}
use Rattle.ptl_types.specs.declared.headers.Lane.TheVariants.{Request, Answer}
use Rattle.ptl_types.specs.declared.elements.ElemType.TheVariants.{U16}
use Rattle.ptl_types.specs.declared.elements.AtomicOp.TheVariants.{Sum}
use Rattle.ptl_types.specs.declared.elements.SwapOp.TheVariants.{Cswap}
use Rattle.ptl_types.specs.declared.entries.List.TheVariants.{Priority, Overflow}
use Rattle.ptl_types.specs.declared.calls.PutArgs.{PutArgs}
use Rattle.ptl_types.specs.declared.calls.GetArgs.{GetArgs}
use Rattle.ptl_types.specs.declared.calls.TriggeredOp.{TriggeredOp}
use Rattle.ptl_types.specs.declared.calls.TriggeredOp.TheVariants.{Put, Get, Atomic, FetchAtomic, Swap}
use Rattle.ptl_types.specs.Kinds.{lane_of}
use Rattle.ptl_types.specs.Matching.{bits_match, takes_source, is_match}
use Rattle.ptl_types.specs.Messages.{message, room_due}
use Rattle.ni_model.specs.declared.Linked.{Linked}
use Rattle.ni_model.specs.Conditions.{MayStart, MayFetch, IsKept, IsPartIn, HasPartsIn, IsBoundIn, HasRoom}
use Rattle.ni_model.specs.Headers.{unexpected_list}
use Rattle.ni_model.specs.Lists.{Index}
use Rattle.ni_model.specs.Calls.{bound}
use Rattle.law_cases.proofs.model.Setting.{entry, first, part_of}
use Rattle.law_cases.proofs.model.Wide.{asks, fetching, many, sending}

-- ---- starts: of 4 ranks the last is 3; the limits are 16 bytes, 8 of an atomic and 4 of a fetching one
abbrev args : ℕ → ℕ → PutArgs
args rank length = record (sending NoAck) { target = rank; length = length }

abbrev back : ℕ → ℕ → GetArgs
back rank length = record fetching { target = rank; length = length }

abbrev May : TriggeredOp → Type 0
May d = MayStart d 4 many

longest_put : May (Put (args 3 16))
longest_put = record { target_known = lit< tt; short = lit≤ tt }

too_long_put : May (Put (args 3 17)) → ⊥
too_long_put h = absurd (omega (arith, h.short))

put_to_no_rank : May (Put (args 4 1)) → ⊥
put_to_no_rank h = absurd (omega (arith, h.target_known))

longest_get : May (Get (back 3 16))
longest_get = record { target_known = lit< tt; short = lit≤ tt }

too_long_get : May (Get (back 3 17)) → ⊥
too_long_get h = absurd (omega (arith, h.short))

get_from_no_rank : May (Get (back 4 1)) → ⊥
get_from_no_rank h = absurd (omega (arith, h.target_known))

longest_atomic : May (Atomic (args 3 8) Sum U16)
longest_atomic = (record { target_known = lit< tt; short = lit≤ tt }, record { whole = refl; at_most = lit≤ tt })

too_long_atomic : May (Atomic (args 3 10) Sum U16) → ⊥
too_long_atomic h = absurd (omega (arith, h.1.at_most))

half_an_element : May (Atomic (args 3 3) Sum U16) → ⊥
half_an_element h = let q : 1 ≡ 0 = h.1.whole in absurd (omega (arith, q))

-- both sides agree, and no acknowledgement is asked for
agree : (length : ℕ) → MayFetch (back 3 length) (args 3 length)
agree length = record { length = refl; target = refl; pt = refl; match_bits = refl; remote_offset = refl; no_ack = refl }

longest_fetch : May (FetchAtomic (back 3 4) (args 3 4) Sum U16)
longest_fetch = (record { target_known = lit< tt; short = lit≤ tt }, record { whole = refl; at_most = lit≤ tt }, agree 4)

too_long_fetch : May (FetchAtomic (back 3 6) (args 3 6) Sum U16) → ⊥
too_long_fetch h = absurd (omega (arith, h.1.at_most))

acknowledged_fetch : May (FetchAtomic (back 3 4) (record (args 3 4) { ack = CtAck }) Sum U16) → ⊥
acknowledged_fetch h = let q : CtAck ≡ NoAck = h.2.no_ack in cc

other_length : May (FetchAtomic (back 3 2) (args 3 4) Sum U16) → ⊥
other_length h = let q : 2 ≡ 4 = h.2.length in absurd (omega (arith, q))

other_target : May (FetchAtomic (back 2 4) (args 3 4) Sum U16) → ⊥
other_target h = let q : 2 ≡ 3 = h.2.target in absurd (omega (arith, q))

other_index : May (FetchAtomic (record (back 3 4) { pt = 1 }) (args 3 4) Sum U16) → ⊥
other_index h = let q : 1 ≡ 4 = h.2.pt in absurd (omega (arith, q))

other_bits : May (FetchAtomic (record (back 3 4) { match_bits = 6 }) (args 3 4) Sum U16) → ⊥
other_bits h = let q : 6 ≡ 5 = h.2.match_bits in absurd (omega (arith, q))

other_offset : May (FetchAtomic (record (back 3 4) { remote_offset = 5 }) (args 3 4) Sum U16) → ⊥
other_offset h = let q : 5 ≡ 6 = h.2.remote_offset in absurd (omega (arith, q))

one_element : May (Swap (back 3 2) (args 3 2) Cswap U16 7)
one_element = (record { target_known = lit< tt; short = lit≤ tt }, refl, agree 2)

two_elements : May (Swap (back 3 4) (args 3 4) Cswap U16 7) → ⊥
two_elements h = let q : 4 ≡ 2 = h.1 in absurd (omega (arith, q))

-- ---- parts of a region of 16 bytes
abbrev linked : ℕ → Linked
linked length = record { handle = first; running = 0; entry = entry 12 length }

part_to_the_end : IsPartIn 16 (linked 4)
part_to_the_end = lit≤ tt

part_past_the_end : IsPartIn 16 (linked 5) → ⊥
part_past_the_end h = absurd (omega (arith, h))

abbrev index : List Linked → List Linked → Option Index
index priority overflow = Some (record { eq = None; priority = priority; overflow = overflow })

overflow_past_the_end : HasPartsIn 16 (index (linked 4 ∷ []) (linked 5 ∷ [])) → ⊥
overflow_past_the_end h = let q : 17 ≤ 16 = h.1 0 (linked 5) (lit< tt) in absurd (omega (arith, q))

priority_past_the_end : HasPartsIn 16 (index (linked 5 ∷ []) (linked 4 ∷ [])) → ⊥
priority_past_the_end h = let q : 17 ≤ 16 = h.0 0 (linked 5) (lit< tt) in absurd (omega (arith, q))

descriptor_to_the_end : IsBoundIn 16 (bound (part_of 12 4))
descriptor_to_the_end = lit≤ tt

descriptor_past_the_end : IsBoundIn 16 (bound (part_of 12 5)) → ⊥
descriptor_past_the_end h = absurd (omega (arith, h))

no_room_at_all : HasRoom Overflow (unexpected_list [] 0) → ⊥
no_room_at_all h = absurd (omega (arith, h))

room_in_priority : HasRoom Priority (unexpected_list [] 0)
room_in_priority = tt

-- ---- bytes that go with a header: of a put, a get, an acknowledgement, a reply, and one that failed
abbrev Keeps : MessageKind → Bool → ℕ → Type 0
Keeps kind ok n = IsKept (message (record (asks kind 2) { ok = ok }) (replicate n 0))

keeps_all : Keeps PutKind true 2
keeps_all = refl

keeps_all_of_an_atomic : Keeps AtomicKind true 2
keeps_all_of_an_atomic = refl

keeps_none_of_a_get : Keeps GetKind true 0
keeps_none_of_a_get = refl

keeps_none_of_an_ack : Keeps AckKind true 0
keeps_none_of_an_ack = refl

keeps_all_of_a_reply : Keeps Reply true 2
keeps_all_of_a_reply = refl

keeps_none_of_a_failed_reply : Keeps Reply false 0
keeps_none_of_a_failed_reply = refl

drops_no_byte_of_a_put : Keeps PutKind true 1 → ⊥
drops_no_byte_of_a_put h = let q : 1 ≡ 2 = h in absurd (omega (arith, q))

adds_no_byte_to_a_put : Keeps PutKind true 3 → ⊥
adds_no_byte_to_a_put h = let q : 3 ≡ 2 = h in absurd (omega (arith, q))

room_of_a_reply : room_due GetKind 9 ≡ 9
room_of_a_reply = refl

no_room_of_others : room_due PutKind 9 ≡ 0
no_room_of_others = refl

lanes :
    map lane_of (PutKind ∷ GetKind ∷ AtomicKind ∷ FetchKind ∷ SwapKind ∷ AckKind ∷ Reply ∷ [])
    ≡ Request ∷ Request ∷ Request ∷ Request ∷ Request ∷ Answer ∷ Answer ∷ []
lanes = refl

-- ---- matching: every bit but the ignored ones, the highest too; and the source, not the target
highest_bit_counts : bits_match 0 (2 ^ 63 + 5) 5 ≡ false
highest_bit_counts = refl

highest_bit_ignored : bits_match (2 ^ 63) (2 ^ 63 + 5) 5 ≡ true
highest_bit_ignored = refl

-- 5 and 3 differ in the bits of 6
all_that_differ_ignored : bits_match 6 5 3 ≡ true
all_that_differ_ignored = refl

one_that_differs_counts : bits_match 4 5 3 ≡ false
one_that_differs_counts = refl

the_other_counts : bits_match 2 5 3 ≡ false
the_other_counts = refl

all_ignored : bits_match (2 ^ 64 - 1) (2 ^ 64 - 1) 0 ≡ true
all_ignored = refl

any_source : takes_source None 3 ≡ true
any_source = refl

abbrev of_rank : ℕ → ℕ → Bool
of_rank source target = is_match (record (entry 0 4) { match_id = Some 1 }) (record (asks PutKind 1) { source = source; target = target })

named_source : of_rank 1 0 ≡ true
named_source = refl

other_source : of_rank 0 1 ≡ false
other_source = refl

-- the entry's ignored bits, on the entry's and the message's bits
abbrev bits_of : ℕ → ℕ → ℕ → Bool
bits_of bits ignored sent =
    is_match (record (entry 0 4) { match_bits = bits; ignore_bits = ignored }) (record (asks PutKind 1) { match_bits = sent })

ignored_of_the_entry : bits_of 5 2 7 ≡ true
ignored_of_the_entry = refl

bits_of_both : bits_of 5 2 6 ≡ false
bits_of_both = refl
