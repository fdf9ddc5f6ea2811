-- Requests that arrive: which entry takes one, where its bytes lie, and what becomes of the entry (Portals 4.3, matching and lists).
use Rattle.std.specs.Prelude.{ℕ, true, false, ◌≡◌, List, [], ◌∷◌, map, Some, None, Ok, refl}
use Rattle.ptl_types.specs.declared.headers.MessageKind.{MessageKind}
use Rattle.ptl_types.specs.declared.headers.MessageKind.TheVariants.{Put, Get, Atomic, FetchAtomic, Swap}
use Rattle.ptl_types.specs.declared.elements.ElemType.{ElemType}
use Rattle.ptl_types.specs.declared.elements.ElemType.TheVariants.{U16, U32}
use Rattle.ptl_types.specs.declared.elements.AtomicOp.TheVariants.{Sum}
use Rattle.ptl_types.specs.declared.elements.SwapOp.TheVariants.{Swap as PlainSwap}
use Rattle.ptl_types.specs.declared.entries.Entry.{Entry}
use Rattle.ptl_types.specs.declared.entries.List.TheVariants.{Priority, Overflow as InOverflow}
use Rattle.ptl_types.specs.declared.calls.Outcome.{Outcome}
use Rattle.ptl_types.specs.declared.calls.Outcome.TheVariants.{Matched, Overflow, Dropped, Violation}
use Rattle.ptl_types.specs.Handles.{top}
use Rattle.ptl_types.specs.Messages.{Sent, message}
use Rattle.ni_model.specs.Append.{append}
use Rattle.ni_model.specs.Arrive.{request}
use Rattle.ni_model.specs.Counts.{successes}
use Rattle.ni_model.specs.State.{State, Delivers, opened, target}
use Rattle.ni_model.specs.Calls.{ct_alloc, ct_get, me_append, pt_alloc}
use Rattle.law_cases.proofs.model.Setting.{bytes_of_answer, counting, entry, first, length_of_answer, local, once, second}
use Rattle.law_cases.proofs.model.Wide.{asks, many, region}

-- indices 0 and 1, and two counting events
abbrev empty : State
empty = (ct_alloc 1 (ct_alloc 0 (pt_alloc 1 None (pt_alloc 0 None (opened 0 2 many region)).state).state).state).state

abbrev holding : Entry → State
holding e = (me_append 0 1 Priority e empty).state

abbrev outcome : State → Sent → Outcome
outcome s m = (target s m).delivered.outcome

abbrev memory_of : State → Sent → List ℕ
memory_of s m = (target s m).state.memory

abbrev plain : MessageKind → ℕ → List ℕ → Sent
plain kind length bytes = message (asks kind length) bytes

abbrev sum : MessageKind → List ℕ → Sent
sum kind bytes = message (record (asks kind 2) { op = Some Sum; ty = U16 }) bytes

abbrev swap : Sent
swap = message (record (asks Swap 2) { swap = Some PlainSwap; ty = U16 }) (1 ∷ 2 ∷ [])

abbrev one : Sent
one = plain Put 1 (1 ∷ [])

-- ---- what an entry allows, for each operation
abbrev puts_alone : State
puts_alone = holding (record (entry 4 6) { allow_get = false })

abbrev gets_alone : State
gets_alone = holding (record (entry 4 6) { allow_put = false })

abbrev each_kind : List Sent
each_kind = one ∷ plain Get 1 [] ∷ sum Atomic (1 ∷ 0 ∷ []) ∷ sum FetchAtomic (1 ∷ 0 ∷ []) ∷ swap ∷ []

abbrev outcomes : State → List Outcome
outcomes s = map (outcome s) each_kind

puts_allowed : outcomes puts_alone ≡ Matched ∷ Violation ∷ Matched ∷ Violation ∷ Violation ∷ []
unfolding target request append
puts_allowed = refl

gets_allowed : outcomes gets_alone ≡ Violation ∷ Matched ∷ Violation ∷ Violation ∷ Violation ∷ []
unfolding target request append
gets_allowed = refl

both_allowed : outcomes (holding (entry 4 6)) ≡ Matched ∷ Matched ∷ Matched ∷ Matched ∷ Matched ∷ []
unfolding target request append
both_allowed = refl

-- the overflow list takes puts and atomics alone
overflow_allowed : outcomes (me_append 0 1 InOverflow (entry 4 6) empty).state ≡ Overflow ∷ Dropped ∷ Overflow ∷ Dropped ∷ Dropped ∷ []
unfolding target request append
overflow_allowed = refl

-- ---- the priority list first, whichever was appended first; each list in the order of appending
abbrev in_both : State
in_both = (me_append 1 1 Priority (entry 4 4) (me_append 0 1 InOverflow (entry 8 4) empty).state).state

priority_first : memory_of in_both one ≡ 10 ∷ 11 ∷ 12 ∷ 13 ∷ 14 ∷ 1 ∷ 16 ∷ 17 ∷ 18 ∷ 19 ∷ 20 ∷ 21 ∷ 22 ∷ 23 ∷ 24 ∷ 25 ∷ []
unfolding target request append
priority_first = refl

abbrev two_overflow : State
two_overflow = (me_append 1 1 InOverflow (entry 8 4) (me_append 0 1 InOverflow (record (entry 4 4) { match_bits = 6 }) empty).state).state

second_of_overflow : memory_of two_overflow one ≡ 10 ∷ 11 ∷ 12 ∷ 13 ∷ 14 ∷ 15 ∷ 16 ∷ 17 ∷ 18 ∷ 1 ∷ 20 ∷ 21 ∷ 22 ∷ 23 ∷ 24 ∷ 25 ∷ []
unfolding target request append
second_of_overflow = refl

-- ---- the whole message, where truncation is forbidden: five bytes are left after offset 1
abbrev whole : State
whole = holding (record (entry 4 6) { no_truncate = true })

just_whole : outcome whole (plain Put 5 (1 ∷ 2 ∷ 3 ∷ 4 ∷ 5 ∷ [])) ≡ Matched
unfolding target request append
just_whole = refl

one_too_many : outcome whole (plain Put 6 (1 ∷ 2 ∷ 3 ∷ 4 ∷ 5 ∷ 6 ∷ [])) ≡ Dropped
unfolding target request append
one_too_many = refl

-- also of a get, whose bytes go the other way
get_is_whole : outcome whole (plain Get 6 []) ≡ Dropped
unfolding target request append
get_is_whole = refl

nothing_beyond_the_end : outcome whole (message (record (asks Put 0) { offset = 9 }) []) ≡ Matched
unfolding target request append
nothing_beyond_the_end = refl

-- ---- whole elements, of operations on elements alone
puts_have_no_elements :
    memory_of (holding (entry 4 6)) (message (record (asks Put 3) { ty = U16 }) (1 ∷ 2 ∷ 3 ∷ []))
    ≡ 10 ∷ 11 ∷ 12 ∷ 13 ∷ 14 ∷ 1 ∷ 2 ∷ 3 ∷ 18 ∷ 19 ∷ 20 ∷ 21 ∷ 22 ∷ 23 ∷ 24 ∷ 25 ∷ []
unfolding target request append
puts_have_no_elements = refl

-- of three bytes after offset 1 one element of two comes, and none of four
abbrev fetch_of : ElemType → Delivers
fetch_of ty = target (holding (entry 4 4)) (message (record (asks FetchAtomic 4) { op = Some Sum; ty = ty }) (1 ∷ 0 ∷ 1 ∷ 0 ∷ []))

two_of_three : bytes_of_answer (fetch_of U16).delivered.answer ≡ 15 ∷ 16 ∷ []
unfolding target request append
two_of_three = refl

none_of_three : length_of_answer (fetch_of U32).delivered.answer ≡ 0
unfolding target request append
none_of_three = refl

-- ---- running offsets: of every operation, by what was delivered, at the one entry
abbrev managed : State
managed = holding (local 0 (entry 4 6))

gets_move_on : bytes_of_answer (target (target managed (plain Get 2 [])).state (plain Get 2 [])).delivered.answer ≡ 16 ∷ 17 ∷ []
unfolding target request append
gets_move_on = refl

-- of three bytes two are delivered, so the third is next
abbrev after_atomic : State
after_atomic =
    (target (holding (local 0 (entry 4 3))) (message (record (asks Atomic 4) { op = Some Sum; ty = U16 }) (1 ∷ 0 ∷ 1 ∷ 0 ∷ []))).state

third_is_next : memory_of after_atomic one ≡ 10 ∷ 11 ∷ 12 ∷ 13 ∷ 15 ∷ 15 ∷ 1 ∷ 17 ∷ 18 ∷ 19 ∷ 20 ∷ 21 ∷ 22 ∷ 23 ∷ 24 ∷ 25 ∷ []
unfolding target request append
third_is_next = refl

-- two managed entries: a message of the second leaves the first one's offset
abbrev two_managed : State
two_managed = (me_append 1 1 Priority (local 0 (record (entry 8 4) { match_bits = 6 })) managed).state

other_offset_stays :
    memory_of (target two_managed (message (record (asks Put 1) { match_bits = 6 }) (2 ∷ []))).state one
    ≡ 10 ∷ 11 ∷ 12 ∷ 13 ∷ 1 ∷ 15 ∷ 16 ∷ 17 ∷ 2 ∷ 19 ∷ 20 ∷ 21 ∷ 22 ∷ 23 ∷ 24 ∷ 25 ∷ []
unfolding target request append
other_offset_stays = refl

-- an entry that isn't managed stays as it is, however few bytes are free
unmanaged_stays :
    (target (holding (record (entry 4 6) { min_free = 6 })) one).state.indices
    ≡ (holding (record (entry 4 6) { min_free = 6 })).indices
unfolding target request append
unmanaged_stays = refl

-- ---- use-once entries of two indices: the one of the message goes, and the others stay
abbrev two_once : State
two_once = (me_append 1 1 Priority (once (entry 8 4)) (me_append 0 0 Priority (once (entry 4 4)) empty).state).state

abbrev three_once : State
three_once = (me_append 2 1 Priority (once (record (entry 12 4) { match_bits = 6 })) two_once).state

abbrev at_zero : Sent
at_zero = message (record (asks Put 1) { pt = 0 }) (1 ∷ [])

used_once : outcome (target three_once one).state one ≡ Dropped
unfolding target request append
used_once = refl

other_index_stays : outcome (target three_once one).state at_zero ≡ Matched
unfolding target request append
other_index_stays = refl

other_entry_stays : outcome (target three_once one).state (message (record (asks Put 1) { match_bits = 6 }) (1 ∷ [])) ≡ Matched
unfolding target request append
other_entry_stays = refl

-- ---- counts: in either list, where messages are counted, on the entry's own counting event
overflow_is_counted :
    ct_get second (target (me_append 0 1 InOverflow (counting second (entry 4 4)) empty).state one).state
    ≡ Ok (successes 1)
unfolding target request append
overflow_is_counted = refl

other_is_not_counted :
    ct_get first (target (me_append 0 1 InOverflow (counting second (entry 4 4)) empty).state one).state
    ≡ Ok (successes 0)
unfolding target request append
other_is_not_counted = refl

headers_alone_are_counted :
    ct_get second (target (holding (record (entry 4 4) { ct = Some second; count_overflow = true })) one).state
    ≡ Ok (successes 0)
unfolding target request append
headers_alone_are_counted = refl

get_is_counted : ct_get second (target (holding (counting second (entry 4 4))) (plain Get 2 [])).state ≡ Ok (successes 1)
unfolding target request append
get_is_counted = refl

-- ---- an atomic that comes unexpected is combined where it lies
combined_there :
    memory_of (me_append 0 1 InOverflow (entry 4 6) empty).state (sum Atomic (1 ∷ 0 ∷ []))
    ≡ 10 ∷ 11 ∷ 12 ∷ 13 ∷ 14 ∷ 16 ∷ 16 ∷ 17 ∷ 18 ∷ 19 ∷ 20 ∷ 21 ∷ 22 ∷ 23 ∷ 24 ∷ 25 ∷ []
unfolding target request append
combined_there = refl

-- ---- as many headers as there may be: the fifth is the last
abbrev put_again : State → State
put_again s = (target s one).state

abbrev four_kept : State
four_kept = put_again (put_again (put_again (put_again (me_append 0 1 InOverflow (entry 4 6) empty).state)))

fifth_is_kept : outcome four_kept one ≡ Overflow
unfolding target request append
fifth_is_kept = refl

sixth_is_dropped : outcome (put_again four_kept) one ≡ Dropped
unfolding target request append
sixth_is_dropped = refl

-- ---- registers stay at their greatest value
drops_stay : (target (record empty { drops = top }) one).state.drops ≡ top
unfolding target request append
drops_stay = refl

violations_stay : (target (record gets_alone { violations = top }) one).state.violations ≡ top
unfolding target request append
violations_stay = refl

-- the one register rises, and the other stays
violation_alone : (target (record gets_alone { violations = 3; drops = 7 }) one).state ≡ record gets_alone { violations = 4; drops = 7 }
unfolding target request append
violation_alone = refl

drop_alone : (target (record empty { violations = 3; drops = 7 }) one).state ≡ record empty { violations = 3; drops = 8 }
unfolding target request append
drop_alone = refl
