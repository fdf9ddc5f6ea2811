-- Which headers an append or a search finds, among five of two indices: by index, source, bits and operation, oldest first.
use Rattle.std.specs.Prelude.{ℕ, true, false, ◌≡◌, ◌-◌, ◌^◌, List, [], ◌∷◌, map, Option, Some, None, Result, Ok, Err, refl}
use Rattle.ptl_types.specs.declared.headers.MessageKind.TheVariants.{Put, Atomic}
use Rattle.ptl_types.specs.declared.elements.AtomicOp.TheVariants.{Sum}
use Rattle.ptl_types.specs.declared.entries.Entry.{Entry}
use Rattle.ptl_types.specs.declared.entries.List.TheVariants.{Priority, Overflow}
use Rattle.ptl_types.specs.declared.entries.UnexpectedHeader.{UnexpectedHeader}
use Rattle.ptl_types.specs.declared.events.EventKind.TheVariants.{Link, PutOverflow, AtomicOverflow, Search}
use Rattle.ptl_types.specs.declared.calls.Appended.{Appended}
use Rattle.ptl_types.specs.declared.calls.Appended.TheVariants.{Linked as IsLinked, Consumed}
use Rattle.ptl_types.specs.declared.calls.NiFault.{NiFault}
use Rattle.ptl_types.specs.declared.calls.NiFault.TheVariants.{Stale, InUse}
use Rattle.ptl_types.specs.Messages.{Sent, message}
use Rattle.ni_model.specs.declared.IndexedHeader.{IndexedHeader}
use Rattle.ni_model.specs.Append.{append, search}
use Rattle.ni_model.specs.Arrive.{request}
use Rattle.ni_model.specs.Counts.{successes}
use Rattle.ni_model.specs.Headers.{headers_of}
use Rattle.ni_model.specs.Tables.{handle}
use Rattle.ni_model.specs.State.{State, opened, parts_of, target}
use Rattle.ni_model.specs.Calls.{ct_alloc, ct_get, eq_alloc, me_append, me_search, me_unlink, pt_alloc}
use Rattle.law_cases.proofs.model.Setting.{counting, counting_overflow, entry, first, local, once, second}
use Rattle.law_cases.proofs.model.Wide.{asks, kinds_in, many, region}

-- index 0 has a queue; a managed overflow entry of each index takes whatever bits come
abbrev any_bits : ℕ → Entry
any_bits start = local 0 (record (entry start 8) { ignore_bits = 2 ^ 64 - 1 })

abbrev empty : State
empty = (pt_alloc 1 None (pt_alloc 0 (Some first) (eq_alloc 0 8 (opened 0 2 many region)).state).state).state

abbrev two_open : State
two_open = (me_append 1 1 Overflow (any_bits 8) (me_append 0 0 Overflow (any_bits 0) empty).state).state

-- a put with its index, source, bits and bytes
abbrev put : ℕ → ℕ → ℕ → ℕ → List ℕ → Sent
put pt source bits length bytes = message (record (asks Put length) { pt = pt; source = source; match_bits = bits }) bytes

abbrev atomic : Sent
atomic = message (record (asks Atomic 3) { pt = 0; op = Some Sum }) (4 ∷ 4 ∷ 4 ∷ [])

abbrev two : State
two = (target (target two_open (put 0 1 5 1 (1 ∷ []))).state (put 1 1 5 7 (2 ∷ 2 ∷ 2 ∷ 2 ∷ 2 ∷ 2 ∷ 2 ∷ []))).state

-- a put, one of the other index, one of rank 0, an atomic, and a put with other bits; each has a length of its own
abbrev five : State
five = (target (target (target two (put 0 0 5 2 (3 ∷ 3 ∷ []))).state atomic).state (put 0 1 6 4 (5 ∷ 5 ∷ 5 ∷ 5 ∷ []))).state

abbrev length_of : IndexedHeader → ℕ
length_of a = a.header.header.length

-- the headers by their lengths
abbrev lengths : State → List ℕ
lengths s = map length_of s.headers.unexpected

in_order_of_arrival : lengths five ≡ 1 ∷ 7 ∷ 2 ∷ 3 ∷ 4 ∷ []
unfolding target request append
in_order_of_arrival = refl

of_index_zero : map length_of (headers_of 0 five.headers.unexpected) ≡ 1 ∷ 2 ∷ 3 ∷ 4 ∷ []
unfolding target request append
of_index_zero = refl

abbrev room : Entry
room = entry 12 4

abbrev from : ℕ → Entry
from rank = record room { match_id = Some rank }

-- ---- a persistent entry takes all that it finds, oldest first
abbrev all_of_one : State
all_of_one = (me_append 2 0 Priority (from 1) five).state

others_stay : lengths all_of_one ≡ 7 ∷ 2 ∷ 4 ∷ []
unfolding target request append
others_stay = refl

each_is_told : kinds_in first all_of_one ≡ Link ∷ PutOverflow ∷ AtomicOverflow ∷ Link ∷ []
unfolding target request append
each_is_told = refl

-- ---- a use-once entry takes the oldest
abbrev taken_length : Result Appended NiFault → ℕ
taken_length (Ok (Consumed h)) = h.header.length
taken_length _ = 99

abbrev takes : Entry → ℕ
takes e = taken_length (me_append 2 0 Priority (once e) five).answer

abbrev leaves : Entry → List ℕ
leaves e = lengths (me_append 2 0 Priority (once e) five).state

oldest_of_any : takes room ≡ 1
unfolding target request append
oldest_of_any = refl

younger_stay : leaves room ≡ 7 ∷ 2 ∷ 3 ∷ 4 ∷ []
unfolding target request append
younger_stay = refl

oldest_of_rank_zero : takes (from 0) ≡ 2
unfolding target request append
oldest_of_rank_zero = refl

older_stay : leaves (from 0) ≡ 1 ∷ 7 ∷ 3 ∷ 4 ∷ []
unfolding target request append
older_stay = refl

by_its_bits : takes (record room { match_bits = 6 }) ≡ 4
unfolding target request append
by_its_bits = refl

-- 4 or 6
by_unignored_bits : takes (record room { match_bits = 4; ignore_bits = 2 }) ≡ 4
unfolding target request append
by_unignored_bits = refl

-- lengths aren't looked at
by_no_length : takes (record (entry 12 0) { no_truncate = true }) ≡ 1
unfolding target request append
by_no_length = refl

-- puts and atomics need allow_put alone
without_get : takes (record room { allow_get = false }) ≡ 1
unfolding target request append
without_get = refl

without_put : takes (record room { allow_put = false }) ≡ 99
unfolding target request append
without_put = refl

nothing_of_rank_one_left : (me_append 2 0 Priority (once (from 1)) all_of_one).answer ≡ Ok (IsLinked (handle 2 3))
unfolding target request append
nothing_of_rank_one_left = refl

-- ---- an overflow entry takes none
abbrev more_overflow : State
more_overflow = (me_append 2 0 Overflow room five).state

overflow_takes_none : lengths more_overflow ≡ 1 ∷ 7 ∷ 2 ∷ 3 ∷ 4 ∷ []
unfolding target request append
overflow_takes_none = refl

overflow_is_linked : (me_append 2 0 Overflow (once room) five).answer ≡ Ok (IsLinked (handle 2 2))
unfolding target request append
overflow_is_linked = refl

-- any header keeps its entry, not the oldest alone
second_header_keeps : (me_unlink second five).answer ≡ Err InUse
unfolding target request append
second_header_keeps = refl

-- ---- what is counted: headers where overflow is counted, and none where messages are
abbrev with_counter : State
with_counter = (ct_alloc 0 five).state

two_are_counted : ct_get first (me_append 2 0 Priority (counting_overflow first (from 1)) with_counter).state ≡ Ok (successes 2)
unfolding target request append
two_are_counted = refl

uncounted : ct_get first (me_append 2 0 Priority (counting first (from 1)) with_counter).state ≡ Ok (successes 0)
unfolding target request append
uncounted = refl

uncounted_once : ct_get first (me_append 2 0 Priority (once (counting first (from 1))) with_counter).state ≡ Ok (successes 0)
unfolding target request append
uncounted_once = refl

-- the counting event that rose
rose : (append 2 0 Priority (counting_overflow first (from 1)) (parts_of with_counter)).counted ≡ Some first
unfolding target request append
rose = refl

rose_once : (append 2 0 Priority (once (counting_overflow first (from 1))) (parts_of with_counter)).counted ≡ Some first
unfolding target request append
rose_once = refl

none_rose : (append 2 1 Priority (counting_overflow first (from 0)) (parts_of with_counter)).counted ≡ None
unfolding target request append
none_rose = refl

-- ---- searches
abbrev found_length : Result (Option UnexpectedHeader) NiFault → ℕ
found_length (Ok (Some h)) = h.header.length
found_length _ = 99

abbrev finds : ℕ → Entry → ℕ
finds pt e = found_length (me_search pt e false five).answer

found_of_rank_one : finds 0 (from 1) ≡ 1
unfolding target request append search
found_of_rank_one = refl

found_of_rank_zero : finds 0 (from 0) ≡ 2
unfolding target request append search
found_of_rank_zero = refl

found_of_index_one : finds 1 room ≡ 7
unfolding target request append search
found_of_index_one = refl

none_of_index_one : finds 1 (from 0) ≡ 99
unfolding target request append search
none_of_index_one = refl

-- one deletion takes one header away
abbrev one_deleted : State
one_deleted = (me_search 0 (from 1) true five).state

deleted_goes : lengths one_deleted ≡ 7 ∷ 2 ∷ 3 ∷ 4 ∷ []
unfolding target request append search
deleted_goes = refl

next_is_found : found_length (me_search 0 (from 1) true one_deleted).answer ≡ 3
unfolding target request append search
next_is_found = refl

-- the entry is linked, so that none is freed; each search is told once
searches_are_told : kinds_in first (me_search 0 room false one_deleted).state ≡ Link ∷ Search ∷ Search ∷ []
unfolding target request append search
searches_are_told = refl

-- neither the part nor the counting event of the given entry is looked at
whatever_part : found_length (me_search 0 (counting (handle 0 9) (entry 99 99)) false five).answer ≡ 1
unfolding target request append search
whatever_part = refl

no_such_index : (me_search 2 room false five).answer ≡ Err Stale
unfolding target request append search
no_such_index = refl
