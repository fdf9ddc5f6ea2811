-- First match, use-once entries, truncation, violations (Portals 4.3, matching).
use Rattle.std.specs.Prelude.{ℕ, true, false, ◌≡◌, List, [], ◌∷◌, Some, None, Ok, Err, refl, replicate}
use Rattle.ptl_types.specs.declared.entries.List.TheVariants.{Priority, Overflow as InOverflow}
use Rattle.ptl_types.specs.declared.entries.Entry.{Entry}
use Rattle.ptl_types.specs.declared.headers.AckRequest.TheVariants.{CtAck}
use Rattle.ptl_types.specs.declared.calls.Outcome.{Outcome}
use Rattle.ptl_types.specs.declared.calls.Outcome.TheVariants.{Matched, Overflow, Dropped, Violation}
use Rattle.ptl_types.specs.declared.calls.NiFault.TheVariants.{Stale}
use Rattle.ptl_types.specs.Messages.{Sent}
use Rattle.ni_model.specs.Arrive.{request}
use Rattle.ni_model.specs.Append.{append}
use Rattle.ni_model.specs.Counts.{successes}
use Rattle.ni_model.specs.State.{State, target}
use Rattle.ni_model.specs.Calls.{ct_alloc, ct_get, me_append, me_unlink}
use Rattle.law_cases.proofs.model.Setting.{new, first, entry, once, local, counting, put, put_at, get, asking, is_ok_answer}
use Rattle.law_cases.proofs.model.Setting.{length_of_answer}
use Rattle.law_cases.proofs.model.Setting.{bytes_of_answer}

-- ---- two use-once entries that count
two_entries : State → State
unfolding append
two_entries s = (me_append 1 0 Priority (once (counting first (entry 4 4)))
    (me_append 0 0 Priority (once (counting first (entry 0 4))) (ct_alloc 0 s).state).state).state

abbrev use_up : State → State
use_up s = (target (target (target (two_entries s) (put (1 ∷ []))).state (put (2 ∷ []))).state (put (3 ∷ []))).state

first_is_matched : (target (two_entries new) (put (1 ∷ []))).delivered.outcome ≡ Matched
unfolding target request append two_entries
first_is_matched = refl

third_is_dropped : (target (target (target (two_entries new) (put (1 ∷ []))).state (put (2 ∷ []))).state (put (3 ∷ []))).delivered.outcome
    ≡ Dropped
unfolding target request append two_entries
third_is_dropped = refl

memory_used : (use_up new).memory ≡ 1 ∷ 0 ∷ 0 ∷ 0 ∷ 2 ∷ replicate 11 0
unfolding target request append two_entries
memory_used = refl

one_drop : (use_up new).drops ≡ 1
unfolding target request append two_entries
one_drop = refl

two_counted : ct_get first (use_up new) ≡ Ok (successes 2)
unfolding target request append two_entries
two_counted = refl

unlinked_is_stale : (me_unlink first (use_up new)).answer ≡ Err Stale
unfolding target request append two_entries
unlinked_is_stale = refl

-- ---- truncation
abbrev persistent : Entry → State
persistent e = (me_append 0 0 Priority e new).state

abbrev six : List ℕ
six = 1 ∷ 2 ∷ 3 ∷ 4 ∷ 5 ∷ 6 ∷ []

cut_off : (target (persistent (entry 0 4)) (put_at 0 1 six)).state.memory ≡ 0 ∷ 1 ∷ 2 ∷ 3 ∷ replicate 12 0
unfolding target request append
cut_off = refl

beyond_the_end : (target (persistent (entry 0 4)) (put_at 0 5 six)).state.memory ≡ replicate 16 0
unfolding target request append
beyond_the_end = refl

beyond_is_matched : (target (persistent (entry 0 4)) (put_at 0 5 six)).delivered.outcome ≡ Matched
unfolding target request append
beyond_is_matched = refl

no_truncation : (target (persistent (record (entry 0 4) { no_truncate = true })) (put_at 0 1 six)).delivered.outcome ≡ Dropped
unfolding target request append
no_truncation = refl

-- ---- the offset of a locally managed entry is its own; it goes where less than `min_free` is left
managed_offset : (target (target (persistent (local 1 (entry 2 8))) (put_at 0 5 (1 ∷ 2 ∷ []))).state (put_at 0 7 (3 ∷ []))).state.memory
    ≡ 0 ∷ 0 ∷ 1 ∷ 2 ∷ 3 ∷ replicate 11 0
unfolding target request append
managed_offset = refl

abbrev left_over : ℕ → Outcome
left_over free = (target (target (persistent (local free (entry 0 4))) (put (1 ∷ 2 ∷ []))).state (put (3 ∷ []))).delivered.outcome

enough_is_left : left_over 2 ≡ Matched
unfolding target request append
enough_is_left = refl

too_little_is_left : left_over 3 ≡ Dropped
unfolding target request append
too_little_is_left = refl

-- use-once and locally managed: its first message takes it away, however much is left
once_and_managed : (target (target (persistent (once (local 0 (entry 0 4)))) (put (1 ∷ []))).state (put (2 ∷ []))).delivered.outcome
    ≡ Dropped
unfolding target request append
once_and_managed = refl

-- ---- an entry that matches and doesn't allow the operation ends the search
abbrev forbidden : State
forbidden = (me_append 1 0 Priority (entry 4 4) (me_append 0 0 Priority (once (record (entry 0 4) { allow_put = false })) new).state).state

violation : (target forbidden (put (1 ∷ []))).delivered.outcome ≡ Violation
unfolding target request append
violation = refl

violation_counted : (target forbidden (put (1 ∷ []))).state.violations ≡ 1
unfolding target request append
violation_counted = refl

violation_is_no_drop : (target forbidden (put (1 ∷ []))).state.drops ≡ 0
unfolding target request append
violation_is_no_drop = refl

violation_writes_nothing : (target forbidden (put (1 ∷ []))).state.memory ≡ replicate 16 0
unfolding target request append
violation_writes_nothing = refl

-- and unlinks nothing
violation_stays : (target (target forbidden (put (1 ∷ []))).state (put (1 ∷ []))).delivered.outcome ≡ Violation
unfolding target request append
violation_stays = refl

-- a fetching operation needs both, a get needs allow_get
get_is_allowed : (target forbidden (get 2)).delivered.outcome ≡ Matched
unfolding target request append
get_is_allowed = refl

get_is_forbidden : (target (persistent (record (entry 0 4) { allow_get = false })) (get 2)).delivered.outcome ≡ Violation
unfolding target request append
get_is_forbidden = refl

-- ---- match bits, ignored bits and sources
other_bits : (target (persistent (record (entry 0 4) { match_bits = 4 })) (put (1 ∷ []))).delivered.outcome ≡ Dropped
unfolding target request append
other_bits = refl

ignored_bits : (target (persistent (record (entry 0 4) { match_bits = 4; ignore_bits = 1 })) (put (1 ∷ []))).delivered.outcome ≡ Matched
unfolding target request append
ignored_bits = refl

other_source : (target (persistent (record (entry 0 4) { match_id = Some 0 })) (put (1 ∷ []))).delivered.outcome ≡ Dropped
unfolding target request append
other_source = refl

this_source : (target (persistent (record (entry 0 4) { match_id = Some 1 })) (put (1 ∷ []))).delivered.outcome ≡ Matched
unfolding target request append
this_source = refl

-- an index that isn't allocated
no_index : (target (persistent (entry 0 4)) (put_at 1 0 (1 ∷ []))).delivered.outcome ≡ Dropped
unfolding target request append
no_index = refl

-- ---- the overflow list takes puts and atomics alone, and only while there is room for a header
abbrev overflowing : State
overflowing = (me_append 0 0 InOverflow (local 0 (entry 0 8)) new).state

abbrev three_puts : State
three_puts = (target (target (target overflowing (put (1 ∷ []))).state (put (2 ∷ []))).state (put (3 ∷ []))).state

overflow_takes_puts : (target overflowing (put (1 ∷ []))).delivered.outcome ≡ Overflow
unfolding target request append
overflow_takes_puts = refl

overflow_takes_no_get : (target overflowing (get 1)).delivered.outcome ≡ Dropped
unfolding target request append
overflow_takes_no_get = refl

third_has_no_header : three_puts.drops ≡ 1
unfolding target request append
third_has_no_header = refl

third_is_no_violation : three_puts.violations ≡ 0
unfolding target request append
third_is_no_violation = refl

third_is_not_written : three_puts.memory ≡ 1 ∷ 2 ∷ replicate 14 0
unfolding target request append
third_is_not_written = refl

-- the full list is judged after what the entry allows, and doesn't touch the priority list
abbrev full : State → State
full s = (target (target s (put (1 ∷ []))).state (put (2 ∷ []))).state

full_and_forbidden : (target (full (me_append 1 0 InOverflow (record (entry 8 4) { match_bits = 4; ignore_bits = 1; allow_put = false })
    (me_append 0 0 InOverflow (local 7 (entry 0 8)) new).state).state) (put (3 ∷ []))).delivered.outcome ≡ Violation
unfolding target request append
full_and_forbidden = refl

abbrev with_bits : ℕ → Sent → Sent
with_bits bits m = record m { header = record m.header { match_bits = bits } }

full_and_prior : (target (full (me_append 1 0 InOverflow (local 0 (entry 0 8))
    (me_append 0 0 Priority (record (entry 8 4) { match_bits = 4 }) new).state).state) (with_bits 4 (put (3 ∷ [])))).delivered.outcome
    ≡ Matched
unfolding target request append
full_and_prior = refl

-- a dropped message that asked for an answer gets one that isn't ok
dropped_reply : is_ok_answer (target new (get 2)).delivered.answer ≡ false
unfolding target request
dropped_reply = refl

dropped_length : length_of_answer (target new (get 2)).delivered.answer ≡ 0
unfolding target request
dropped_length = refl

dropped_bytes : bytes_of_answer (target new (get 2)).delivered.answer ≡ []
unfolding target request
dropped_bytes = refl

delivered_reply : bytes_of_answer (target (target (persistent (entry 0 4)) (put (7 ∷ 8 ∷ []))).state (get 2)).delivered.answer ≡ 7 ∷ 8 ∷ []
unfolding target request append
delivered_reply = refl

-- a get reads what there is, and its reply says how much
short_reply : length_of_answer (target (persistent (entry 0 4)) (get 6)).delivered.answer ≡ 4
unfolding target request append
short_reply = refl

-- none for a put that asked for none
no_answer : (target (persistent (entry 0 4)) (put (7 ∷ []))).delivered.answer ≡ None
unfolding target request append
no_answer = refl

acknowledged : length_of_answer (target (persistent (entry 0 1)) (asking CtAck (7 ∷ 8 ∷ []))).delivered.answer ≡ 1
unfolding target request append
acknowledged = refl

refused_acknowledgement : is_ok_answer (target forbidden (asking CtAck (7 ∷ 8 ∷ []))).delivered.answer ≡ false
unfolding target request append
refused_acknowledgement = refl

-- a message in the priority list leaves no header
priority_leaves_none : (target (persistent (entry 0 4)) (put (7 ∷ []))).state.headers.unexpected ≡ []
unfolding target request append
priority_leaves_none = refl

-- and one that is dropped or a violation changes nothing but a register
dropped_changes_one : (target (persistent (entry 0 4)) (put_at 1 0 (7 ∷ []))).state ≡ record (persistent (entry 0 4)) { drops = 1 }
unfolding target request append
dropped_changes_one = refl

violation_changes_one : (target forbidden (put (7 ∷ []))).state ≡ record forbidden { violations = 1 }
unfolding target request append
violation_changes_one = refl
