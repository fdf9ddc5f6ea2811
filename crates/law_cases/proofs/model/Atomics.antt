-- Atomic operations and swaps at the target (Portals 4.3, atomic and swap operations).
use Rattle.std.specs.Prelude.{ℕ, ◌≡◌, List, [], ◌∷◌, refl, replicate}
use Rattle.ptl_types.specs.declared.entries.List.TheVariants.{Priority}
use Rattle.ptl_types.specs.declared.elements.ElemType.TheVariants.{U8, U16, I8}
use Rattle.ptl_types.specs.declared.elements.AtomicOp.TheVariants.{Sum, Max, Min}
use Rattle.ptl_types.specs.declared.elements.SwapOp.TheVariants.{Swap, Cswap, Mswap}
use Rattle.ptl_types.specs.declared.calls.Outcome.TheVariants.{Matched}
use Rattle.ni_model.specs.Arrive.{request}
use Rattle.ni_model.specs.Append.{append}
use Rattle.ni_model.specs.State.{State, Delivers, target}
use Rattle.ni_model.specs.Calls.{me_append, write_memory}
use Rattle.law_cases.proofs.model.Setting.{new, entry, atomic, fetch, swap, bytes_of_answer, length_of_answer}

abbrev one_entry : ℕ → ℕ → List ℕ → State
one_entry start length bytes = write_memory start bytes (me_append 0 0 Priority (entry start length) new).state

abbrev answers : Delivers → List ℕ
answers r = bytes_of_answer r.delivered.answer

-- byte 0 is 250: a fetching sum of 10, then swaps
abbrev summed : Delivers
summed = target (one_entry 0 1 (250 ∷ [])) (fetch Sum U8 (10 ∷ []))

sum_gives_the_old : answers summed ≡ 250 ∷ []
unfolding target request append
sum_gives_the_old = refl

sum_wraps : summed.state.memory ≡ 4 ∷ replicate 15 0
unfolding target request append
sum_wraps = refl

abbrev first_swap : Delivers
first_swap = target summed.state (swap 0 Cswap U8 4 (9 ∷ []))

equal_swaps : first_swap.state.memory ≡ 9 ∷ replicate 15 0
unfolding target request append
equal_swaps = refl

equal_gives_the_old : answers first_swap ≡ 4 ∷ []
unfolding target request append
equal_gives_the_old = refl

unequal_stays : (target first_swap.state (swap 0 Cswap U8 4 (7 ∷ []))).state.memory ≡ 9 ∷ replicate 15 0
unfolding target request append
unequal_stays = refl

unequal_gives_the_old : answers (target first_swap.state (swap 0 Cswap U8 4 (7 ∷ []))) ≡ 9 ∷ []
unfolding target request append
unequal_gives_the_old = refl

masked : (target (one_entry 0 1 (144 ∷ [])) (swap 0 Mswap U8 15 (255 ∷ []))).state.memory ≡ 159 ∷ replicate 15 0
unfolding target request append
masked = refl

masked_gives_the_old : answers (target (one_entry 0 1 (144 ∷ [])) (swap 0 Mswap U8 15 (255 ∷ []))) ≡ 144 ∷ []
unfolding target request append
masked_gives_the_old = refl

-- bits of the operand beyond the element name none of its bits
masked_beyond : (target (one_entry 0 1 (144 ∷ [])) (swap 0 Mswap U8 256 (255 ∷ []))).state.memory ≡ 144 ∷ replicate 15 0
unfolding target request append
masked_beyond = refl

plain_swap : (target (one_entry 0 1 (144 ∷ [])) (swap 0 Swap U8 0 (3 ∷ []))).state.memory ≡ 3 ∷ replicate 15 0
unfolding target request append
plain_swap = refl

-- the greater of two sixteen bit elements
greater : (target (one_entry 0 2 (3 ∷ 0 ∷ [])) (atomic 0 Max U16 (5 ∷ 0 ∷ []))).state.memory ≡ 5 ∷ replicate 15 0
unfolding target request append
greater = refl

greater_by_both_bytes : (target (one_entry 0 2 (3 ∷ 1 ∷ [])) (atomic 0 Max U16 (5 ∷ 0 ∷ []))).state.memory ≡ 3 ∷ 1 ∷ replicate 14 0
unfolding target request append
greater_by_both_bytes = refl

-- the lesser of -128 and 1, as signed elements
lesser_is_signed : (target (one_entry 0 1 (128 ∷ [])) (atomic 0 Min I8 (1 ∷ []))).state.memory ≡ 128 ∷ replicate 15 0
unfolding target request append
lesser_is_signed = refl

-- atomics are delivered in whole elements: of four bytes three fit, so one element of two bytes comes
whole_elements : (target (one_entry 0 3 (1 ∷ 0 ∷ 9 ∷ [])) (atomic 0 Sum U16 (1 ∷ 0 ∷ 1 ∷ 0 ∷ []))).state.memory ≡ 2 ∷ 0 ∷ 9 ∷ replicate 13 0
unfolding target request append
whole_elements = refl

-- a swap and an atomic that deliver no element write nothing, and give none back
no_element_swapped : (target (one_entry 0 3 (1 ∷ 2 ∷ 3 ∷ [])) (swap 2 Swap U16 0 (7 ∷ 7 ∷ []))).state.memory ≡ 1 ∷ 2 ∷ 3 ∷ replicate 13 0
unfolding target request append
no_element_swapped = refl

no_element_is_matched : (target (one_entry 0 3 (1 ∷ 2 ∷ 3 ∷ [])) (swap 2 Swap U16 0 (7 ∷ 7 ∷ []))).delivered.outcome ≡ Matched
unfolding target request append
no_element_is_matched = refl

no_element_given : length_of_answer (target (one_entry 0 3 (1 ∷ 2 ∷ 3 ∷ [])) (swap 2 Swap U16 0 (7 ∷ 7 ∷ []))).delivered.answer ≡ 0
unfolding target request append
no_element_given = refl

no_element_combined : (target (one_entry 0 3 (1 ∷ 2 ∷ 3 ∷ [])) (atomic 2 Sum U16 (7 ∷ 7 ∷ []))).state.memory ≡ 1 ∷ 2 ∷ 3 ∷ replicate 13 0
unfolding target request append
no_element_combined = refl
