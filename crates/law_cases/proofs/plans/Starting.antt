-- What a start does with one header: where its bytes go, how they are combined, and which headers are used; and what areas take.
use Rattle.std.proofs.Common.{ℕ, true, false, ◌≡◌, ◌+◌, ◌-◌, ◌*◌, ◌^◌, List, Option, Some, None, [], ◌∷◌, refl}
use Rattle.ptl_types.specs.declared.elements.AtomicOp.{AtomicOp}
use Rattle.ptl_types.specs.declared.elements.AtomicOp.TheVariants.{Sum}
use Rattle.ptl_types.specs.declared.elements.ElemType.{ElemType}
use Rattle.ptl_types.specs.declared.elements.ElemType.TheVariants.{U8, U16}
use Rattle.ptl_types.specs.declared.entries.UnexpectedHeader.{UnexpectedHeader}
use Rattle.ni_model.specs.Tables.{handle}
use Rattle.plan_core.specs.declared.calls.OwnCell.{OwnCell}
use Rattle.cuts.specs.start.Start.{brought, is_used, lies_in}
use Rattle.cuts.specs.view.Calls.{area_entry}
use Rattle.ptl_types.specs.declared.headers.MessageKind.TheVariants.{Put, Atomic, Get}
use Rattle.ni_model.specs.declared.Linked.{Linked}
use Rattle.ni_model.specs.Arrive.{place}
use Rattle.ni_model.specs.Headers.{allows}
use Rattle.ni_model.specs.Lists.{fits}
use Rattle.law_cases.proofs.plans.Moments.{stray}

-- a cell of four bytes after the first byte of the region
abbrev cell : Option AtomicOp → ElemType → OwnCell
cell o ty = record { number = 0; start = 1; length = 4; op = o; ty = ty; match_bits = 0; ignore_bits = 0 }

-- n bytes that lie after the cell, for this offset in it
abbrev came : ℕ → ℕ → UnexpectedHeader
came at n = record { entry = handle 0 0; place = 5; delivered = n; header = record stray.header { offset = at } }

abbrev region : List ℕ
region = 7 ∷ 1 ∷ 2 ∷ 3 ∷ 4 ∷ 250 ∷ 8 ∷ []

put_at_its_offset : brought (cell None U8) (came 2 2) region ≡ 7 ∷ 1 ∷ 2 ∷ 250 ∷ 8 ∷ 250 ∷ 8 ∷ []
put_at_its_offset = refl

sum_with_what_is_there : brought (cell (Some Sum) U8) (came 0 2) region ≡ 7 ∷ 251 ∷ 10 ∷ 3 ∷ 4 ∷ 250 ∷ 8 ∷ []
sum_with_what_is_there = refl

just_within : is_used 2 (cell None U8) (came 2 2) ≡ true
just_within = refl

past_the_cell : is_used 2 (cell None U8) (came 3 2) ≡ false
past_the_cell = refl

longer_than_any_message : is_used 1 (cell None U8) (came 0 2) ≡ false
longer_than_any_message = refl

half_an_element : is_used 4 (cell (Some Sum) U16) (came 0 3) ≡ false
half_an_element = refl

half_an_element_of_a_put : is_used 4 (cell None U16) (came 0 3) ≡ true
half_an_element_of_a_put = refl

up_to_the_end : lies_in (cell None U8) (came 0 2) 7 ≡ true
up_to_the_end = refl

past_the_end : lies_in (cell None U8) (came 0 3) 7 ≡ false
past_the_end = refl

-- ---- areas: eight bytes from place 10 on, of which so many are taken
abbrev area : ℕ → Linked
area taken = record { handle = handle 0 0; running = taken; entry = area_entry 10 8 (2 * 2 ^ 48) (2 ^ 40 - 1) }

a_later_one_lies_behind : place (area 4) stray.header ≡ 14
a_later_one_lies_behind = refl

the_last_byte_is_room : fits stray.header (area 7) ≡ true
the_last_byte_is_room = refl

a_full_area_takes_none : fits stray.header (area 8) ≡ false
a_full_area_takes_none = refl

another_job_is_not_matched : fits (record stray.header { match_bits = 3 * 2 ^ 48 }) (area 0) ≡ false
another_job_is_not_matched = refl

the_cell_is_not_compared : fits (record stray.header { match_bits = 2 * 2 ^ 48 + 5 * 2 ^ 16 + 1 }) (area 0) ≡ true
the_cell_is_not_compared = refl

puts_may_come : allows (area 0).entry Put ≡ true
puts_may_come = refl

atomics_may_come : allows (area 0).entry Atomic ≡ true
atomics_may_come = refl

no_get_reads_an_area : allows (area 0).entry Get ≡ false
no_get_reads_an_area = refl
