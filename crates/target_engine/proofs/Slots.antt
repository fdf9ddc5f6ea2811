-- Some slot is free: that of no linked entry, and of none in which a header lies.
use Rattle.std.proofs.Common.{◌≡◌, ℕ, suc, ◌+◌, ◌≤◌, false, List, [], ◌∷◌, Option, Some, None, nat_eq, refl, arith}
use Rattle.std.proofs.lemmas.Bool.Decides.{nat_tests}
use Rattle.ni_model.specs.declared.Linked.{Linked}
use Rattle.ni_model.specs.declared.IndexedHeader.{IndexedHeader}
use Rattle.ni_model.specs.Lists.{Index}
use Rattle.ni_model.specs.Calls.{slot_in, entry_slot, header_slot, entry_taken}

abbrev slots_of : List Linked → ℕ
slots_of [] = 0
slots_of (x ∷ xs) = suc x.handle.slot + slots_of xs

slot_in-past : (s : ℕ) (xs : List Linked) → slots_of xs ≤ s → slot_in s xs ≡ false
slot_in-past s [] le = refl
slot_in-past s (x ∷ xs) le = let e : nat_eq x.handle.slot s ≡ false = grind (arith, nat_tests) in
    rw (e, slot_in-past s xs (omega arith)) refl

abbrev all_slots : List (Option Index) → ℕ
all_slots [] = 0
all_slots (None ∷ is) = all_slots is
all_slots (Some i ∷ is) = slots_of i.priority + slots_of i.overflow + all_slots is

entry_slot-past : (s : ℕ) (is : List (Option Index)) → all_slots is ≤ s → entry_slot is s ≡ false
entry_slot-past s [] le = refl
entry_slot-past s (None ∷ is) le = entry_slot-past s is le
entry_slot-past s (Some i ∷ is) le = rw (
  slot_in-past s i.priority (omega arith),
  slot_in-past s i.overflow (omega arith),
  entry_slot-past s is (omega arith),
) refl

abbrev header_slots : List IndexedHeader → ℕ
header_slots [] = 0
header_slots (a ∷ hs) = suc a.header.entry.slot + header_slots hs

header_slot-past : (s : ℕ) (hs : List IndexedHeader) → header_slots hs ≤ s → header_slot hs s ≡ false
header_slot-past s [] le = refl
header_slot-past s (a ∷ hs) le = let e : nat_eq a.header.entry.slot s ≡ false = grind (arith, nat_tests) in
    rw (e, header_slot-past s hs (omega arith)) refl

pub free_entry_slot : (is : List (Option Index)) (hs : List IndexedHeader) → (s : ℕ) × (entry_taken is hs s ≡ false)
free_entry_slot is hs =
    let s : ℕ = all_slots is + header_slots hs in
    let linked : entry_slot is s ≡ false = entry_slot-past s is (omega arith) in
    let lies : header_slot hs s ≡ false = header_slot-past s hs (omega arith) in
    (s, rw (linked, lies) refl)
