-- What appending and unlinking leave of `HadFew`.
use Rattle.std.proofs.Common.{◌≡◌, ℕ, ◌+◌, ◌<◌, ◌≤◌, Bool, false, not, ◌||◌, nat_eq, List, [], ◌∷◌, ◌++◌, length, refl, ap, ◌∙◌, arith}
use Rattle.std.specs.Prelude.{All}
use Rattle.std.proofs.lemmas.Bool.{or_from}
use Rattle.std.proofs.lemmas.Bool.Decides.{nat_tests}
use Rattle.std.proofs.lemmas.List.{length-append}
use Rattle.std.proofs.lemmas.List.Elements.{All-head, All-tail, All-push, All-weaker, All-filter}
use Rattle.std.proofs.lemmas.List.Sums.{length-filter, count_by-le-length}
use Rattle.ptl_types.specs.declared.handles.Handle.{Handle}
use Rattle.ptl_types.specs.declared.entries.List.{List as EntryList}
use Rattle.ptl_types.specs.declared.entries.List.TheVariants.{Priority, Overflow}
use Rattle.ptl_types.specs.Handles.{same_handle}
use Rattle.ni_model.specs.declared.Linked.{Linked}
use Rattle.ni_model.specs.Calls.{slot_in}
use Rattle.ni_model.specs.Lists.{unlinked}
use Rattle.match_lists.specs.Lists.{Both, with_entries, without_entry, has_slot}
use Rattle.engine_cases.specs.Few.{HadFew}

-- the slot lies below a number
abbrev IsBelow : ℕ → Linked → Type 0
IsBelow n x = x.handle.slot < n

not-in : (n : ℕ) (xs : List Linked) → All (IsBelow n) xs → slot_in n xs ≡ false
not-in n [] all = refl
not-in n (x ∷ xs) all =
    let lt : x.handle.slot < n = All-head (IsBelow n) x xs all in
    let e : nat_eq x.handle.slot n ≡ false = grind (arith, nat_tests) in
    or_from (nat_eq x.handle.slot n) (slot_in n xs) e (not-in n xs (All-tail (IsBelow n) x xs all))

-- the next slot is free
pub few-free : (n : ℕ) (b : Both) → HadFew n b → has_slot n b ≡ false
few-free n b few =
    or_from (slot_in n b.priority) (slot_in n b.overflow) (not-in n b.priority few.priority) (not-in n b.overflow few.overflow)

one-more : (n : ℕ) (xs : List Linked) → All (IsBelow n) xs → All (IsBelow (n + 1)) xs
one-more n xs = All-weaker (IsBelow n) (IsBelow (n + 1)) (λ x lt. omega arith) xs

longer : (xs : List Linked) (x : Linked) → length (xs ++ x ∷ []) ≡ length xs + 1
longer xs x = length-append xs (x ∷ [])

-- an entry under that slot at the end of one of the lists
abbrev with_next : EntryList → Linked → Both → Both
with_next list x b = with_entries list (λ xs. xs ++ x ∷ []) (b.appended + 1) b

few-next : (list : EntryList) (n : ℕ) (x : Linked) (b : Both) → x.handle.slot ≡ n → HadFew n b → HadFew (n + 1) (with_next list x b)
few-next Priority n x b at few = record {
  count = omega (arith, longer b.priority x, few.count);
  appended = omega (arith, few.appended);
  priority = All-push (IsBelow (n + 1)) b.priority x (one-more n b.priority few.priority) (omega arith);
  overflow = one-more n b.overflow few.overflow;
}
few-next Overflow n x b at few = record {
  count = omega (arith, longer b.overflow x, few.count);
  appended = omega (arith, few.appended);
  priority = one-more n b.priority few.priority;
  overflow = All-push (IsBelow (n + 1)) b.overflow x (one-more n b.overflow few.overflow) (omega arith);
}

pub few-linked : (list : EntryList) (n : ℕ) (x : Linked) (b c : Both) → c ≡ with_next list x b → x.handle.slot ≡ n → HadFew n b
    → HadFew (n + 1) c
few-linked list n x b c e at few = rw e (few-next list n x b at few)

pub limit-linked : (list : EntryList) (n : ℕ) (x : Linked) (b c : Both) → c ≡ with_next list x b → HadFew n b → c.limit ≡ b.limit
limit-linked Priority n x b c e few = ap (λ d. d.limit) e
limit-linked Overflow n x b c e few = ap (λ d. d.limit) e

pub slots-linked : (list : EntryList) (n : ℕ) (x : Linked) (b c : Both) → c ≡ with_next list x b → HadFew n b → c.slots ≡ b.slots
slots-linked Priority n x b c e few = ap (λ d. d.slots) e
slots-linked Overflow n x b c e few = ap (λ d. d.slots) e

fewer : (me : Handle) (xs : List Linked) → length (unlinked me xs) ≤ length xs
fewer me xs =
    let p = λ (x : Linked). not (same_handle x.handle me) in
    omega (arith, length-filter p xs, count_by-le-length p xs)

pub few-unlinked : (me : Handle) (n : ℕ) (b c : Both) → c ≡ without_entry me b → HadFew n b → HadFew n c
few-unlinked me n b c e few =
    let p = λ (x : Linked). not (same_handle x.handle me) in
    rw e (record {
      count = omega (arith, fewer me b.priority, fewer me b.overflow, few.count);
      appended = few.appended;
      priority = All-filter p (IsBelow n) b.priority few.priority;
      overflow = All-filter p (IsBelow n) b.overflow few.overflow;
    })
