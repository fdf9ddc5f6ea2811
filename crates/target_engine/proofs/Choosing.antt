-- The entry that takes a message is the one that its handle names.
use Rattle.std.proofs.Common.{◌≡◌, ℕ, ◌+◌, ◌<◌, ◌≤◌, Bool, true, false, List, [], ◌∷◌, Option, Some, None, find, if◌then◌else◌, refl, ap}
use Rattle.std.proofs.Common.{arith}
use Rattle.ptl_types.specs.declared.handles.Handle.{Handle}
use Rattle.ptl_types.specs.declared.headers.Header.{Header}
use Rattle.ptl_types.specs.Handles.{same_handle}
use Rattle.ptl_types.specs.Kinds.{is_put_or_atomic}
use Rattle.ni_model.specs.declared.Linked.{Linked}
use Rattle.ni_model.specs.declared.Found.{Found}
use Rattle.ni_model.specs.declared.IndexedHeader.{IndexedHeader}
use Rattle.ni_model.specs.Tables.{Table}
use Rattle.ni_model.specs.Lists.{Index, index_at, fits}
use Rattle.ni_model.specs.Arrive.{or_else, chosen, chosen_at}
use Rattle.match_lists.specs.Lists.{is_named}
use Rattle.target_engine.specs.declared.entry_records.EntryRecord.{EntryRecord}
use Rattle.target_engine.specs.PortalTable.{entries_by, index_by, linked_in, AreRecorded}
use Rattle.target_engine.proofs.Counting.{is_handle, named-none}
use Rattle.target_engine.proofs.Recorded.{is_linked-some, at_most-here}
use Rattle.ni_objects.proofs.users.SumLemmas.{same-self}
use Rattle.target_engine.proofs.Within.{find-linked, cases_has}

other-one : (b : Bool) (n : ℕ) → (if b then 1 else 0) + n ≤ 1 → 0 < n → b ≡ false
other-one true n le lt = absurd (omega arith)
other-one false n le lt = refl

-- of entries with different handles
find-named : (p : Linked → Bool) (k : ℕ) (xs : List Linked) (x : Linked) → find p xs ≡ Some x → entries_by (is_handle x.handle) k xs ≤ 1 →
    find (is_named x.handle) xs ≡ Some x
find-named p k [] x e one = cc
find-named p k (y ∷ ys) x e one =
    elim (p y) as (λ b. (if b then Some y else find p ys) ≡ Some x → find (is_named x.handle) (y ∷ ys) ≡ Some x) [
      | true ↦ λ is. let g : y ≡ x = cc in let s : same_handle y.handle x.handle ≡ true = rw g (same-self x.handle) in
          rw s (ap (λ (z : Linked). Some z) g)
      | false ↦ λ is.
          let there = is_linked-some x.handle k ys (find-linked p ys x is) in
          let s : same_handle y.handle x.handle ≡ false = other-one (same_handle y.handle x.handle) (entries_by (is_handle x.handle) k ys)
          one there in
          rw s (find-named p k ys x is (omega (arith, one)))
    ] e

chosen_at-named : (h : Header) (k : ℕ) (o : Option Index) (f : Found) → ((me : Handle) → index_by (is_handle me) k o ≤ 1) →
    chosen_at h o ≡ Some f → linked_in f.linked.handle o ≡ Some f.linked
chosen_at-named h k None f at_most e = cc
chosen_at-named h k (Some i) f at_most e =
    cases_has (λ (x : Linked). linked_in x.handle (Some i) ≡ Some x) (is_put_or_atomic h.kind) (find (fits h) i.priority)
    (find (fits h) i.overflow) f
    (λ x is.
    let one = at_most x.handle in
    let named = find-named (fits h) k i.priority x is (omega arith) in
    ap (λ o. or_else o (find (is_named x.handle) i.overflow)) named)
    (λ x is.
    let one = at_most x.handle in
    let there = is_linked-some x.handle k i.overflow (find-linked (fits h) i.overflow x is) in
    let none : find (is_named x.handle) i.priority ≡ None = named-none x.handle k i.priority (omega arith) in
    let named : find (is_named x.handle) i.overflow ≡ Some x = find-named (fits h) k i.overflow x is (omega arith) in
    rw (none, named) refl)
    e

pub chosen-named : (h : Header) (is : List (Option Index)) (f : Found) (hs : List IndexedHeader) (t : Table EntryRecord) →
    AreRecorded is hs t → chosen h is ≡ Some f → linked_in f.linked.handle (index_at h.pt is) ≡ Some f.linked
chosen-named h is f hs t a e = chosen_at-named h h.pt (index_at h.pt is) f (λ me. at_most-here me h.pt is hs t a) e
