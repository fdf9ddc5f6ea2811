-- What holds of each linked entry through each change of the entries, as that its part lies in the region; the region keeps its length.
use Rattle.std.proofs.Common.{◌≡◌, ℕ, ◌+◌, ◌/◌, ◌≤◌, true, false, not, List, Option, Some, None, take, length, if◌then◌else◌, refl, arith}
use Rattle.std.proofs.Common.{div-add-mod'}
use Rattle.std.specs.Prelude.{All, map, slice_set}
use Rattle.std.proofs.lemmas.List.{length-take}
use Rattle.std.proofs.lemmas.List.Elements.{All-push, All-nil, All-filter, All-map, All-set, All-weaker}
use Rattle.op_laws.proofs.Bytes.{length-written, length-by_element}
use Rattle.ptl_types.specs.declared.handles.Handle.{Handle}
use Rattle.ptl_types.specs.declared.headers.Header.{Header}
use Rattle.ptl_types.specs.declared.headers.MessageKind.{MessageKind}
use Rattle.ptl_types.specs.declared.headers.MessageKind.TheVariants.{Atomic, FetchAtomic, Swap}
use Rattle.ptl_types.specs.declared.elements.ElemType.{ElemType}
use Rattle.ptl_types.specs.declared.elements.AtomicOp.{AtomicOp}
use Rattle.ptl_types.specs.declared.elements.SwapOp.{SwapOp}
use Rattle.ptl_types.specs.declared.entries.List.{List as EntryList}
use Rattle.ptl_types.specs.declared.entries.List.TheVariants.{Priority, Overflow}
use Rattle.ptl_types.specs.Handles.{same_handle}
use Rattle.ptl_types.specs.Operations.{bytes_of, op, swapped}
use Rattle.ptl_types.specs.Elements.{by_element, part, written}
use Rattle.ptl_types.specs.Messages.{Sent}
use Rattle.ni_model.specs.declared.Linked.{Linked}
use Rattle.ni_model.specs.declared.Found.{Found}
use Rattle.ni_model.specs.Lists.{Index, index_at, unlinked, advanced, advance_one}
use Rattle.ni_model.specs.Arrive.{writes, combined_by, swapped_by, new_bytes, old_bytes, memory_after, delivered, place, entries_after}
use Rattle.ni_model.specs.Arrive.{is_over, running_after, updated, updated_at, indices_after}
use Rattle.ni_model.specs.Append.{linked_at}
use Rattle.ni_model.specs.Calls.{new_index, unlinked_in}
use Rattle.ni_model.specs.Conditions.{IsPartIn, HasPartsIn}
use Rattle.target_engine.proofs.Exchanging.{place-within}
use Rattle.target_engine.proofs.Within.{at_has}
use Rattle.portals_ni.specs.Lasting.{HasEntries}

-- ---- the region keeps its length

part-le : (at n : ℕ) (xs : List ℕ) → length (part at n xs) ≤ n
part-le at n xs = rw length-take (omega arith)

elements-le : (f : ℕ → ℕ → ℕ) (w d : ℕ) (xs ys : List ℕ) → length xs ≤ d → length (by_element f w (length xs / w) xs ys) ≤ d
elements-le f w d xs ys le = rw length-by_element (omega (arith, div-add-mod' (length xs) w))

combined-le : (o : Option AtomicOp) (ty : ElemType) (d : ℕ) (old new : List ℕ) → length old ≤ d → length (combined_by o ty old new) ≤ d
combined-le None ty d old new le = le
combined-le (Some o) ty d old new le = elements-le (op o ty) (bytes_of ty) d old new le

swapped-le : (o : Option SwapOp) (h : Header) (d : ℕ) (old new : List ℕ) → length old ≤ d → length (swapped_by o h old new) ≤ d
swapped-le None h d old new le = le
swapped-le (Some s) h d old new le = elements-le (swapped s h.ty h.operand) (bytes_of h.ty) d old new le

new-le : (kind : MessageKind) (h : Header) (d : ℕ) (old new : List ℕ) → length old ≤ d → length new ≤ d →
    length (new_bytes kind h old new) ≤ d
new-le Atomic h d old new lo ln = combined-le h.op h.ty d old new lo
new-le FetchAtomic h d old new lo ln = combined-le h.op h.ty d old new lo
new-le Swap h d old new lo ln = swapped-le h.swap h d old new lo
new-le _ h d old new lo ln = ln

first-le : (n : ℕ) (xs : List ℕ) → length (take n xs) ≤ n
first-le n xs = rw length-take (omega arith)

written-within : (x : Linked) (m : Sent) (r : List ℕ) → IsPartIn (length r) x →
    length (written (place x m.header) (new_bytes m.header.kind m.header (old_bytes x m.header r) (take (delivered x m.header) m.bytes))
    r) ≡ length r
written-within x m r part =
    let within : place x m.header + delivered x m.header ≤ length r = place-within (length r) x m.header part in
    let at_most : length (new_bytes m.header.kind m.header (old_bytes x m.header r) (take (delivered x m.header) m.bytes)) ≤ delivered x
    m.header = new-le m.header.kind m.header (delivered x m.header) (old_bytes x m.header r) (take (delivered x m.header) m.bytes)
    (part-le (place x m.header) (delivered x m.header) r) (first-le (delivered x m.header) m.bytes) in
    length-written (place x m.header) _ r (omega arith)

pub length-memory : (x : Linked) (m : Sent) (r : List ℕ) → IsPartIn (length r) x → length (memory_after x m r) ≡ length r
length-memory x m r part =
    elim (writes m.header.kind) as (λ b. length (if b then written (place x m.header)
    (new_bytes m.header.kind m.header (old_bytes x m.header r) (take (delivered x m.header) m.bytes)) r else r) ≡ length r) [
      | true ↦ written-within x m r part
      | false ↦ refl
    ]

-- ---- the entries of one list, and what holds of each of them

-- what holds of an entry wherever its running offset stands
abbrev pub StaysAt : (Linked → Type 0) → Type 0
StaysAt P = (x : Linked) (to : ℕ) → P x → P (record x { running = to })

advanced-one : (P : Linked → Type 0) → StaysAt P → (me : Handle) (to : ℕ) (x : Linked) → P x → P (advance_one me to x)
advanced-one P stays me to x is = elim (same_handle x.handle me) as (λ b. P (if b then record x { running = to } else x))
    [ true ↦ stays x to is | false ↦ is ]

advanced-all : (P : Linked → Type 0) → StaysAt P → (me : Handle) (to : ℕ) (xs : List Linked) → All P xs → All P (advanced me to xs)
advanced-all P stays me to xs all = All-map P (advance_one me to) xs
    (All-weaker P (λ x. P (advance_one me to x)) (λ x is. advanced-one P stays me to x is) xs all)

entries-all : (P : Linked → Type 0) → StaysAt P → (x : Linked) (h : Header) (xs : List Linked) → All P xs → All P (entries_after x h xs)
entries-all P stays x h xs all =
    elim (is_over x h) as (λ b. All P (if b then unlinked x.handle xs else
    (if x.entry.manage_local then advanced x.handle (running_after x h) xs else xs))) [
      | true ↦ All-filter (λ y. not (same_handle y.handle x.handle)) P xs all
      | false ↦ elim x.entry.manage_local as (λ b. All P (if b then advanced x.handle (running_after x h) xs else xs)) [
        | true ↦ advanced-all P stays x.handle (running_after x h) xs all
        | false ↦ all
      ]
    ]

-- ---- those of an index

updated-entries : (P : Linked → Type 0) → StaysAt P → (f : Found) (h : Header) (o : Option Index) → HasEntries P o →
    HasEntries P (updated_at f h o)
updated-entries P stays f h None has = tt
updated-entries P stays f h (Some i) has =
    elim f.list as (λ l. HasEntries P (Some (updated (record f { list = l }) h i))) [
      | Priority ↦ (entries-all P stays f.linked h i.priority has.0, has.1)
      | Overflow ↦ (has.0, entries-all P stays f.linked h i.overflow has.1)
    ]

linked-entries : (P : Linked → Type 0) (list : EntryList) (x : Linked) (o : Option Index) → P x → HasEntries P o →
    HasEntries P (linked_at list x o)
linked-entries P list x None is has = tt
linked-entries P Priority x (Some i) is has = (All-push P i.priority x has.0 is, has.1)
linked-entries P Overflow x (Some i) is has = (has.0, All-push P i.overflow x has.1 is)

unlinked-entries : (P : Linked → Type 0) (me : Handle) (o : Option Index) → HasEntries P o → HasEntries P (unlinked_in me o)
unlinked-entries P me None has = tt
unlinked-entries P me (Some i) has = (
  All-filter (λ y. not (same_handle y.handle me)) P i.priority has.0,
  All-filter (λ y. not (same_handle y.handle me)) P i.overflow has.1,
)

-- ---- those of all indices

at-entries : (P : Linked → Type 0) (pt : ℕ) (is : List (Option Index)) → All (HasEntries P) is → HasEntries P (index_at pt is)
at-entries P pt is all = at_has (HasEntries P) is pt None all tt

-- after a request
pub indices-entries : (P : Linked → Type 0) → StaysAt P → (f : Found) (h : Header) (is : List (Option Index)) → All (HasEntries P) is →
    All (HasEntries P) (indices_after f h is)
indices-entries P stays f h is all = All-set (HasEntries P) is h.pt (updated_at f h (index_at h.pt is))
    (updated-entries P stays f h (index_at h.pt is) (at-entries P h.pt is all)) all

-- one entry more, and one fewer
pub append-entries : (P : Linked → Type 0) (pt : ℕ) (list : EntryList) (x : Linked) (is : List (Option Index)) → P x →
    All (HasEntries P) is → All (HasEntries P) (slice_set is pt (linked_at list x (index_at pt is)))
append-entries P pt list x is new all = All-set (HasEntries P) is pt (linked_at list x (index_at pt is))
    (linked-entries P list x (index_at pt is) new (at-entries P pt is all)) all

pub unlink-entries : (P : Linked → Type 0) (me : Handle) (is : List (Option Index)) → All (HasEntries P) is →
    All (HasEntries P) (map (unlinked_in me) is)
unlink-entries P me is all = All-map (HasEntries P) (unlinked_in me) is
    (All-weaker (HasEntries P) (λ o. HasEntries P (unlinked_in me o)) (λ o has. unlinked-entries P me o has) is all)

-- one index more, and one fewer
pub new-entries : (P : Linked → Type 0) (pt : ℕ) (eq : Option Handle) (is : List (Option Index)) → All (HasEntries P) is →
    All (HasEntries P) (slice_set is pt (Some (new_index eq)))
new-entries P pt eq is all = All-set (HasEntries P) is pt (Some (new_index eq)) (All-nil P, All-nil P) all

pub freed-entries : (P : Linked → Type 0) (pt : ℕ) (is : List (Option Index)) → All (HasEntries P) is →
    All (HasEntries P) (slice_set is pt None)
freed-entries P pt is all = All-set (HasEntries P) is pt None tt all

-- what follows for each entry
pub weaker-entries : (P Q : Linked → Type 0) → ((x : Linked) → P x → Q x) → (o : Option Index) → HasEntries P o → HasEntries Q o
weaker-entries P Q weaker None has = tt
weaker-entries P Q weaker (Some i) has = (All-weaker P Q weaker i.priority has.0, All-weaker P Q weaker i.overflow has.1)

-- ---- parts in the region

one-from : (n : ℕ) (o : Option Index) → HasPartsIn n o → HasEntries (IsPartIn n) o
one-from n None has = tt
one-from n (Some i) has = has

one-to : (n : ℕ) (o : Option Index) → HasEntries (IsPartIn n) o → HasPartsIn n o
one-to n None has = tt
one-to n (Some i) has = has

from : (n : ℕ) (is : List (Option Index)) → All (HasPartsIn n) is → All (HasEntries (IsPartIn n)) is
from n is all = All-weaker (HasPartsIn n) (HasEntries (IsPartIn n)) (one-from n) is all

to : (n : ℕ) (is : List (Option Index)) → All (HasEntries (IsPartIn n)) is → All (HasPartsIn n) is
to n is all = All-weaker (HasEntries (IsPartIn n)) (HasPartsIn n) (one-to n) is all

pub indices-parts : (n : ℕ) (f : Found) (h : Header) (is : List (Option Index)) → All (HasPartsIn n) is →
    All (HasPartsIn n) (indices_after f h is)
indices-parts n f h is all = to n (indices_after f h is) (indices-entries (IsPartIn n) (λ x at is. is) f h is (from n is all))

pub append-parts : (n pt : ℕ) (list : EntryList) (x : Linked) (is : List (Option Index)) → IsPartIn n x → All (HasPartsIn n) is →
    All (HasPartsIn n) (slice_set is pt (linked_at list x (index_at pt is)))
append-parts n pt list x is part all = to n (slice_set is pt (linked_at list x (index_at pt is)))
    (append-entries (IsPartIn n) pt list x is part (from n is all))

pub unlink-parts : (n : ℕ) (me : Handle) (is : List (Option Index)) → All (HasPartsIn n) is → All (HasPartsIn n) (map (unlinked_in me) is)
unlink-parts n me is all = to n (map (unlinked_in me) is) (unlink-entries (IsPartIn n) me is (from n is all))
