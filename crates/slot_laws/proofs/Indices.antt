-- Portal table indices and their lists of entries under renamed handles.
use Rattle.std.proofs.Common.{◌≡◌, ℕ, ◌+◌, true, false, ◌||◌, not, List, [], ◌∷◌, map, fold}
use Rattle.std.proofs.Common.{sum_by, cond, Option, Some, None, refl, ap, ap₂, ◌∙◌, option_map}
use Rattle.std.proofs.lemmas.List.{length-map}
use Rattle.std.proofs.Math.ListN.{get_or-map}
use Rattle.ptl_types.specs.declared.handles.Handle.{Handle}
use Rattle.ptl_types.specs.declared.entries.List.{List as EntryList}
use Rattle.ptl_types.specs.declared.entries.List.TheVariants.{Priority, Overflow}
use Rattle.ptl_types.specs.Handles.{same_handle}
use Rattle.ni_model.specs.declared.Linked.{Linked}
use Rattle.ni_model.specs.Lists.{Index, advance_one, advanced, entries_in, index_at, is_linked, is_linked_at, list_of}
use Rattle.ni_model.specs.Lists.{queue_of, unlinked, with_list}
use Rattle.ni_model.specs.Arrive.{Side}
use Rattle.ni_model.specs.Append.{linked_count, queue_at}
use Rattle.slot_laws.specs.Renaming.{IsRenaming, KeepsApart, Renaming}
use Rattle.slot_laws.specs.Renamed.{renamed_index, renamed_indices, renamed_linked, renamed_side}
use Rattle.slot_laws.proofs.Base.{filter_mapped, mapped_twice}

-- ---- lists that are mapped

sum_from_mapped : {A B : Type 0} (p : B → ℕ) (q : A → ℕ) (h : A → B) → ((x : A) → p (h x) ≡ q x) → (n : ℕ) (xs : List A) →
    fold (λ a x. a + p x) n (map h xs) ≡ fold (λ a x. a + q x) n xs
sum_from_mapped p q h same n [] = refl
sum_from_mapped p q h same n (x ∷ xs) =
    ap (λ y. fold (λ a z. a + p z) (n + y) (map h xs)) (same x) ∙ sum_from_mapped p q h same (n + q x) xs

pub sum_by_mapped : {A B : Type 0} (p : B → ℕ) (q : A → ℕ) (h : A → B) → ((x : A) → p (h x) ≡ q x) → (xs : List A) →
    sum_by p (map h xs) ≡ sum_by q xs
sum_by_mapped p q h same xs = sum_from_mapped p q h same 0 xs

-- ---- what stands at an index

pub index_at_renamed : (r : Renaming) (pt : ℕ) (is : List (Option Index)) →
    index_at pt (renamed_indices r is) ≡ option_map (renamed_index r) (index_at pt is)
index_at_renamed r pt is = get_or-map (option_map (renamed_index r)) is pt None

pub queue_of_renamed : (r : Renaming) (o : Option Index) → queue_of (option_map (renamed_index r) o) ≡ option_map r.eq (queue_of o)
queue_of_renamed r None = refl
queue_of_renamed r (Some i) = refl

pub queue_of_index_renamed : (r : Renaming) (pt : ℕ) (is : List (Option Index)) →
    queue_of (index_at pt (renamed_indices r is)) ≡ option_map r.eq (queue_of (index_at pt is))
queue_of_index_renamed r pt is = ap queue_of (index_at_renamed r pt is) ∙ queue_of_renamed r (index_at pt is)

pub queue_at_renamed : (r : Renaming) (pt : ℕ) (s : Side) → queue_at pt (renamed_side r s) ≡ option_map r.eq (queue_at pt s)
queue_at_renamed r pt s = queue_of_index_renamed r pt s.indices

-- ---- lists of entries

pub is_linked_renamed : (r : Renaming) → IsRenaming r → (me : Handle) (xs : List Linked) →
    is_linked (r.me me) (map (renamed_linked r) xs) ≡ is_linked me xs
is_linked_renamed r is me [] = refl
is_linked_renamed r is me (x ∷ xs) = ap₂ (λ a b. a || b) (is.me.same x.handle me) (is_linked_renamed r is me xs)

pub list_of_renamed : (r : Renaming) (list : EntryList) (i : Index) →
    list_of list (renamed_index r i) ≡ map (renamed_linked r) (list_of list i)
list_of_renamed r Priority i = refl
list_of_renamed r Overflow i = refl

pub is_linked_at_renamed : (r : Renaming) → IsRenaming r → (list : EntryList) (me : Handle) (o : Option Index) →
    is_linked_at list (r.me me) (option_map (renamed_index r) o) ≡ is_linked_at list me o
is_linked_at_renamed r is list me None = refl
is_linked_at_renamed r is list me (Some i) =
    ap (is_linked (r.me me)) (list_of_renamed r list i) ∙ is_linked_renamed r is me (list_of list i)

pub unlinked_renamed : (r : Renaming) → KeepsApart r.me → (me : Handle) (xs : List Linked) →
    unlinked (r.me me) (map (renamed_linked r) xs) ≡ map (renamed_linked r) (unlinked me xs)
unlinked_renamed r is me xs =
    filter_mapped (λ x. not (same_handle x.handle (r.me me))) (λ x. not (same_handle x.handle me)) (renamed_linked r)
    (λ x. ap not (is.same x.handle me)) xs

advance_one_renamed : (r : Renaming) → KeepsApart r.me → (me : Handle) (to : ℕ) (x : Linked) →
    advance_one (r.me me) to (renamed_linked r x) ≡ renamed_linked r (advance_one me to x)
advance_one_renamed r is me to x =
    rw (is.same x.handle me)
    (elim (same_handle x.handle me) as (λ b. cond b (record (renamed_linked r x) { running = to }) (renamed_linked r x)
    ≡ renamed_linked r (cond b (record x { running = to }) x)) [
      | true ↦ refl
      | false ↦ refl
    ])

pub advanced_renamed : (r : Renaming) → KeepsApart r.me → (me : Handle) (to : ℕ) (xs : List Linked) →
    advanced (r.me me) to (map (renamed_linked r) xs) ≡ map (renamed_linked r) (advanced me to xs)
advanced_renamed r is me to xs =
    mapped_twice (advance_one (r.me me) to) (renamed_linked r) (renamed_linked r) (advance_one me to) (advance_one_renamed r is me to) xs

-- one list of an index changed in a way that commutes
pub with_list_renamed : (r : Renaming) (list : EntryList) (f g : List Linked → List Linked) →
    ((xs : List Linked) → f (map (renamed_linked r) xs) ≡ map (renamed_linked r) (g xs)) → (i : Index) →
    with_list list f (renamed_index r i) ≡ renamed_index r (with_list list g i)
with_list_renamed r Priority f g same i = ap (λ xs. record (renamed_index r i) { priority = xs }) (same i.priority)
with_list_renamed r Overflow f g same i = ap (λ xs. record (renamed_index r i) { overflow = xs }) (same i.overflow)

pub entries_in_renamed : (r : Renaming) (o : Option Index) → entries_in (option_map (renamed_index r) o) ≡ entries_in o
entries_in_renamed r None = refl
entries_in_renamed r (Some i) =
    ap₂ (λ a b. a + b) (length-map i.priority (renamed_linked r)) (length-map i.overflow (renamed_linked r))

pub linked_count_renamed : (r : Renaming) (s : Side) → linked_count (renamed_side r s) ≡ linked_count s
linked_count_renamed r s = sum_by_mapped entries_in entries_in (option_map (renamed_index r)) (entries_in_renamed r) s.indices
