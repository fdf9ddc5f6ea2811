-- What unlinking an entry by its handle leaves of two lists.
use Rattle.std.proofs.Common.{◌≡◌, ℕ, suc, ◌+◌, ◌<◌, ◌≤◌, Bool, true, false, cond, nat_eq, nat_lt, ◌||◌, List, [], ◌∷◌, ◌++◌, find, length}
use Rattle.std.proofs.Common.{get_or, set, Option, Some, None, refl, sym, ap, subst, ◌∙◌, ◌⊎◌, inl, inr, append_assoc, append-nil, arith}
use Rattle.std.proofs.Common.{MutBor}
use Rattle.std.specs.Option.{option_copied_mut, is_some}
use Rattle.std.proofs.lemmas.Bool.{ne_eqb}
use Rattle.std.proofs.lemmas.Bool.Decides.{eqb_tells, nat_tests}
use Rattle.std.proofs.lemmas.List.{length-set, length-append, get_or_past}
use Rattle.ptl_types.specs.declared.handles.Handle.{Handle}
use Rattle.ptl_types.specs.declared.entries.List.{List as EntryList}
use Rattle.ptl_types.specs.declared.entries.List.TheVariants.{Priority, Overflow}
use Rattle.ptl_types.specs.Handles.{same_handle}
use Rattle.chain_list.specs.Chain.{Keyed, ChainList, chain_list, keyed, value_at, without, changed}
use Rattle.chain_list.specs.Chain.{Apart}
use Rattle.chain_list.proofs.ChainLemmas.{Apart-before, Apart-cut}
use Rattle.chain_list.proofs.KeyLemmas.{value-append, value-here, without-append, without-here, changed-append, changed-here}
use Rattle.ni_model.specs.declared.Linked.{Linked}
use Rattle.ni_model.specs.Lists.{unlinked, advanced, is_linked}
use Rattle.match_lists.specs.declared.lists.LinkedAt.{LinkedAt}
use Rattle.ni_model.specs.Arrive.{or_else}
use Rattle.match_lists.specs.Lists.{running_at, both, entries, values, is_named}
use Rattle.match_lists.specs.Slots.{Tagged, tag, tagged, slot_of, where_tagged, NoSlot, SlotsApart, where_slot, where_linked, same_list}
use Rattle.match_lists.specs.Fields.{all_of, IsLists}
use Rattle.match_lists.proofs.SlotLemmas.{NoSlot-cut, SlotsApart-remove, tagged-append, table-remove}

-- ---- handles
other_slot : (a b : Handle) → (a.slot ≡ b.slot → ⊥) → same_handle a b ≡ false
other_slot a b n =
    let apart : nat_eq a.slot b.slot ≡ false = ne_eqb a.slot b.slot n in
    elim (eqb_tells a.stamp b.stamp) [ inl t ↦ rw (t.0, apart) | inr f ↦ rw f.0 ]

same_slot : (a b : Handle) → same_handle a b ≡ true → a.slot ≡ b.slot
same_slot a b e = elim (eqb_tells a.slot b.slot) [ inl t ↦ t.1 | inr f ↦ let g = other_slot a b f.1 in cc ]

-- no entry has the handle
abbrev pub NoHandle : Handle → List (Keyed Linked) → Type 0
NoHandle h [] = Unit {0}
NoHandle h (x ∷ xs) = (same_handle x.value.handle h ≡ false) × NoHandle h xs

no_slot : (list : EntryList) (h : Handle) (xs : List (Keyed Linked)) → NoSlot h.slot (tagged list xs) → NoHandle h xs
no_slot list h [] n = tt
no_slot list h (x ∷ xs) n = (other_slot x.value.handle h n.0, no_slot list h xs n.1)

unlinked-none : (h : Handle) (xs : List (Keyed Linked)) → NoHandle h xs → unlinked h (values xs) ≡ values xs
unlinked-none h [] n = refl
unlinked-none h (x ∷ xs) n = rw n.0 (ap (λ r. x.value ∷ r) (unlinked-none h xs n.1))

unlinked-one : (h : Handle) (xs : List (Keyed Linked)) (x : Keyed Linked) (ys : List (Keyed Linked)) → NoHandle h xs →
    same_handle x.value.handle h ≡ true → NoHandle h ys
    → unlinked h (values (xs ++ x ∷ ys)) ≡ values (xs ++ ys)
unlinked-one h [] x ys m e n = rw e (unlinked-none h ys n)
unlinked-one h (z ∷ xs) x ys m e n = rw m.0 (ap (λ r. z.value ∷ r) (unlinked-one h xs x ys m.1 e n))

find-none : (h : Handle) (xs : List (Keyed Linked)) → NoHandle h xs → find (is_named h) (values xs) ≡ None
find-none h [] n = refl
find-none h (x ∷ xs) n = rw n.0 (find-none h xs n.1)

find-one : (h : Handle) (xs : List (Keyed Linked)) (x : Keyed Linked) (ys : List (Keyed Linked)) → NoHandle h xs →
    same_handle x.value.handle h ≡ true
    → find (is_named h) (values (xs ++ x ∷ ys)) ≡ Some x.value
find-one h [] x ys m e = rw e
find-one h (z ∷ xs) x ys m e = rw m.0 (find-one h xs x ys m.1 e)

-- ---- where the table says that the handle isn't linked
linked_at_test : (h : Handle) (p : LinkedAt) → where_linked h (Some p) ≡ None → same_handle p.handle h ≡ false
linked_at_test h p e = tested (same_handle p.handle h) p e
  where
    tested : (t : Bool) (p : LinkedAt) → cond t (Some p) None ≡ None → t ≡ false
    tested true p e = cc
    tested false p e = refl

linked_at_some : (h : Handle) (o : Option LinkedAt) (p : LinkedAt) → where_linked h o ≡ Some p → (o ≡ Some p) ×
    (same_handle p.handle h ≡ true)
linked_at_some h None p e = cc
linked_at_some h (Some q) p e = tested (same_handle q.handle h) q p refl e
  where
    tested : (t : Bool) (q p : LinkedAt) → same_handle q.handle h ≡ t → cond t (Some q) None ≡ Some p → (Some q ≡ Some p) ×
        (same_handle p.handle h ≡ true)
    tested true q p s e = let same : q ≡ p = cc in (e, subst (λ (r : LinkedAt). same_handle r.handle h ≡ true) same s)
    tested false q p s e = cc

absent-list : (list : EntryList) (h : Handle) (xs : List (Keyed Linked)) (rest : List Tagged) → SlotsApart (tagged list xs ++ rest) →
    where_linked h (where_slot h.slot (tagged list xs ++ rest)) ≡ None
    → NoHandle h xs
absent-list list h [] rest a e = tt
absent-list list h (x ∷ xs) rest a e = elim (eqb_tells x.value.handle.slot h.slot) [
  | inl t ↦ (
    linked_at_test h (where_tagged (tag list x)) (rw t.0 at e),
    no_slot list h xs (subst (λ s. NoSlot s (tagged list xs)) t.1 (NoSlot-cut x.value.handle.slot (tagged list xs) rest a.0).0),
  )
  | inr f ↦ (other_slot x.value.handle h f.1, absent-list list h xs rest a.1 (rw f.0 at e))
]

skip_list : (list : EntryList) (s : ℕ) (xs : List (Keyed Linked)) (rest : List Tagged) → SlotsApart (tagged list xs ++ rest) →
    (where_slot s (tagged list xs ++ rest) ≡ where_slot s rest) ⊎ NoSlot s rest
skip_list list s [] rest a = inl refl
skip_list list s (x ∷ xs) rest a = elim (eqb_tells x.value.handle.slot s) [
  | inl t ↦ inr (subst (λ i. NoSlot i rest) t.1 (NoSlot-cut x.value.handle.slot (tagged list xs) rest a.0).1)
  | inr f ↦ rw f.0 (skip_list list s xs rest a.1)
]

apart_rest : (xs ys : List Tagged) → SlotsApart (xs ++ ys) → SlotsApart ys
apart_rest [] ys a = a
apart_rest (x ∷ xs) ys a = apart_rest xs ys a.1

pub absent : (p o : ChainList Linked) (table : List (Option LinkedAt)) (limit slots : ℕ) (h : Handle) → IsLists p o table limit slots →
    where_linked h (get_or table h.slot None) ≡ None
    → (unlinked h (values p.entries) ≡ values p.entries) × (unlinked h (values o.entries) ≡ values o.entries)
    × (find (is_named h) (values p.entries) ≡ None) × (find (is_named h) (values o.entries) ≡ None)
absent p o table limit slots h l e =
    let none : where_linked h (where_slot h.slot (all_of p o)) ≡ None = subst (λ (x : Option LinkedAt). where_linked h x ≡ None)
    (l.tabled h.slot) e in
    let left = absent-list Priority h p.entries (tagged Overflow o.entries) l.apart none in
    let apart = apart_rest (tagged Priority p.entries) (tagged Overflow o.entries) l.apart in
    let right : NoHandle h o.entries = elim (skip_list Priority h.slot p.entries (tagged Overflow o.entries) l.apart) [
      | inl q ↦ absent-list Overflow h o.entries [] (subst (λ r. SlotsApart r) (sym (append-nil (tagged Overflow o.entries))) apart)
          (ap (λ r. where_linked h (where_slot h.slot r)) (append-nil (tagged Overflow o.entries)) ∙ ap (λ r. where_linked h r) (sym q)
          ∙ none)
      | inr n ↦ no_slot Overflow h o.entries n
    ] in
    (unlinked-none h p.entries left, unlinked-none h o.entries right, find-none h p.entries left, find-none h o.entries right)

-- ---- where the table says that it is
pub slot-below : (p o : ChainList Linked) (table : List (Option LinkedAt)) (limit slots : ℕ) (h : Handle) (linked_at : LinkedAt) →
    IsLists p o table limit slots
    → where_linked h (get_or table h.slot None) ≡ Some linked_at → h.slot < slots
slot-below p o table limit slots h linked_at l e =
    elim (nat_lt h.slot (length table)) as (λ b. nat_lt h.slot (length table) ≡ b → h.slot < slots) [
      | true ↦ λ t. let lt : h.slot < length table = grind (arith, nat_tests) in omega (arith, l.long)
      | false ↦ λ t.
          let past : length table ≤ h.slot = grind (arith, nat_tests) in
          let none = ap (where_linked h) (get_or_past table h.slot None past) in
          let same : None ≡ Some linked_at = sym none ∙ e in
          cc
    ] refl

pub record IsIn (list : EntryList) (xs : List (Keyed Linked)) (linked_at : LinkedAt) : Type 0 where
  pub before : List (Keyed Linked)
  pub entry : Keyed Linked
  pub behind : List (Keyed Linked)
  pub is : xs ≡ before ++ entry ∷ behind
  pub linked_at_is : linked_at ≡ where_tagged (tag list entry)

found_in : (list : EntryList) (s : ℕ) (xs : List (Keyed Linked)) (rest : List Tagged) (linked_at : LinkedAt) →
    where_slot s (tagged list xs ++ rest) ≡ Some linked_at → IsIn list xs linked_at ⊎ (where_slot s rest ≡ Some linked_at)
found_in list s [] rest linked_at e = inr e
found_in list s (x ∷ xs) rest linked_at e = elim (eqb_tells x.value.handle.slot s) [
  | inl t ↦ let found : Some (where_tagged (tag list x)) ≡ Some linked_at = rw t.0 at e in
      let same : linked_at ≡ where_tagged (tag list x) = cc in
      inl (record { before = []; entry = x; behind = xs; is = refl; linked_at_is = same })
  | inr f ↦ elim (found_in list s xs rest linked_at (rw f.0 at e)) [
    | inl r ↦ inl (record {
      before = x ∷ r.before;
      entry = r.entry;
      behind = r.behind;
      is = ap (λ l. x ∷ l) r.is;
      linked_at_is =
          r.linked_at_is;
    })
    | inr r ↦ inr r
  ]
]

in_priority : (s : ℕ) (ps os : List (Keyed Linked)) (linked_at : LinkedAt) → where_slot s (tagged Priority ps ++ tagged Overflow os)
    ≡ Some linked_at → linked_at.list ≡ Priority → IsIn Priority ps linked_at
in_priority s ps os linked_at e l = elim (found_in Priority s ps (tagged Overflow os) linked_at e) [
  | inl r ↦ r
  | inr q ↦ elim (found_in Overflow s os [] linked_at (ap (λ r. where_slot s r) (append-nil (tagged Overflow os)) ∙ q)) [
    | inl r ↦ let other : Priority ≡ Overflow = sym l ∙ ap (λ (k : LinkedAt). k.list) r.linked_at_is in cc
    | inr r ↦ cc
  ]
]

in_overflow : (s : ℕ) (ps os : List (Keyed Linked)) (linked_at : LinkedAt) → where_slot s (tagged Priority ps ++ tagged Overflow os)
    ≡ Some linked_at → linked_at.list ≡ Overflow → IsIn Overflow os linked_at
in_overflow s ps os linked_at e l = elim (found_in Priority s ps (tagged Overflow os) linked_at e) [
  | inl r ↦ let other : Overflow ≡ Priority = sym l ∙ ap (λ (k : LinkedAt). k.list) r.linked_at_is in cc
  | inr q ↦ elim (found_in Overflow s os [] linked_at (ap (λ r. where_slot s r) (append-nil (tagged Overflow os)) ∙ q)) [
    | inl r ↦ r
    | inr r ↦ cc
  ]
]

-- what a chain does with the key
chain_key : (list : EntryList) (xs : List (Keyed Linked)) (linked_at : LinkedAt) (r : IsIn list xs linked_at) → Apart xs →
    (value_at linked_at.key xs ≡ Some r.entry.value) × (without linked_at.key xs ≡ r.before ++ r.behind)
chain_key list xs linked_at r a =
    let key : linked_at.key ≡ r.entry.key = ap (λ (k : LinkedAt). k.key) r.linked_at_is in
    let parts : Apart (r.before ++ r.entry ∷ r.behind) = subst (λ l. Apart l) r.is a in
    let away = Apart-before r.before r.entry r.behind parts in
    let behind = (Apart-cut r.before (r.entry ∷ r.behind) parts).1.0 in (
      (λ i. value_at (key i) (r.is i)) ∙ value-append r.entry.key r.before (r.entry ∷ r.behind) away ∙ value-here r.entry r.behind,
      (λ i. without (key i) (r.is i)) ∙ without-append r.entry.key r.before (r.entry ∷ r.behind) away
          ∙ ap (λ l. r.before ++ l) (without-here r.entry r.behind behind),
    )

pub record Unlinks (xs : List (Keyed Linked)) (h : Handle) (others : List (Keyed Linked)) (linked_at : LinkedAt) : Type 0 where
  pub value : Linked
  pub value_is : value_at linked_at.key xs ≡ Some value
  pub named_is : find (is_named h) (values xs) ≡ Some value
  pub list_is : values (without linked_at.key xs) ≡ unlinked h (values xs)
  pub others_are : unlinked h (values others) ≡ values others
  pub others_lack : find (is_named h) (values others) ≡ None

pub unlink-priority : (p o : ChainList Linked) (table : List (Option LinkedAt)) (limit slots given : ℕ) (h : Handle)
    (linked_at : LinkedAt) → IsLists p o table limit slots → Apart p.entries
    → where_linked h (get_or table h.slot None) ≡ Some linked_at → linked_at.list ≡ Priority → h.slot < slots
    → IsLists (chain_list (without linked_at.key p.entries) (p.spare + 1) given) o (set table h.slot None) limit slots ×
    Unlinks p.entries h o.entries linked_at
unlink-priority p o table limit slots given h linked_at l a e list lt =
    let some = linked_at_some h (get_or table h.slot None) linked_at e in
    let r = in_priority h.slot p.entries o.entries linked_at (sym (l.tabled h.slot) ∙ some.0) list in
    let t = tag Priority r.entry in
    let named : same_handle r.entry.value.handle h ≡ true = subst (λ (k : LinkedAt). same_handle k.handle h ≡ true) r.linked_at_is some.1 in
    let slot : r.entry.value.handle.slot ≡ h.slot = same_slot r.entry.value.handle h named in
    let rest = tagged Priority r.behind ++ tagged Overflow o.entries in
    let all : all_of p o ≡ tagged Priority r.before ++ t ∷ rest =
    ap (λ xs. tagged Priority xs ++ tagged Overflow o.entries) r.is
    ∙ ap (λ xs. xs ++ tagged Overflow o.entries) (tagged-append Priority r.before (r.entry ∷ r.behind))
    ∙ append_assoc (tagged Priority r.before) (t ∷ tagged Priority r.behind) (tagged Overflow o.entries) in
    let key = chain_key Priority p.entries linked_at r a in
    let left : tagged Priority (without linked_at.key p.entries) ++ tagged Overflow o.entries ≡ tagged Priority r.before ++ rest =
    ap (λ xs. tagged Priority xs ++ tagged Overflow o.entries) key.1
    ∙ ap (λ xs. xs ++ tagged Overflow o.entries) (tagged-append Priority r.before r.behind)
    ∙ append_assoc (tagged Priority r.before) (tagged Priority r.behind) (tagged Overflow o.entries) in
    let away = (SlotsApart-remove (tagged Priority r.before) t rest (subst (λ xs. SlotsApart xs) all l.apart)).1 in
    let cut = NoSlot-cut (slot_of t) (tagged Priority r.before) rest away in
    let more = NoSlot-cut (slot_of t) (tagged Priority r.behind) (tagged Overflow o.entries) cut.1 in
    let before = no_slot Priority h r.before (subst (λ s. NoSlot s (tagged Priority r.before)) slot cut.0) in
    let behind = no_slot Priority h r.behind (subst (λ s. NoSlot s (tagged Priority r.behind)) slot more.0) in
    let others = no_slot Overflow h o.entries (subst (λ s. NoSlot s (tagged Overflow o.entries)) slot more.1) in
    let made = table-remove table (tagged Priority r.before) t rest (all_of p o)
    (tagged Priority (without linked_at.key p.entries) ++ tagged Overflow o.entries) all left l.apart (omega (arith, slot, l.long))
    l.tabled in (
      record {
        room = omega (
          arith,
          l.room,
          ap length r.is,
          ap length key.1,
          length-append r.before (r.entry ∷ r.behind),
          length-append r.before r.behind,
        );
        overflow_room = l.overflow_room;
        long = length-set table h.slot (nowhere) ∙ l.long;
        apart = made.0;
        tabled = subst (λ i. (s : ℕ) → get_or (set table i None) s None ≡ where_slot s
            (tagged Priority (without linked_at.key p.entries) ++ tagged Overflow o.entries)) slot made.1;
      },
      record {
        value = r.entry.value;
        value_is = key.0;
        named_is = ap (λ xs. find (is_named h) (values xs)) r.is ∙ find-one h r.before r.entry r.behind before named;
        list_is = ap values key.1 ∙ sym (ap (λ xs. unlinked h (values xs)) r.is ∙ unlinked-one h r.before r.entry r.behind before named
            behind);
        others_are = unlinked-none h o.entries others;
        others_lack = find-none h o.entries others;
      },
    )
  where
    nowhere : Option LinkedAt
    nowhere = None

pub unlink-overflow : (p o : ChainList Linked) (table : List (Option LinkedAt)) (limit slots given : ℕ) (h : Handle)
    (linked_at : LinkedAt) → IsLists p o table limit slots → Apart o.entries
    → where_linked h (get_or table h.slot None) ≡ Some linked_at → linked_at.list ≡ Overflow → h.slot < slots
    → IsLists p (chain_list (without linked_at.key o.entries) (o.spare + 1) given) (set table h.slot None) limit slots ×
    Unlinks o.entries h p.entries linked_at
unlink-overflow p o table limit slots given h linked_at l a e list lt =
    let some = linked_at_some h (get_or table h.slot None) linked_at e in
    let r = in_overflow h.slot p.entries o.entries linked_at (sym (l.tabled h.slot) ∙ some.0) list in
    let t = tag Overflow r.entry in
    let named : same_handle r.entry.value.handle h ≡ true = subst (λ (k : LinkedAt). same_handle k.handle h ≡ true) r.linked_at_is some.1 in
    let slot : r.entry.value.handle.slot ≡ h.slot = same_slot r.entry.value.handle h named in
    let first = tagged Priority p.entries in
    let front = first ++ tagged Overflow r.before in
    let back = tagged Overflow r.behind in
    let all : all_of p o ≡ front ++ t ∷ back =
    ap (λ xs. first ++ tagged Overflow xs) r.is ∙ ap (λ xs. first ++ xs) (tagged-append Overflow r.before (r.entry ∷ r.behind))
    ∙ sym (append_assoc first (tagged Overflow r.before) (t ∷ back)) in
    let key = chain_key Overflow o.entries linked_at r a in
    let left : first ++ tagged Overflow (without linked_at.key o.entries) ≡ front ++ back =
    ap (λ xs. first ++ tagged Overflow xs) key.1 ∙ ap (λ xs. first ++ xs) (tagged-append Overflow r.before r.behind)
    ∙ sym (append_assoc first (tagged Overflow r.before) back) in
    let away = (SlotsApart-remove front t back (subst (λ xs. SlotsApart xs) all l.apart)).1 in
    let cut = NoSlot-cut (slot_of t) front back away in
    let more = NoSlot-cut (slot_of t) first (tagged Overflow r.before) cut.0 in
    let others = no_slot Priority h p.entries (subst (λ s. NoSlot s first) slot more.0) in
    let before = no_slot Overflow h r.before (subst (λ s. NoSlot s (tagged Overflow r.before)) slot more.1) in
    let behind = no_slot Overflow h r.behind (subst (λ s. NoSlot s back) slot cut.1) in
    let made = table-remove table front t back (all_of p o) (first ++ tagged Overflow (without linked_at.key o.entries)) all left l.apart
    (omega (arith, slot, l.long)) l.tabled in (
      record {
        room = l.room;
        overflow_room = omega (
          arith,
          l.overflow_room,
          ap length r.is,
          ap length key.1,
          length-append r.before (r.entry ∷ r.behind),
          length-append r.before r.behind,
        );
        long = length-set table h.slot (nowhere) ∙ l.long;
        apart = made.0;
        tabled = subst (λ i. (s : ℕ) → get_or (set table i None) s None ≡ where_slot s
            (first ++ tagged Overflow (without linked_at.key o.entries))) slot made.1;
      },
      record {
        value = r.entry.value;
        value_is = key.0;
        named_is = ap (λ xs. find (is_named h) (values xs)) r.is ∙ find-one h r.before r.entry r.behind before named;
        list_is = ap values key.1 ∙ sym (ap (λ xs. unlinked h (values xs)) r.is ∙ unlinked-one h r.before r.entry r.behind before named
            behind);
        others_are = unlinked-none h p.entries others;
        others_lack = find-none h p.entries others;
      },
    )
  where
    nowhere : Option LinkedAt
    nowhere = None

-- ---- the same, by what the calls say
pub taken-priority : (p p' o : ChainList Linked) (table : List (Option LinkedAt)) (limit slots : ℕ) (h : Handle) (linked_at : LinkedAt)
    (x : Linked) → IsLists p o table limit slots → Apart p.entries
    → where_linked h (get_or table h.slot None) ≡ Some linked_at → linked_at.list ≡ Priority → h.slot < slots →
    Some x ≡ value_at linked_at.key p.entries → p' ≡ chain_list (without linked_at.key p.entries) (p.spare + 1) p.given
    → IsLists p' o (set table h.slot None) limit slots × (or_else (find (is_named h) (values p.entries))
    (find (is_named h) (values o.entries)) ≡ Some x)
    × (both (values p'.entries) (values o.entries) limit slots (p'.given + o.given) ≡ both (unlinked h (values p.entries))
    (unlinked h (values o.entries)) limit slots (p.given + o.given))
taken-priority p p' o table limit slots h linked_at x l a e list lt found left =
    let u = unlink-priority p o table limit slots p.given h linked_at l a e list lt in
    let same : Some x ≡ Some u.1.value = found ∙ u.1.value_is in (
      subst (λ q. IsLists q o (set table h.slot None) limit slots) (sym left) u.0,
      ap (λ f. or_else f (find (is_named h) (values o.entries))) u.1.named_is ∙ sym same,
      ap (λ (q : ChainList Linked). both (values q.entries) (values o.entries) limit slots (q.given + o.given)) left
          ∙ (λ i. both (u.1.list_is i) (sym u.1.others_are i) limit slots (p.given + o.given)),
    )

pub taken-overflow : (p o o' : ChainList Linked) (table : List (Option LinkedAt)) (limit slots : ℕ) (h : Handle) (linked_at : LinkedAt)
    (x : Linked) → IsLists p o table limit slots → Apart o.entries
    → where_linked h (get_or table h.slot None) ≡ Some linked_at → linked_at.list ≡ Overflow → h.slot < slots →
    Some x ≡ value_at linked_at.key o.entries → o' ≡ chain_list (without linked_at.key o.entries) (o.spare + 1) o.given
    → IsLists p o' (set table h.slot None) limit slots × (or_else (find (is_named h) (values p.entries))
    (find (is_named h) (values o.entries)) ≡ Some x)
    × (both (values p.entries) (values o'.entries) limit slots (p.given + o'.given) ≡ both (unlinked h (values p.entries))
    (unlinked h (values o.entries)) limit slots (p.given + o.given))
taken-overflow p o o' table limit slots h linked_at x l a e list lt found left =
    let u = unlink-overflow p o table limit slots o.given h linked_at l a e list lt in
    let same : Some x ≡ Some u.1.value = found ∙ u.1.value_is in (
      subst (λ q. IsLists p q (set table h.slot None) limit slots) (sym left) u.0,
      (λ i. or_else (u.1.others_lack i) (u.1.named_is i)) ∙ sym same,
      ap (λ (q : ChainList Linked). both (values p.entries) (values q.entries) limit slots (p.given + q.given)) left
          ∙ (λ i. both (sym u.1.others_are i) (u.1.list_is i) limit slots (p.given + o.given)),
    )

-- ---- another running offset
advanced-none : (h : Handle) (to : ℕ) (xs : List (Keyed Linked)) → NoHandle h xs → advanced h to (values xs) ≡ values xs
advanced-none h to [] n = refl
advanced-none h to (x ∷ xs) n = (λ i. cond (n.0 i) (record { handle = x.value.handle; running = to; entry = x.value.entry }) x.value
    ∷ advanced-none h to xs n.1 i)

advanced-one : (h : Handle) (to : ℕ) (xs : List (Keyed Linked)) (x : Keyed Linked) (ys : List (Keyed Linked)) → NoHandle h xs →
    same_handle x.value.handle h ≡ true → NoHandle h ys
    → advanced h to (values (xs ++ x ∷ ys)) ≡ values (xs ++ keyed x.key
    (record { handle = x.value.handle; running = to; entry = x.value.entry }) ∷ ys)
advanced-one h to [] x ys m e n = (λ i. cond (e i) (record { handle = x.value.handle; running = to; entry = x.value.entry }) x.value
    ∷ advanced-none h to ys n i)
advanced-one h to (z ∷ xs) x ys m e n = (λ i. cond (m.0 i) (record { handle = z.value.handle; running = to; entry = z.value.entry })
    z.value ∷ advanced-one h to xs x ys m.1 e n i)

-- an entry is replaced by one of its handle and key
NoSlot-swap : (s : ℕ) (xs : List Tagged) (t u : Tagged) (ys : List Tagged) → where_tagged t ≡ where_tagged u → NoSlot s (xs ++ t ∷ ys) →
    NoSlot s (xs ++ u ∷ ys)
NoSlot-swap s [] t u ys e n = ((λ q. n.0 (ap (λ (k : LinkedAt). k.handle.slot) e ∙ q)), n.1)
NoSlot-swap s (x ∷ xs) t u ys e n = (n.0, NoSlot-swap s xs t u ys e n.1)

SlotsApart-swap : (xs : List Tagged) (t u : Tagged) (ys : List Tagged) → where_tagged t ≡ where_tagged u → SlotsApart (xs ++ t ∷ ys) →
    SlotsApart (xs ++ u ∷ ys)
SlotsApart-swap [] t u ys e a = (subst (λ (k : LinkedAt). NoSlot k.handle.slot ys) e a.0, a.1)
SlotsApart-swap (x ∷ xs) t u ys e a = (NoSlot-swap (slot_of x) xs t u ys e a.0, SlotsApart-swap xs t u ys e a.1)

linked_at-swap : (s : ℕ) (xs : List Tagged) (t u : Tagged) (ys : List Tagged) → where_tagged t ≡ where_tagged u →
    where_slot s (xs ++ t ∷ ys) ≡ where_slot s (xs ++ u ∷ ys)
linked_at-swap s [] t u ys e = ap (λ (k : LinkedAt). cond (nat_eq k.handle.slot s) (Some k) (where_slot s ys)) e
linked_at-swap s (x ∷ xs) t u ys e = ap (λ r. cond (nat_eq (slot_of x) s) (Some (where_tagged x)) r) (linked_at-swap s xs t u ys e)

length-swap : (xs : List (Keyed Linked)) (x y : Keyed Linked) (ys : List (Keyed Linked)) → length (xs ++ x ∷ ys) ≡ length (xs ++ y ∷ ys)
length-swap [] x y ys = refl
length-swap (z ∷ xs) x y ys = ap (λ n. suc n) (length-swap xs x y ys)

changed_key : (list : EntryList) (xs : List (Keyed Linked)) (linked_at : LinkedAt) (r : IsIn list xs linked_at) (w : Linked) → Apart xs →
    changed linked_at.key w xs ≡ r.before ++ keyed r.entry.key w ∷ r.behind
changed_key list xs linked_at r w a =
    let key : linked_at.key ≡ r.entry.key = ap (λ (k : LinkedAt). k.key) r.linked_at_is in
    let parts : Apart (r.before ++ r.entry ∷ r.behind) = subst (λ l. Apart l) r.is a in
    let away = Apart-before r.before r.entry r.behind parts in
    let behind = (Apart-cut r.before (r.entry ∷ r.behind) parts).1.0 in
    (λ i. changed (key i) w (r.is i)) ∙ changed-append r.entry.key w r.before (r.entry ∷ r.behind) away
    ∙ ap (λ l. r.before ++ l) (changed-here r.entry w r.behind behind)

pub advance-priority : (p o : ChainList Linked) (table : List (Option LinkedAt)) (limit slots to : ℕ) (h : Handle) (linked_at : LinkedAt)
    (x : Linked) → IsLists p o table limit slots → Apart p.entries
    → where_linked h (get_or table h.slot None) ≡ Some linked_at → linked_at.list ≡ Priority → h.slot < slots →
    Some x ≡ value_at linked_at.key p.entries
    → IsLists (chain_list (changed linked_at.key (running_at to x) p.entries) p.spare p.given) o table limit slots
    × (values (changed linked_at.key (running_at to x) p.entries) ≡ advanced h to (values p.entries)) ×
    (advanced h to (values o.entries) ≡ values o.entries)
advance-priority p o table limit slots to h linked_at x l a e list lt found =
    let some = linked_at_some h (get_or table h.slot None) linked_at e in
    let r = in_priority h.slot p.entries o.entries linked_at (sym (l.tabled h.slot) ∙ some.0) list in
    let known : Some x ≡ Some r.entry.value = found ∙ (chain_key Priority p.entries linked_at r a).0 in
    let same : x ≡ r.entry.value = cc in
    let t = tag Priority r.entry in
    let y = keyed r.entry.key (running_at to r.entry.value) in
    let named : same_handle r.entry.value.handle h ≡ true = subst (λ (k : LinkedAt). same_handle k.handle h ≡ true) r.linked_at_is some.1 in
    let slot : r.entry.value.handle.slot ≡ h.slot = same_slot r.entry.value.handle h named in
    let rest = tagged Priority r.behind ++ tagged Overflow o.entries in
    let all : all_of p o ≡ tagged Priority r.before ++ t ∷ rest =
    ap (λ xs. tagged Priority xs ++ tagged Overflow o.entries) r.is
    ∙ ap (λ xs. xs ++ tagged Overflow o.entries) (tagged-append Priority r.before (r.entry ∷ r.behind))
    ∙ append_assoc (tagged Priority r.before) (t ∷ tagged Priority r.behind) (tagged Overflow o.entries) in
    let key = ap (λ w. changed linked_at.key (running_at to w) p.entries) same
    ∙ changed_key Priority p.entries linked_at r (running_at to r.entry.value) a in
    let left : tagged Priority (changed linked_at.key (running_at to x) p.entries) ++ tagged Overflow o.entries ≡ tagged Priority r.before
    ++ tag Priority y ∷ rest =
    ap (λ xs. tagged Priority xs ++ tagged Overflow o.entries) key
    ∙ ap (λ xs. xs ++ tagged Overflow o.entries) (tagged-append Priority r.before (y ∷ r.behind))
    ∙ append_assoc (tagged Priority r.before) (tag Priority y ∷ tagged Priority r.behind) (tagged Overflow o.entries) in
    let away = (SlotsApart-remove (tagged Priority r.before) t rest (subst (λ xs. SlotsApart xs) all l.apart)).1 in
    let cut = NoSlot-cut (slot_of t) (tagged Priority r.before) rest away in
    let more = NoSlot-cut (slot_of t) (tagged Priority r.behind) (tagged Overflow o.entries) cut.1 in
    let before = no_slot Priority h r.before (subst (λ s. NoSlot s (tagged Priority r.before)) slot cut.0) in
    let behind = no_slot Priority h r.behind (subst (λ s. NoSlot s (tagged Priority r.behind)) slot more.0) in
    let others = no_slot Overflow h o.entries (subst (λ s. NoSlot s (tagged Overflow o.entries)) slot more.1) in (
      record {
        room = omega (arith, l.room, ap length r.is, ap length key, length-swap r.before r.entry y r.behind);
        overflow_room = l.overflow_room;
        long = l.long;
        apart = subst (λ xs. SlotsApart xs) (sym left) (SlotsApart-swap (tagged Priority r.before) t (tag Priority y) rest refl
            (subst (λ xs. SlotsApart xs) all l.apart));
        tabled = λ s. l.tabled s ∙ ap (λ xs. where_slot s xs) all ∙ linked_at-swap s (tagged Priority r.before) t (tag Priority y) rest
            refl ∙ sym (ap (λ xs. where_slot s xs) left);
      },
      ap values key ∙ sym (ap (λ xs. advanced h to (values xs)) r.is ∙ advanced-one h to r.before r.entry r.behind before named behind),
      advanced-none h to o.entries others,
    )

pub advance-overflow : (p o : ChainList Linked) (table : List (Option LinkedAt)) (limit slots to : ℕ) (h : Handle) (linked_at : LinkedAt)
    (x : Linked) → IsLists p o table limit slots → Apart o.entries
    → where_linked h (get_or table h.slot None) ≡ Some linked_at → linked_at.list ≡ Overflow → h.slot < slots →
    Some x ≡ value_at linked_at.key o.entries
    → IsLists p (chain_list (changed linked_at.key (running_at to x) o.entries) o.spare o.given) table limit slots
    × (values (changed linked_at.key (running_at to x) o.entries) ≡ advanced h to (values o.entries)) ×
    (advanced h to (values p.entries) ≡ values p.entries)
advance-overflow p o table limit slots to h linked_at x l a e list lt found =
    let some = linked_at_some h (get_or table h.slot None) linked_at e in
    let r = in_overflow h.slot p.entries o.entries linked_at (sym (l.tabled h.slot) ∙ some.0) list in
    let known : Some x ≡ Some r.entry.value = found ∙ (chain_key Overflow o.entries linked_at r a).0 in
    let same : x ≡ r.entry.value = cc in
    let t = tag Overflow r.entry in
    let y = keyed r.entry.key (running_at to r.entry.value) in
    let named : same_handle r.entry.value.handle h ≡ true = subst (λ (k : LinkedAt). same_handle k.handle h ≡ true) r.linked_at_is some.1 in
    let slot : r.entry.value.handle.slot ≡ h.slot = same_slot r.entry.value.handle h named in
    let first = tagged Priority p.entries in
    let front = first ++ tagged Overflow r.before in
    let back = tagged Overflow r.behind in
    let all : all_of p o ≡ front ++ t ∷ back =
    ap (λ xs. first ++ tagged Overflow xs) r.is ∙ ap (λ xs. first ++ xs) (tagged-append Overflow r.before (r.entry ∷ r.behind))
    ∙ sym (append_assoc first (tagged Overflow r.before) (t ∷ back)) in
    let key = ap (λ w. changed linked_at.key (running_at to w) o.entries) same
    ∙ changed_key Overflow o.entries linked_at r (running_at to r.entry.value) a in
    let left : first ++ tagged Overflow (changed linked_at.key (running_at to x) o.entries) ≡ front ++ tag Overflow y ∷ back =
    ap (λ xs. first ++ tagged Overflow xs) key ∙ ap (λ xs. first ++ xs) (tagged-append Overflow r.before (y ∷ r.behind))
    ∙ sym (append_assoc first (tagged Overflow r.before) (tag Overflow y ∷ back)) in
    let away = (SlotsApart-remove front t back (subst (λ xs. SlotsApart xs) all l.apart)).1 in
    let cut = NoSlot-cut (slot_of t) front back away in
    let more = NoSlot-cut (slot_of t) first (tagged Overflow r.before) cut.0 in
    let others = no_slot Priority h p.entries (subst (λ s. NoSlot s first) slot more.0) in
    let before = no_slot Overflow h r.before (subst (λ s. NoSlot s (tagged Overflow r.before)) slot more.1) in
    let behind = no_slot Overflow h r.behind (subst (λ s. NoSlot s back) slot cut.1) in (
      record {
        room = l.room;
        overflow_room = omega (arith, l.overflow_room, ap length r.is, ap length key, length-swap r.before r.entry y r.behind);
        long = l.long;
        apart = subst (λ xs. SlotsApart xs) (sym left) (SlotsApart-swap front t (tag Overflow y) back refl
            (subst (λ xs. SlotsApart xs) all l.apart));
        tabled = λ s. l.tabled s ∙ ap (λ xs. where_slot s xs) all ∙ linked_at-swap s front t (tag Overflow y) back refl
            ∙ sym (ap (λ xs. where_slot s xs) left);
      },
      ap values key ∙ sym (ap (λ xs. advanced h to (values xs)) r.is ∙ advanced-one h to r.before r.entry r.behind before named behind),
      advanced-none h to p.entries others,
    )

pub copied_mut-some : {X : Type 0} (o : Option (MutBor X)) (v : X) {p : Option X} → option_copied_mut o ≡ p → p ≡ Some v →
    ((x : MutBor X) → o ≡ Some x → ⊥) → ⊥
copied_mut-some None v e f h = cc
copied_mut-some (Some x) v e f h = h x refl

pub linked-priority : (p o : ChainList Linked) (h : Handle) (linked_at : LinkedAt) (x : Linked) →
    Unlinks p.entries h o.entries linked_at → Some x ≡ value_at linked_at.key p.entries
    → or_else (find (is_named h) (values p.entries)) (find (is_named h) (values o.entries)) ≡ Some x
linked-priority p o h linked_at x u found = ap (λ f. or_else f (find (is_named h) (values o.entries))) u.named_is ∙ sym (found ∙ u.value_is)

pub linked-overflow : (p o : ChainList Linked) (h : Handle) (linked_at : LinkedAt) (x : Linked) →
    Unlinks o.entries h p.entries linked_at → Some x ≡ value_at linked_at.key o.entries
    → or_else (find (is_named h) (values p.entries)) (find (is_named h) (values o.entries)) ≡ Some x
linked-overflow p o h linked_at x u found = (λ i. or_else (u.others_lack i) (u.named_is i)) ∙ sym (found ∙ u.value_is)

-- ---- whether a list holds the entry of a handle
linked-find : (h : Handle) (xs : List Linked) → is_linked h xs ≡ is_some (find (is_named h) xs)
linked-find h [] = refl
linked-find h (x ∷ xs) =
    elim (same_handle x.handle h) as (λ b. (b || is_linked h xs) ≡ is_some (cond b (Some x) (find (is_named h) xs)))
    [ true ↦ refl | false ↦ linked-find h xs ]

pub linked-absent : (p o : ChainList Linked) (table : List (Option LinkedAt)) (limit slots given : ℕ) (list : EntryList) (h : Handle) →
    IsLists p o table limit slots
    → where_linked h (get_or table h.slot None) ≡ None → is_linked h
    (entries list (both (values p.entries) (values o.entries) limit slots given)) ≡ false
linked-absent p o table limit slots given list h l e =
    let none = absent p o table limit slots h l e in
    elim list as (λ k. is_linked h (entries k (both (values p.entries) (values o.entries) limit slots given)) ≡ false) [
      | Priority ↦ linked-find h (values p.entries) ∙ ap is_some none.2
      | Overflow ↦ linked-find h (values o.entries) ∙ ap is_some none.3
    ]

-- it stands in the list that the table says, and in no other
pub linked-there : (p o : ChainList Linked) (table : List (Option LinkedAt)) (limit slots given : ℕ) (list : EntryList) (h : Handle)
    (linked_at : LinkedAt) → IsLists p o table limit slots
    → Apart p.entries → Apart o.entries → where_linked h (get_or table h.slot None) ≡ Some linked_at
    → is_linked h (entries list (both (values p.entries) (values o.entries) limit slots given)) ≡ same_list linked_at.list list
linked-there p o table limit slots given list h linked_at l pa oa e =
    let slot = slot-below p o table limit slots h linked_at l e in
    let b = both (values p.entries) (values o.entries) limit slots given in
    elim linked_at.list as (λ k. linked_at.list ≡ k → is_linked h (entries list b) ≡ same_list k list) [
      | Priority ↦ λ k. let u = (unlink-priority p o table limit slots p.given h linked_at l pa e k slot).1 in
          elim list as (λ q. is_linked h (entries q b) ≡ same_list Priority q) [
            | Priority ↦ linked-find h (values p.entries) ∙ ap is_some u.named_is
            | Overflow ↦ linked-find h (values o.entries) ∙ ap is_some u.others_lack
          ]
      | Overflow ↦ λ k. let u = (unlink-overflow p o table limit slots o.given h linked_at l oa e k slot).1 in
          elim list as (λ q. is_linked h (entries q b) ≡ same_list Overflow q) [
            | Priority ↦ linked-find h (values p.entries) ∙ ap is_some u.others_lack
            | Overflow ↦ linked-find h (values o.entries) ∙ ap is_some u.named_is
          ]
    ] refl
