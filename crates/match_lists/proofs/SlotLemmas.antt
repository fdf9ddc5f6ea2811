-- Entries of two lists whose slots lie apart: one comes in, or one goes.
use Rattle.std.proofs.Common.{◌≡◌, ◌≢◌, ℕ, suc, ◌-◌, ◌<◌, Bool, true, false, cond, nat_eq, ◌||◌, List, [], ◌∷◌, ◌++◌, length, get_or, set}
use Rattle.std.proofs.Common.{Option, Some, None, refl, sym, ap, subst, ◌∙◌, inl, inr, append_assoc, append-nil, arith}
use Rattle.std.proofs.lemmas.Bool.{ne_eqb, eq-eqb}
use Rattle.std.proofs.lemmas.Bool.Decides.{eqb_tells}
use Rattle.std.proofs.lemmas.List.{length-set, length-append, get_or-set_same, get_or-set_other}
use Rattle.ptl_types.specs.declared.entries.List.{List as EntryList}
use Rattle.ptl_types.specs.declared.entries.List.TheVariants.{Priority, Overflow}
use Rattle.chain_list.specs.Chain.{Keyed, ChainList, chain_list}
use Rattle.ni_model.specs.declared.Linked.{Linked}
use Rattle.match_lists.specs.declared.lists.LinkedAt.{LinkedAt}
use Rattle.ni_model.specs.Calls.{slot_in}
use Rattle.match_lists.specs.Lists.{values}
use Rattle.match_lists.specs.Slots.{Tagged, tag, tagged, slot_of, where_tagged, NoSlot, SlotsApart, where_slot}
use Rattle.match_lists.specs.Fields.{all_of, IsLists}

pub NoSlot-cut : (s : ℕ) (xs ys : List Tagged) → NoSlot s (xs ++ ys) → NoSlot s xs × NoSlot s ys
NoSlot-cut s [] ys n = (tt, n)
NoSlot-cut s (x ∷ xs) ys n = let rest = NoSlot-cut s xs ys n.1 in ((n.0, rest.0), rest.1)

pub NoSlot-join : (s : ℕ) (xs ys : List Tagged) → NoSlot s xs → NoSlot s ys → NoSlot s (xs ++ ys)
NoSlot-join s [] ys m n = n
NoSlot-join s (x ∷ xs) ys m n = (m.0, NoSlot-join s xs ys m.1 n)

pub SlotsApart-insert : (xs : List Tagged) (t : Tagged) (ys : List Tagged) → SlotsApart (xs ++ ys) → NoSlot (slot_of t) (xs ++ ys) →
    SlotsApart (xs ++ t ∷ ys)
SlotsApart-insert [] t ys a n = (n, a)
SlotsApart-insert (x ∷ xs) t ys a n =
    let cut = NoSlot-cut (slot_of x) xs ys a.0 in
    (NoSlot-join (slot_of x) xs (t ∷ ys) cut.0 (λ e. n.0 (sym e), cut.1), SlotsApart-insert xs t ys a.1 n.1)

pub SlotsApart-remove : (xs : List Tagged) (t : Tagged) (ys : List Tagged) → SlotsApart (xs ++ t ∷ ys) → SlotsApart (xs ++ ys) ×
    NoSlot (slot_of t) (xs ++ ys)
SlotsApart-remove [] t ys a = (a.1, a.0)
SlotsApart-remove (x ∷ xs) t ys a =
    let rest = SlotsApart-remove xs t ys a.1 in let cut = NoSlot-cut (slot_of x) xs (t ∷ ys) a.0 in
    ((NoSlot-join (slot_of x) xs ys cut.0 cut.1.1, rest.0), (λ e. cut.1.0 (sym e), rest.1))

pub linked_at-none : (s : ℕ) (xs : List Tagged) → NoSlot s xs → where_slot s xs ≡ None
linked_at-none s [] n = refl
linked_at-none s (x ∷ xs) n = let e : nat_eq (slot_of x) s ≡ false = ne_eqb (slot_of x) s n.0 in rw e (linked_at-none s xs n.1)

pub linked_at-here : (xs : List Tagged) (t : Tagged) (ys : List Tagged) → NoSlot (slot_of t) xs →
    where_slot (slot_of t) (xs ++ t ∷ ys) ≡ Some (where_tagged t)
linked_at-here [] t ys n = let e : nat_eq (slot_of t) (slot_of t) ≡ true = eq-eqb (slot_of t) (slot_of t) refl in rw e
linked_at-here (x ∷ xs) t ys n = let e : nat_eq (slot_of x) (slot_of t) ≡ false = ne_eqb (slot_of x) (slot_of t) n.0 in
    rw e (linked_at-here xs t ys n.1)

pub linked_at-insert : (s : ℕ) (xs : List Tagged) (t : Tagged) (ys : List Tagged) → slot_of t ≢ s →
    where_slot s (xs ++ t ∷ ys) ≡ where_slot s (xs ++ ys)
linked_at-insert s [] t ys n = let e : nat_eq (slot_of t) s ≡ false = ne_eqb (slot_of t) s n in rw e
linked_at-insert s (x ∷ xs) t ys n = ap (λ r. cond (nat_eq (slot_of x) s) (Some (where_tagged x)) r) (linked_at-insert s xs t ys n)

-- ---- no linked entry has a slot
pub NoSlot-tagged : (list : EntryList) (s : ℕ) (xs : List (Keyed Linked)) → slot_in s (values xs) ≡ false → NoSlot s (tagged list xs)
NoSlot-tagged list s [] e = tt
NoSlot-tagged list s (x ∷ xs) e = elim (eqb_tells x.value.handle.slot s) [
  | inl t ↦ let f : true ≡ false = rw t.0 at e in cc
  | inr f ↦ (f.1, NoSlot-tagged list s xs (rw f.0 at e))
]

or_false : (a b : Bool) → (a || b) ≡ false → (a ≡ false) × (b ≡ false)
or_false true b e = cc
or_false false b e = (refl, e)

pub NoSlot-all : (s : ℕ) (p o : ChainList Linked) → (slot_in s (values p.entries) || slot_in s (values o.entries)) ≡ false →
    NoSlot s (all_of p o)
NoSlot-all s p o e =
    let both = or_false (slot_in s (values p.entries)) (slot_in s (values o.entries)) e in
    NoSlot-join s (tagged Priority p.entries) (tagged Overflow o.entries) (NoSlot-tagged Priority s p.entries both.0)
    (NoSlot-tagged Overflow s o.entries both.1)

pub tagged-append : (list : EntryList) (xs ys : List (Keyed Linked)) → tagged list (xs ++ ys) ≡ tagged list xs ++ tagged list ys
tagged-append list [] ys = refl
tagged-append list (x ∷ xs) ys = ap (λ r. tag list x ∷ r) (tagged-append list xs ys)

-- ---- the table after one more entry
pub table-insert : (table : List (Option LinkedAt)) (xs : List Tagged) (t : Tagged) (ys all all' : List Tagged)
    → all ≡ xs ++ ys → all' ≡ xs ++ t ∷ ys → SlotsApart all → NoSlot (slot_of t) all → slot_of t < length table →
    ((s : ℕ) → get_or table s None ≡ where_slot s all)
    → SlotsApart all' × ((s : ℕ) → get_or (set table (slot_of t) (Some (where_tagged t))) s None ≡ where_slot s all')
table-insert table xs t ys all all' e e' a n lt told =
    let cut = NoSlot-cut (slot_of t) xs ys (subst (λ l. NoSlot (slot_of t) l) e n) in (
      subst (λ l. SlotsApart l) (sym e') (SlotsApart-insert xs t ys (subst (λ l. SlotsApart l) e a)
          (subst (λ l. NoSlot (slot_of t) l) e n)),
      λ s. elim (eqb_tells s (slot_of t)) [
        | inl q ↦ ap (λ i. get_or (set table (slot_of t) (Some (where_tagged t))) i None) q.1
            ∙ get_or-set_same table (slot_of t) (Some (where_tagged t)) None lt
            ∙ sym (ap (λ i. where_slot i all') q.1 ∙ ap (λ l. where_slot (slot_of t) l) e' ∙ linked_at-here xs t ys cut.0)
        | inr q ↦ get_or-set_other table (slot_of t) s (Some (where_tagged t)) None q.1 ∙ told s ∙ ap (λ l. where_slot s l) e
            ∙ sym (ap (λ l. where_slot s l) e' ∙ linked_at-insert s xs t ys (λ i. q.1 (sym i)))
      ],
    )

-- ---- the table after one entry fewer
pub table-remove : (table : List (Option LinkedAt)) (xs : List Tagged) (t : Tagged) (ys all all' : List Tagged)
    → all ≡ xs ++ t ∷ ys → all' ≡ xs ++ ys → SlotsApart all → slot_of t < length table → ((s : ℕ) → get_or table s None ≡ where_slot s all)
    → SlotsApart all' × ((s : ℕ) → get_or (set table (slot_of t) None) s None ≡ where_slot s all')
table-remove table xs t ys all all' e e' a lt told =
    let rest = SlotsApart-remove xs t ys (subst (λ l. SlotsApart l) e a) in (
      subst (λ l. SlotsApart l) (sym e') rest.0,
      λ s. elim (eqb_tells s (slot_of t)) [
        | inl q ↦ ap (λ i. get_or (set table (slot_of t) None) i None) q.1 ∙ get_or-set_same table (slot_of t) None None lt
            ∙ sym (ap (λ i. where_slot i all') q.1 ∙ ap (λ l. where_slot (slot_of t) l) e' ∙ linked_at-none (slot_of t) (xs ++ ys) rest.1)
        | inr q ↦ get_or-set_other table (slot_of t) s None None q.1 ∙ told s ∙ ap (λ l. where_slot s l) e
            ∙ linked_at-insert s xs t ys (λ i. q.1 (sym i)) ∙ sym (ap (λ l. where_slot s l) e')
      ],
    )

-- ---- an entry after the last of a list
pub IsLists-priority : (p p' o : ChainList Linked) (table : List (Option LinkedAt)) (limit slots given : ℕ) (x : Keyed Linked)
    → IsLists p o table limit slots → p' ≡ chain_list (p.entries ++ x ∷ []) (p.spare - 1) given → 0 < p.spare → x.value.handle.slot < slots
    → (slot_in x.value.handle.slot (values p.entries) || slot_in x.value.handle.slot (values o.entries)) ≡ false
    → IsLists p' o (set table x.value.handle.slot (Some (where_tagged (tag Priority x)))) limit slots
IsLists-priority p p' o table limit slots given x l e spare lt free =
    let t = tag Priority x in
    let made = table-insert table (tagged Priority p.entries) t (tagged Overflow o.entries) (all_of p o)
    (tagged Priority (p.entries ++ x ∷ []) ++ tagged Overflow o.entries) refl
    (ap (λ r. r ++ tagged Overflow o.entries) (tagged-append Priority p.entries (x ∷ []))
    ∙ append_assoc (tagged Priority p.entries) (t ∷ []) (tagged Overflow o.entries))
    l.apart (NoSlot-all x.value.handle.slot p o free) (omega (arith, l.long)) l.tabled in
    subst (λ q. IsLists q o (set table x.value.handle.slot (Some (where_tagged t))) limit slots) (sym e) (record {
      room = omega (arith, l.room, length-append p.entries (x ∷ []));
      overflow_room = l.overflow_room;
      long = length-set table x.value.handle.slot (Some (where_tagged t)) ∙ l.long;
      apart = made.0;
      tabled = made.1;
    })

pub IsLists-overflow : (p o o' : ChainList Linked) (table : List (Option LinkedAt)) (limit slots given : ℕ) (x : Keyed Linked)
    → IsLists p o table limit slots → o' ≡ chain_list (o.entries ++ x ∷ []) (o.spare - 1) given → 0 < o.spare → x.value.handle.slot < slots
    → (slot_in x.value.handle.slot (values p.entries) || slot_in x.value.handle.slot (values o.entries)) ≡ false
    → IsLists p o' (set table x.value.handle.slot (Some (where_tagged (tag Overflow x)))) limit slots
IsLists-overflow p o o' table limit slots given x l e spare lt free =
    let t = tag Overflow x in
    let made = table-insert table (all_of p o) t [] (all_of p o) (tagged Priority p.entries ++ tagged Overflow (o.entries ++ x ∷ []))
    (sym (append-nil (all_of p o)))
    (ap (λ r. tagged Priority p.entries ++ r) (tagged-append Overflow o.entries (x ∷ []))
    ∙ sym (append_assoc (tagged Priority p.entries) (tagged Overflow o.entries) (t ∷ [])))
    l.apart (NoSlot-all x.value.handle.slot p o free) (omega (arith, l.long)) l.tabled in
    subst (λ q. IsLists p q (set table x.value.handle.slot (Some (where_tagged t))) limit slots) (sym e) (record {
      room = l.room;
      overflow_room = omega (arith, l.overflow_room, length-append o.entries (x ∷ []));
      long = length-set table x.value.handle.slot (Some (where_tagged t)) ∙ l.long;
      apart = made.0;
      tabled = made.1;
    })

pub length-values : (xs : List (Keyed Linked)) → length (values xs) ≡ length xs
length-values [] = refl
length-values (x ∷ xs) = ap (λ n. suc n) (length-values xs)
