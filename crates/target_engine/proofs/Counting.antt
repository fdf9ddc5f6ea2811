-- Counting the linked entries by a test of handle and index.
use Rattle.std.proofs.Common.{◌≡◌, ℕ, zero, suc, ◌+◌, ◌<◌, Bool, true, false, not, ◌||◌, ◌&&◌, List, [], ◌∷◌, ◌++◌, Option, Some, None, map}
use Rattle.std.proofs.Common.{find, length, get_or, set, if◌then◌else◌, nat_lt, nat_eq, refl, ap, arith, zero-add}
use Rattle.std.specs.Prelude.{sum_by}
use Rattle.std.proofs.lemmas.List.Sums.{sum_by-cons}
use Rattle.std.proofs.lemmas.Bool.Decides.{nat_tests}
use Rattle.ptl_types.specs.declared.handles.Handle.{Handle}
use Rattle.ptl_types.specs.Handles.{same_handle}
use Rattle.ni_model.specs.declared.Linked.{Linked}
use Rattle.ni_model.specs.Lists.{Index, entries_in, is_linked, unlinked, advance_one, advanced}
use Rattle.ni_model.specs.Refusals.{is_linked_in, is_linked_anywhere}
use Rattle.ni_model.specs.Calls.{slot_in, entry_slot, unlinked_in}
use Rattle.match_lists.specs.Lists.{is_named}
use Rattle.target_engine.specs.PortalTable.{entries_by, index_by, linked_by}

-- ---- tests of a handle and an index

abbrev pub Test : Type 0
Test = Handle → Option Handle → ℕ → Bool

abbrev pub any_handle : Handle → Option Handle → ℕ → Bool
any_handle x c k = true

-- this handle, at any index
abbrev pub is_handle : Handle → Handle → Option Handle → ℕ → Bool
is_handle h x c k = same_handle x h

abbrev pub is_slot : ℕ → Handle → Option Handle → ℕ → Bool
is_slot s x c k = nat_eq x.slot s

-- those that pass and aren't this handle
abbrev pub but : Handle → (Handle → Option Handle → ℕ → Bool) → Handle → Option Handle → ℕ → Bool
but me p x c k = p x c k && not (same_handle x me)

-- this handle at another index
abbrev pub elsewhere : Handle → ℕ → Handle → Option Handle → ℕ → Bool
elsewhere me pt x c k = same_handle x me && not (nat_eq k pt)

-- ---- a search is a count

pub or-one : (b r : Bool) (n : ℕ) → r ≡ nat_lt 0 n → (b || r) ≡ nat_lt 0 ((if b then 1 else 0) + n)
or-one true r n e = grind (arith, nat_tests)
or-one false r n e = rw zero-add e

pub or-sum : (a b : Bool) (m n : ℕ) → a ≡ nat_lt 0 m → b ≡ nat_lt 0 n → (a || b) ≡ nat_lt 0 (m + n)
or-sum a b m n ea eb = grind (arith, nat_tests)

is_linked-count : (h : Handle) (k : ℕ) (xs : List Linked) → is_linked h xs ≡ nat_lt 0 (entries_by (is_handle h) k xs)
is_linked-count h k [] = refl
is_linked-count h k (x ∷ xs) = or-one (same_handle x.handle h) _ _ (is_linked-count h k xs)

pub is_linked_in-count : (h : Handle) (k : ℕ) (o : Option Index) → is_linked_in h o ≡ nat_lt 0 (index_by (is_handle h) k o)
is_linked_in-count h k None = refl
is_linked_in-count h k (Some i) = or-sum _ _ _ _ (is_linked-count h k i.priority) (is_linked-count h k i.overflow)

pub is_linked_anywhere-count : (h : Handle) (k : ℕ) (is : List (Option Index)) →
    is_linked_anywhere h is ≡ nat_lt 0 (linked_by (is_handle h) k is)
is_linked_anywhere-count h k [] = refl
is_linked_anywhere-count h k (o ∷ is) = or-sum _ _ _ _ (is_linked_in-count h k o) (is_linked_anywhere-count h (k + 1) is)

slot_in-count : (s k : ℕ) (xs : List Linked) → slot_in s xs ≡ nat_lt 0 (entries_by (is_slot s) k xs)
slot_in-count s k [] = refl
slot_in-count s k (x ∷ xs) = or-one (nat_eq x.handle.slot s) _ _ (slot_in-count s k xs)

pub entry_slot-count : (s k : ℕ) (is : List (Option Index)) → entry_slot is s ≡ nat_lt 0 (linked_by (is_slot s) k is)
entry_slot-count s k [] = refl
entry_slot-count s k (None ∷ is) = rw zero-add (entry_slot-count s (k + 1) is)
entry_slot-count s k (Some i ∷ is) = or-sum _ _ _ _ (or-sum _ _ _ _ (slot_in-count s k i.priority) (slot_in-count s k i.overflow))
    (entry_slot-count s (k + 1) is)

-- ---- how many there are

entries-all : (k : ℕ) (xs : List Linked) → entries_by any_handle k xs ≡ length xs
entries-all k [] = refl
entries-all k (x ∷ xs) = omega (arith, entries-all k xs)

index-all : (k : ℕ) (o : Option Index) → index_by any_handle k o ≡ entries_in o
index-all k None = refl
index-all k (Some i) = omega (arith, entries-all k i.priority, entries-all k i.overflow)

pub linked-all : (k : ℕ) (is : List (Option Index)) → linked_by any_handle k is ≡ sum_by entries_in is
linked-all k [] = refl
linked-all k (o ∷ is) = omega (arith, index-all k o, linked-all (k + 1) is, sum_by-cons entries_in o is)

-- ---- lists without a handle

one-but : (p s : Bool) (m n : ℕ) → m ≡ n → (if s then m else (if p then 1 else 0) + m) ≡ (if p && not s then 1 else 0) + n
one-but true true m n e = omega arith
one-but true false m n e = omega arith
one-but false true m n e = omega arith
one-but false false m n e = omega arith

entries-unlinked : (me : Handle) (p : Handle → Option Handle → ℕ → Bool) (k : ℕ) (xs : List Linked) →
    entries_by p k (unlinked me xs) ≡ entries_by (but me p) k xs
entries-unlinked me p k [] = refl
entries-unlinked me p k (x ∷ xs) =
    elim (same_handle x.handle me) as (λ s. entries_by p k (if not s then x ∷ unlinked me xs else unlinked me xs)
    ≡ (if p x.handle x.entry.ct k && not s then 1 else 0) + entries_by (but me p) k xs) [
      | true ↦ one-but (p x.handle x.entry.ct k) true _ _ (entries-unlinked me p k xs)
      | false ↦ one-but (p x.handle x.entry.ct k) false _ _ (entries-unlinked me p k xs)
    ]

index-unlinked : (me : Handle) (p : Handle → Option Handle → ℕ → Bool) (k : ℕ) (o : Option Index) →
    index_by p k (unlinked_in me o) ≡ index_by (but me p) k o
index-unlinked me p k None = refl
index-unlinked me p k (Some i) = rw (entries-unlinked me p k i.priority, entries-unlinked me p k i.overflow) refl

pub linked-unlinked : (me : Handle) (p : Handle → Option Handle → ℕ → Bool) (k : ℕ) (is : List (Option Index)) →
    linked_by p k (map (unlinked_in me) is) ≡ linked_by (but me p) k is
linked-unlinked me p k [] = refl
linked-unlinked me p k (o ∷ is) = rw (index-unlinked me p k o, linked-unlinked me p (k + 1) is) refl

-- ---- lists with one more

pub entries-push : (p : Handle → Option Handle → ℕ → Bool) (k : ℕ) (xs : List Linked) (x : Linked) →
    entries_by p k (xs ++ x ∷ []) ≡ entries_by p k xs + (if p x.handle x.entry.ct k then 1 else 0)
entries-push p k [] x = omega arith
entries-push p k (y ∷ ys) x = omega (arith, entries-push p k ys x)

-- ---- a running offset moves

kept-handle : (me : Handle) (to : ℕ) (x : Linked) → (advance_one me to x).handle ≡ x.handle
kept-handle me to x = elim (same_handle x.handle me) as (λ b. (if b then record x { running = to } else x).handle ≡ x.handle)
    [ true ↦ refl | false ↦ refl ]

kept-ct : (me : Handle) (to : ℕ) (x : Linked) → (advance_one me to x).entry.ct ≡ x.entry.ct
kept-ct me to x = elim (same_handle x.handle me) as (λ b. (if b then record x { running = to } else x).entry.ct ≡ x.entry.ct)
    [ true ↦ refl | false ↦ refl ]

pub entries-advanced : (me : Handle) (to : ℕ) (p : Handle → Option Handle → ℕ → Bool) (k : ℕ) (xs : List Linked) →
    entries_by p k (advanced me to xs) ≡ entries_by p k xs
entries-advanced me to p k [] = refl
entries-advanced me to p k (x ∷ xs) = rw (kept-handle me to x, kept-ct me to x, entries-advanced me to p k xs) refl

-- ---- one portal table entry changes

pub linked-set : (p : Handle → Option Handle → ℕ → Bool) (k d : ℕ) (is : List (Option Index)) (o : Option Index) → d < length is →
    linked_by p k (set is d o) + index_by p (k + d) (get_or is d None) ≡ linked_by p k is + index_by p (k + d) o
linked-set p k d [] o lt = absurd (omega arith)
linked-set p k zero (x ∷ is) o lt = let z : k + 0 ≡ k = omega arith in rw z (omega arith)
linked-set p k (suc d) (x ∷ is) o lt =
    let z : k + suc d ≡ (k + 1) + d = omega arith in
    let r = linked-set p (k + 1) d is o (omega arith) in
    rw z (omega (arith, r))

pub linked-same : (p : Handle → Option Handle → ℕ → Bool) (k d : ℕ) (is : List (Option Index)) (o : Option Index) →
    index_by p (k + d) o ≡ index_by p (k + d) (get_or is d None) → linked_by p k (set is d o) ≡ linked_by p k is
linked-same p k d [] o e = refl
linked-same p k zero (x ∷ is) o e = let z : k + 0 ≡ k = omega arith in let f = rw z at e in omega (arith, f)
linked-same p k (suc d) (x ∷ is) o e =
    let z : k + suc d ≡ (k + 1) + d = omega arith in
    let f = rw z at e in
    omega (arith, linked-same p (k + 1) d is o f)

-- ---- an entry at one index alone

entries-elsewhere : (me : Handle) (pt k : ℕ) (xs : List Linked) → nat_eq k pt ≡ false →
    entries_by (elsewhere me pt) k xs ≡ entries_by (is_handle me) k xs
entries-elsewhere me pt k [] e = refl
entries-elsewhere me pt k (x ∷ xs) e =
    elim (same_handle x.handle me) as (λ s. (if s && not (nat_eq k pt) then 1 else 0) + entries_by (elsewhere me pt) k xs
    ≡ (if s then 1 else 0) + entries_by (is_handle me) k xs) [
      | true ↦ rw (e, entries-elsewhere me pt k xs e) refl
      | false ↦ rw (entries-elsewhere me pt k xs e) refl
    ]

index-elsewhere : (me : Handle) (pt k : ℕ) (o : Option Index) → nat_eq k pt ≡ false →
    index_by (elsewhere me pt) k o ≡ index_by (is_handle me) k o
index-elsewhere me pt k None e = refl
index-elsewhere me pt k (Some i) e = rw (entries-elsewhere me pt k i.priority e, entries-elsewhere me pt k i.overflow e) refl

linked-elsewhere : (me : Handle) (pt k : ℕ) (is : List (Option Index)) → pt < k →
    linked_by (elsewhere me pt) k is ≡ linked_by (is_handle me) k is
linked-elsewhere me pt k [] lt = refl
linked-elsewhere me pt k (o ∷ is) lt =
    let e : nat_eq k pt ≡ false = grind (arith, nat_tests) in
    rw (index-elsewhere me pt k o e, linked-elsewhere me pt (k + 1) is (omega arith)) refl

entries-here : (me : Handle) (pt k : ℕ) (xs : List Linked) → nat_eq k pt ≡ true → entries_by (elsewhere me pt) k xs ≡ 0
entries-here me pt k [] e = refl
entries-here me pt k (x ∷ xs) e =
    elim (same_handle x.handle me) as (λ s. (if s && not (nat_eq k pt) then 1 else 0) + entries_by (elsewhere me pt) k xs ≡ 0) [
      | true ↦ rw (e, entries-here me pt k xs e) refl
      | false ↦ rw (entries-here me pt k xs e) refl
    ]

index-here : (me : Handle) (pt k : ℕ) (o : Option Index) → nat_eq k pt ≡ true → index_by (elsewhere me pt) k o ≡ 0
index-here me pt k None e = refl
index-here me pt k (Some i) e = rw (entries-here me pt k i.priority e, entries-here me pt k i.overflow e) refl

pub linked-split : (me : Handle) (pt k d : ℕ) (is : List (Option Index)) → pt ≡ k + d →
    linked_by (is_handle me) k is ≡ index_by (is_handle me) pt (get_or is d None) + linked_by (elsewhere me pt) k is
linked-split me pt k d [] e = refl
linked-split me pt k zero (o ∷ is) e =
    let z : pt ≡ k = omega arith in
    let t : nat_eq k pt ≡ true = grind (arith, nat_tests) in
    omega (arith, index-here me pt k o t, linked-elsewhere me pt (k + 1) is (omega arith), ap (λ n. index_by (is_handle me) n o) z)
linked-split me pt k (suc d) (o ∷ is) e =
    let f : nat_eq k pt ≡ false = grind (arith, nat_tests) in
    omega (arith, index-elsewhere me pt k o f, linked-split me pt (k + 1) d is (omega arith))

-- ---- where it isn't, unlinking it changes nothing

pub count-none : (b : Bool) (n : ℕ) → (if b then 1 else 0) + n ≡ 0 → (b ≡ false) × (n ≡ 0)
count-none true n e = absurd (omega arith)
count-none false n e = (refl, omega arith)

pub unlinked-none : (me : Handle) (k : ℕ) (xs : List Linked) → entries_by (is_handle me) k xs ≡ 0 → unlinked me xs ≡ xs
unlinked-none me k [] e = refl
unlinked-none me k (x ∷ xs) e =
    let c = count-none (same_handle x.handle me) _ e in
    rw (c.0, unlinked-none me k xs c.1) refl

pub advanced-none : (me : Handle) (to k : ℕ) (xs : List Linked) → entries_by (is_handle me) k xs ≡ 0 → advanced me to xs ≡ xs
advanced-none me to k [] e = refl
advanced-none me to k (x ∷ xs) e =
    let c = count-none (same_handle x.handle me) _ e in
    rw (c.0, advanced-none me to k xs c.1) refl

pub named-none : (me : Handle) (k : ℕ) (xs : List Linked) → entries_by (is_handle me) k xs ≡ 0 → find (is_named me) xs ≡ None
named-none me k [] e = refl
named-none me k (x ∷ xs) e =
    let c = count-none (same_handle x.handle me) _ e in
    rw (c.0, named-none me k xs c.1) refl

pub unlinked_in-none : (me : Handle) (k : ℕ) (o : Option Index) → index_by (is_handle me) k o ≡ 0 → unlinked_in me o ≡ o
unlinked_in-none me k None e = refl
unlinked_in-none me k (Some i) e = rw (unlinked-none me k i.priority (omega arith), unlinked-none me k i.overflow (omega arith)) refl

map-none : (me : Handle) (k : ℕ) (is : List (Option Index)) → linked_by (is_handle me) k is ≡ 0 → map (unlinked_in me) is ≡ is
map-none me k [] e = refl
map-none me k (o ∷ is) e = rw (unlinked_in-none me k o (omega arith), map-none me (k + 1) is (omega arith)) refl

pub map-at : (me : Handle) (pt k d : ℕ) (is : List (Option Index)) → pt ≡ k + d → linked_by (elsewhere me pt) k is ≡ 0 →
    map (unlinked_in me) is ≡ set is d (unlinked_in me (get_or is d None))
map-at me pt k d [] e none = refl
map-at me pt k zero (o ∷ is) e none =
    let r : linked_by (is_handle me) (k + 1) is ≡ 0 = omega (arith, linked-elsewhere me pt (k + 1) is (omega arith)) in
    rw (map-none me (k + 1) is r) refl
map-at me pt k (suc d) (o ∷ is) e none =
    let f : nat_eq k pt ≡ false = grind (arith, nat_tests) in
    let r : index_by (is_handle me) k o ≡ 0 = omega (arith, index-elsewhere me pt k o f) in
    rw (unlinked_in-none me k o r, map-at me pt (k + 1) d is (omega arith) (omega arith)) refl
