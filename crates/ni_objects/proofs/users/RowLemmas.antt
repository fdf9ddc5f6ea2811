-- A row still counts after one of its slots was counted up or down.
use Rattle.std.specs.Prelude.{IfSome}
use Rattle.std.proofs.Common.{◌||◌, ◌^◌, zero-add, ap, ◌≡◌, ◌≢◌, ◌<◌, ◌≤◌, ◌+◌, ◌-◌, ℕ, nat_eq, nat_lt, Bool, true, false, List, length}
use Rattle.std.proofs.Common.{set, get_or, Option, Some, None, if◌then◌else◌, refl, sym, subst, ◌∙◌, arith, zero, suc, replicate}
use Rattle.std.proofs.lemmas.List.{get_or-set_same, get_or-set_other, get_or_past, length-set}
use Rattle.std.proofs.lemmas.Bool.Decides.{nat_tests}
use Rattle.ptl_types.specs.declared.handles.Handle.{Handle}
use Rattle.ptl_types.specs.Handles.{same_handle}
use Rattle.ni_model.specs.Tables.{names}
use Rattle.ni_objects.proofs.users.SumLemmas.{one_if, same-self, apart-slot}
use Rattle.ni_objects.specs.users.Rows.{count_at, incremented, decremented, more, fewer, one_if_slot, one_at, Counts, IsAlone}

same-slot : (a b : ℕ) → nat_eq a b ≡ true → a ≡ b
same-slot a b e = grind (arith, nat_tests)

other-slot : (a b : ℕ) → nat_eq a b ≡ false → b ≢ a
other-slot a b e = λ s. grind (arith, nat_tests)

-- past the row's end nothing is counted, and nothing is asked
module _ (f g : ℕ → ℕ) (row : List ℕ) (c : Counts f row) where
  pub counts-incremented : (slot : ℕ) → ((k : ℕ) → g k ≡ f k + one_if_slot slot k) → Counts g (incremented slot row)
  counts-incremented slot up = λ k lt.
      let within : k < length row = omega (arith, lt, length-set row slot (count_at slot row + 1)) in
      elim (nat_eq slot k) as (λ b. nat_eq slot k ≡ b → get_or (set row slot (count_at slot row + 1)) k 0 ≡ g k) [
        | true ↦ λ e.
            let s = same-slot slot k e in
            let u : g k ≡ f k + (if true then 1 else 0) = rw e at (up k) in
            let h : count_at slot row ≡ f k = let P : ℕ → Type 0 = λ n. count_at n row ≡ f k in subst P (sym s) (c k within) in
            let at : get_or (set row slot (count_at slot row + 1)) slot 0 ≡ count_at slot row + 1 =
            get_or-set_same row slot (count_at slot row + 1) 0 (omega (arith, within, s)) in
            let there : get_or (set row slot (count_at slot row + 1)) k 0 ≡ count_at slot row + 1 = let P : ℕ → Type 0 =
            λ n. get_or (set row slot
            (count_at slot row + 1)) n 0
            ≡ count_at slot row + 1 in
            subst P s at in
            omega (arith, there, u, h)
        | false ↦ λ e.
            let u : g k ≡ f k + (if false then 1 else 0) = rw e at (up k) in
            omega (arith, get_or-set_other row slot k (count_at slot row + 1) 0 (other-slot slot k e), c k within, u)
      ] refl

  pub counts-decremented : (slot : ℕ) → ((k : ℕ) → f k ≡ g k + one_if_slot slot k) → Counts g (decremented slot row)
  counts-decremented slot down = λ k lt.
      let within : k < length row = omega (arith, lt, length-set row slot (count_at slot row - 1)) in
      elim (nat_eq slot k) as (λ b. nat_eq slot k ≡ b → get_or (set row slot (count_at slot row - 1)) k 0 ≡ g k) [
        | true ↦ λ e.
            let s = same-slot slot k e in
            let u : f k ≡ g k + (if true then 1 else 0) = rw e at (down k) in
            let h : count_at slot row ≡ f k = let P : ℕ → Type 0 = λ n. count_at n row ≡ f k in subst P (sym s) (c k within) in
            let at : get_or (set row slot (count_at slot row - 1)) slot 0 ≡ count_at slot row - 1 =
            get_or-set_same row slot (count_at slot row - 1) 0 (omega (arith, within, s)) in
            let there : get_or (set row slot (count_at slot row - 1)) k 0 ≡ count_at slot row - 1 = let P : ℕ → Type 0 =
            λ n. get_or (set row slot
            (count_at slot row - 1)) n 0
            ≡ count_at slot row - 1 in
            subst P s at in
            omega (arith, there, u, h)
        | false ↦ λ e.
            let u : f k ≡ g k + (if false then 1 else 0) = rw e at (down k) in
            omega (arith, get_or-set_other row slot k (count_at slot row - 1) 0 (other-slot slot k e), c k within, u)
      ] refl

  pub counts-same : ((k : ℕ) → g k ≡ f k) → Counts g row
  counts-same same = λ k lt. c k lt ∙ sym (same k)

pub counts-more : (f g : ℕ → ℕ) (row : List ℕ) → Counts f row → (named : Option Handle) → ((k : ℕ) → g k ≡ f k + one_at named k) →
    Counts g (more named row)
counts-more f g row c None up = counts-same f g row c (λ k. omega (arith, up k))
counts-more f g row c (Some h) up = counts-incremented f g row c h.slot up

pub counts-fewer : (f g : ℕ → ℕ) (row : List ℕ) → Counts f row → (named : Option Handle) → ((k : ℕ) → f k ≡ g k + one_at named k) →
    Counts g (fewer named row)
counts-fewer f g row c None down = counts-same f g row c (λ k. omega (arith, down k))
counts-fewer f g row c (Some h) down = counts-decremented f g row c h.slot down

-- where nothing is named yet
abbrev zeros : ℕ → List ℕ
zeros n = replicate n 0

get_or-replicate : (n k : ℕ) → get_or (zeros n) k 0 ≡ 0
get_or-replicate zero k = refl
get_or-replicate (suc n) zero = refl
get_or-replicate (suc n) (suc k) = get_or-replicate n k

pub counts-none : (f : ℕ → ℕ) (n : ℕ) → ((k : ℕ) → f k ≡ 0) → Counts f (zeros n)
counts-none f n none = λ k lt. get_or-replicate n k ∙ sym (none k)

-- a handle that is alone at its slot is named where its slot is
same-handle : (a b : Handle) → a ≡ b → same_handle a b ≡ true
same-handle a b e = rw e (same-self b)

pub names-at : (h : Handle) (o : Option Handle) → IsAlone h o → one_if (names o h) ≡ one_at o h.slot
names-at h None alone = refl
names-at h (Some x) alone =
    elim (nat_eq x.slot h.slot) as (λ b. nat_eq x.slot h.slot ≡ b → one_if (same_handle x h) ≡ one_if b) [
      | true ↦ λ e. rw (same-handle x h (alone (same-slot x.slot h.slot e))) refl
      | false ↦ λ e. rw (apart-slot x h e) refl
    ] refl

-- ---- how much a row counts, and how long it is

pub one-at_most : (o : Option Handle) (k : ℕ) → one_at o k ≤ 1
one-at_most None k = omega arith
one-at_most (Some h) k = elim (nat_eq h.slot k) as (λ b. one_if b ≤ 1) [ true ↦ omega arith | false ↦ omega arith ]

pub counts-at_most : (f : ℕ → ℕ) (n slot : ℕ) (row : List ℕ) → Counts f row → f slot ≤ n → count_at slot row ≤ n
counts-at_most f n slot row c at_most =
    elim (nat_lt slot (length row)) as (λ b. nat_lt slot (length row) ≡ b → count_at slot row ≤ n) [
      | true ↦ λ e. let lt : slot < length row = grind (arith, nat_tests) in omega (arith, c slot lt)
      | false ↦ λ e. let past : length row ≤ slot = grind (arith, nat_tests) in omega (arith, get_or_past row slot 0 past)
    ] refl

pub more-long : (o : Option Handle) (row : List ℕ) → length (more o row) ≡ length row
more-long None row = refl
more-long (Some h) row = length-set row h.slot (count_at h.slot row + 1)

pub fewer-long : (o : Option Handle) (row : List ℕ) → length (fewer o row) ≡ length row
fewer-long None row = refl
fewer-long (Some h) row = length-set row h.slot (count_at h.slot row - 1)

-- there is room for one user more, where f counts no more than n users of a slot
pub add-room : (f : ℕ → ℕ) (n : ℕ) (row : List ℕ) (o : Option Handle) → Counts f row → ((k : ℕ) → f k ≤ n) → n < 2 ^ 64 - 1 →
    IfSome o (λ h. count_at h.slot row < 2 ^ 64 - 1)
add-room f n row None c at_most small = tt
add-room f n row (Some h) c at_most small = omega (arith, counts-at_most f n h.slot row c (at_most h.slot), small)

-- one of many names h, or a later one does
or-count : (b r : Bool) (n : ℕ) → r ≡ nat_lt 0 n → (b || r) ≡ nat_lt 0 (one_if b + n)
or-count true r n e = grind (arith, nat_tests)
or-count false r n e = rw zero-add e

pub names-step : (h : Handle) (o : Option Handle) (r : Bool) (n : ℕ) → IsAlone h o → r ≡ nat_lt 0 n →
    (names o h || r) ≡ nat_lt 0 (one_at o h.slot + n)
names-step h o r n alone e = or-count (names o h) r n e ∙ ap (λ k. nat_lt 0 (k + n)) (names-at h o alone)
