-- Counting headers by a test.
use Rattle.std.proofs.Common.{◌≡◌, ℕ, ◌+◌, ◌≤◌, Bool, true, false, not, List, [], ◌∷◌, ◌++◌, Some, length, if◌then◌else◌, nat_lt, refl, ap}
use Rattle.std.proofs.Common.{◌∙◌, nat_eq, arith}
use Rattle.ptl_types.specs.declared.handles.Handle.{Handle}
use Rattle.ptl_types.specs.declared.entries.Entry.{Entry}
use Rattle.ptl_types.specs.Handles.{same_handle}
use Rattle.ni_model.specs.declared.IndexedHeader.{IndexedHeader}
use Rattle.ni_model.specs.Headers.{names_entry, finds, oldest, without_oldest, found_in, left_in, is_of, headers_of}
use Rattle.ni_model.specs.Calls.{header_slot}
use Rattle.target_engine.specs.PortalTable.{headers_by, lies_in}
use Rattle.target_engine.proofs.Counting.{or-one}

-- this entry
abbrev pub is_entry : Handle → Handle → Bool
is_entry me h = same_handle h me

-- an entry of this slot
abbrev pub is_at_slot : ℕ → Handle → Bool
is_at_slot s h = nat_eq h.slot s

pub names-count : (me : Handle) (hs : List IndexedHeader) → names_entry me hs ≡ nat_lt 0 (headers_by (lies_in (is_entry me)) hs)
names-count me [] = refl
names-count me (a ∷ hs) = or-one (same_handle a.header.entry me) _ _ (names-count me hs)

pub header_slot-count : (s : ℕ) (hs : List IndexedHeader) → header_slot hs s ≡ nat_lt 0 (headers_by (lies_in (is_at_slot s)) hs)
header_slot-count s [] = refl
header_slot-count s (a ∷ hs) = or-one (nat_eq a.header.entry.slot s) _ _ (header_slot-count s hs)

one-at_most : (b : Bool) → (if b then 1 else 0) ≤ 1
one-at_most true = omega arith
one-at_most false = omega arith

pub unexpected-at_most : (p : IndexedHeader → Bool) (hs : List IndexedHeader) → headers_by p hs ≤ length hs
unexpected-at_most p [] = omega arith
unexpected-at_most p (a ∷ hs) = omega (arith, unexpected-at_most p hs, one-at_most (p a))

pub unexpected-all : (hs : List IndexedHeader) → headers_by (lies_in (λ h. true)) hs ≡ length hs
unexpected-all [] = refl
unexpected-all (a ∷ hs) = omega (arith, unexpected-all hs)

pub unexpected-append : (p : IndexedHeader → Bool) (xs ys : List IndexedHeader) → headers_by p (xs ++ ys) ≡ headers_by p xs + headers_by p
    ys
unexpected-append p [] ys = omega arith
unexpected-append p (a ∷ xs) ys = omega (arith, unexpected-append p xs ys)

-- the oldest that is found, and those without it
pub unexpected-oldest : (p : IndexedHeader → Bool) (pt : ℕ) (e : Entry) (hs : List IndexedHeader) (a : IndexedHeader) →
    oldest pt e hs ≡ Some a → headers_by p hs ≡ (if p a then 1 else 0) + headers_by p (without_oldest pt e hs)
unexpected-oldest p pt e [] a is = cc
unexpected-oldest p pt e (x ∷ hs) a is =
    elim (finds pt e x) as (λ b. (if b then Some x else oldest pt e hs) ≡ Some a →
    (if p x then 1 else 0) + headers_by p hs ≡ (if p a then 1 else 0) + headers_by p (if b then hs else x ∷ without_oldest pt e hs)) [
      | true ↦ λ f. let g : x ≡ a = cc in ap (λ (y : IndexedHeader). (if p y then 1 else 0) + headers_by p hs) g
      | false ↦ λ f. omega (arith, unexpected-oldest p pt e hs a f)
    ] is

-- those that are found and those that are left
pub unexpected-both : (p : IndexedHeader → Bool) (pt : ℕ) (e : Entry) (hs : List IndexedHeader) →
    headers_by p (left_in pt e hs) + headers_by p (found_in pt e hs) ≡ headers_by p hs
unexpected-both p pt e [] = refl
unexpected-both p pt e (x ∷ hs) =
    elim (finds pt e x) as (λ b. headers_by p (if not b then x ∷ left_in pt e hs else left_in pt e hs) + headers_by p
    (if b then x ∷ found_in pt e hs else found_in pt e hs) ≡ (if p x then 1 else 0) + headers_by p hs) [
      | true ↦ omega (arith, unexpected-both p pt e hs)
      | false ↦ omega (arith, unexpected-both p pt e hs)
    ]

pub unexpected-parts : (p : IndexedHeader → Bool) (pt : ℕ) (e : Entry) (hs : List IndexedHeader) →
    headers_by p (left_in pt e hs ++ found_in pt e hs) ≡ headers_by p hs
unexpected-parts p pt e hs = unexpected-append p (left_in pt e hs) (found_in pt e hs) ∙ unexpected-both p pt e hs

-- the headers of one index
pub unexpected-of : (pt : ℕ) (hs : List IndexedHeader) → length (headers_of pt hs) ≡ headers_by (is_of pt) hs
unexpected-of pt [] = refl
unexpected-of pt (x ∷ hs) =
    elim (is_of pt x) as (λ b. length (if b then x ∷ headers_of pt hs else headers_of pt hs) ≡ (if b then 1 else 0) + headers_by
    (is_of pt) hs) [
      | true ↦ omega (arith, unexpected-of pt hs)
      | false ↦ omega (arith, unexpected-of pt hs)
    ]
