-- The chosen entry's part lies in the region.
use Rattle.std.proofs.Common.{arith, subst, ◌≡◌, ℕ, zero, suc, Bool, true, false, ◌||◌, List, [], ◌∷◌, Option, Some, None, find}
use Rattle.std.proofs.Common.{if◌then◌else◌, refl, get_or}
use Rattle.std.specs.Prelude.{All}
use Rattle.std.proofs.lemmas.List.Elements.{All-head, All-tail}
use Rattle.ptl_types.specs.declared.headers.Header.{Header}
use Rattle.ptl_types.specs.declared.entries.List.TheVariants.{Priority, Overflow}
use Rattle.ni_model.specs.Lists.{fits, Index, index_at, is_linked, is_linked_at}
use Rattle.ptl_types.specs.Handles.{same_handle}
use Rattle.std.proofs.lemmas.Bool.Decides.{nat_tests}
use Rattle.ni_model.specs.declared.Linked.{Linked}
use Rattle.ptl_types.specs.Kinds.{is_put_or_atomic}
use Rattle.ni_model.specs.Arrive.{chosen, chosen_at, as_found, or_else}
use Rattle.ni_model.specs.Conditions.{IsPartIn, HasPartsIn}
use Rattle.ni_model.specs.declared.Found.{Found}

or-true : (b : Bool) → (b || true) ≡ true
or-true true = refl
or-true false = refl

pub find_has : {A : Type 0} (P : A → Type 0) (p : A → Bool) (xs : List A) (x : A) → All P xs → find p xs ≡ Some x → P x
find_has P p [] x all e = cc
find_has P p (y ∷ ys) x all e =
    elim (p y) as (λ b. (if b then Some y else find p ys) ≡ Some x → P x) [
      | true ↦ λ is. let g : y ≡ x = cc in subst P g (All-head P y ys all)
      | false ↦ λ is. find_has P p ys x (All-tail P y ys all) is
    ] e

pub at_has : {A : Type 0} (P : A → Type 0) (xs : List A) (i : ℕ) (d : A) → All P xs → P d → P (get_or xs i d)
at_has P [] i d all e = e
at_has P (x ∷ xs) zero d all e = All-head P x xs all
at_has P (x ∷ xs) (suc i) d all e = at_has P xs i d (All-tail P x xs all) e

pub either_has : (P : Linked → Type 0) (a b : Option Linked) (f : Found) → ((x : Linked) → a ≡ Some x → P x) →
    ((x : Linked) → b ≡ Some x → P x) → or_else (as_found Priority a) (as_found Overflow b) ≡ Some f → P f.linked
either_has P None None f pa pb e = cc
either_has P None (Some y) f pa pb e = let g : y ≡ f.linked = cc in subst P g (pb y refl)
either_has P (Some x) b f pa pb e = let g : x ≡ f.linked = cc in subst P g (pa x refl)

pub cases_has : (P : Linked → Type 0) (t : Bool) (a b : Option Linked) (f : Found) → ((x : Linked) → a ≡ Some x → P x) →
    ((x : Linked) → b ≡ Some x → P x) → or_else (as_found Priority a) (if t then as_found Overflow b else None) ≡ Some f → P f.linked
cases_has P true a b f pa pb e = either_has P a b f pa pb e
cases_has P false a b f pa pb e = either_has P a None f pa (λ x is. cc) e

pub chosen_at-within : (n : ℕ) (h : Header) (o : Option Index) (f : Found) → HasPartsIn n o → chosen_at h o ≡ Some f → IsPartIn n f.linked
chosen_at-within n h None f has e = cc
chosen_at-within n h (Some i) f has e =
    cases_has (IsPartIn n) (is_put_or_atomic h.kind) (find (fits h) i.priority) (find (fits h) i.overflow) f
    (λ x is. find_has (IsPartIn n) (fits h) i.priority x has.0 is) (λ x is. find_has (IsPartIn n) (fits h) i.overflow x has.1 is) e

pub chosen-within : (n : ℕ) (h : Header) (is : List (Option Index)) (f : Found) → All (HasPartsIn n) is → chosen h is ≡ Some f →
    IsPartIn n f.linked
chosen-within n h is f all e = chosen_at-within n h (index_at h.pt is) f (at_has (HasPartsIn n) is h.pt None all tt) e

-- ---- the list that took the message holds its entry

pub find-linked : (p : Linked → Bool) (xs : List Linked) (x : Linked) → find p xs ≡ Some x → is_linked x.handle xs ≡ true
find-linked p [] x e = cc
find-linked p (y ∷ ys) x e =
    elim (p y) as (λ b. (if b then Some y else find p ys) ≡ Some x → is_linked x.handle (y ∷ ys) ≡ true) [
      | true ↦ λ is. let g : y ≡ x = cc in let s : same_handle y.handle x.handle ≡ true = rw g (grind (arith, nat_tests)) in rw s refl
      | false ↦ λ is. rw (find-linked p ys x is) (or-true (same_handle y.handle x.handle))
    ] e

either-linked : (i : Index) (a b : Option Linked) (f : Found) → ((x : Linked) → a ≡ Some x → is_linked x.handle i.priority ≡ true) →
    ((x : Linked) → b ≡ Some x → is_linked x.handle i.overflow ≡ true) → or_else (as_found Priority a) (as_found Overflow b) ≡ Some f →
    is_linked_at f.list f.linked.handle (Some i) ≡ true
either-linked i None None f pa pb e = cc
either-linked i None (Some y) f pa pb e = let g : record { list = Overflow; linked = y } ≡ f = cc in let P : Found → Type 0 =
    λ z. is_linked_at z.list
    z.linked.handle (Some i) ≡ true
    in subst P g (pb y refl)
either-linked i (Some x) b f pa pb e = let g : record { list = Priority; linked = x } ≡ f = cc in let P : Found → Type 0 =
    λ z. is_linked_at z.list
    z.linked.handle (Some i) ≡ true in
    subst P g (pa x refl)

cases-linked : (i : Index) (t : Bool) (a b : Option Linked) (f : Found) →
    ((x : Linked) → a ≡ Some x → is_linked x.handle i.priority ≡ true) →
    ((x : Linked) → b ≡ Some x → is_linked x.handle i.overflow ≡ true) →
    or_else (as_found Priority a) (if t then as_found Overflow b else None) ≡ Some f → is_linked_at f.list f.linked.handle (Some i) ≡ true
cases-linked i true a b f pa pb e = either-linked i a b f pa pb e
cases-linked i false a b f pa pb e = either-linked i a None f pa (λ x is. cc) e

chosen_at-linked : (h : Header) (o : Option Index) (f : Found) → chosen_at h o ≡ Some f → is_linked_at f.list f.linked.handle o ≡ true
chosen_at-linked h None f e = cc
chosen_at-linked h (Some i) f e =
    cases-linked i (is_put_or_atomic h.kind) (find (fits h) i.priority) (find (fits h) i.overflow) f
    (λ x is. find-linked (fits h) i.priority x is) (λ x is. find-linked (fits h) i.overflow x is) e

pub chosen-linked : (h : Header) (is : List (Option Index)) (f : Found) → chosen h is ≡ Some f →
    is_linked_at f.list f.linked.handle (index_at h.pt is) ≡ true
chosen-linked h is f e = chosen_at-linked h (index_at h.pt is) f e
