-- No two live things share a slot: so what is live and named with the slot of a live thing is that thing.
use Rattle.std.proofs.Common.{◌≡◌, Bool, true, false, ◌||◌, nat_eq, List, [], ◌∷◌, Option, Some, None, is_some, if◌then◌else◌, refl, sym}
use Rattle.std.proofs.Common.{◌∙◌, arith}
use Rattle.std.specs.Prelude.{IsSome, IfSome, IfNone}
use Rattle.std.proofs.lemmas.Bool.Decides.{nat_tests}
use Rattle.ptl_types.specs.declared.handles.Handle.{Handle}
use Rattle.ptl_types.specs.Handles.{same_handle}
use Rattle.ni_model.specs.Tables.{Live, Table, lookup, is_live, is_live_or_none, has_slot}
use Rattle.ni_objects.specs.users.Rows.{IsAlone, HasOwnSlot}

or-true : (a : Bool) → (a || true) ≡ true
or-true true = refl
or-true false = refl

same-slots : (a b : Handle) → same_handle a b ≡ true → nat_eq a.slot b.slot ≡ true
same-slots a b e = grind (arith, nat_tests)

module _ {X : Type 0} where
  one-at : (r : Option X) (f : X → Handle) (h k : Handle) → IsSome r → IfSome r (λ x. f x ≡ h) → IfSome r (λ x. f x ≡ k) → k ≡ h
  one-at None f h k there one other = cc
  one-at (Some x) f h k there one other = sym other ∙ one

  some-at : (r : Option X) (b : Bool) → IfNone r (b ≡ false) → b ≡ true → IsSome r
  some-at None b none there = cc
  some-at (Some x) b none there = refl

module _ {A : Type 0} where
  slot-here : (h : Handle) (xs : List (Live A)) → is_some (lookup h xs) ≡ true → has_slot h.slot xs ≡ true
  slot-here h [] e = cc
  slot-here h (x ∷ xs) e =
      elim (same_handle x.handle h) as (λ b. same_handle x.handle h ≡ b → is_some (if b then Some x.value else lookup h xs) ≡ true →
      (nat_eq x.handle.slot h.slot || has_slot h.slot xs) ≡ true) [
        | true ↦ λ s f. rw (same-slots x.handle h s) refl
        | false ↦ λ s f. rw (slot-here h xs f) (or-true (nat_eq x.handle.slot h.slot))
      ] refl e

  some-is : (o : Option A) → is_some o ≡ true → IsSome o
  some-is None e = cc
  some-is (Some x) e = refl

  -- by what a look-up of the slot tells
  pub slot-found : {X : Type 0} (r : Option X) (h : Handle) (t : Table A) → is_live h t ≡ true →
      IfNone r (has_slot h.slot t.live ≡ false) → IsSome r
  slot-found r h t live none = some-at r (has_slot h.slot t.live) none (slot-here h t.live live)

  pub own-slot : {X : Type 0} (r : Option X) (f : X → Handle) (h : Handle) (t : Table A) → is_live h t ≡ true →
      IfNone r (has_slot h.slot t.live ≡ false)
      → ((k : Handle) → k.slot ≡ h.slot → IsSome (lookup k t.live) → IfSome r (λ x. f x ≡ k)) → HasOwnSlot h t
  own-slot r f h t live none alone = λ k same is. one-at r f h k (slot-found r h t live none)
      (alone h refl (some-is (lookup h t.live) live)) (alone k same (some-is (lookup k t.live) is))

  pub named-alone : (h : Handle) (o : Option Handle) (t : Table A) → HasOwnSlot h t → is_live_or_none o t ≡ true → IsAlone h o
  named-alone h None t own e = tt
  named-alone h (Some k) t own e = λ same. own k same e
