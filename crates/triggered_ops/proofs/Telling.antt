-- What telling a sum makes of the operations, place by place.
use Rattle.std.proofs.Common.{◌≡◌, ℕ, zero, suc, ◌<◌, ◌≤◌, Bool, true, false, not, cond, nat_le, List, [], ◌∷◌, map, filter, Option, Some}
use Rattle.std.proofs.Common.{None, refl, sym, ap, ◌∙◌, arith}
use Rattle.std.specs.Prelude.{option_map}
use Rattle.std.proofs.lemmas.Bool.Decides.{nat_tests}
use Rattle.std.proofs.lemmas.Bool.{eq-eqb}
use Rattle.triggered_ops.proofs.Places.{with_due, noted-at}
use Rattle.ptl_types.specs.declared.handles.Handle.{Handle}
use Rattle.ptl_types.specs.Handles.{same_handle}
use Rattle.triggered_ops.specs.declared.spots.Spot.{Spot}
use Rattle.triggered_ops.specs.declared.spots.Wait.{Wait}
use Rattle.triggered_ops.specs.Operations.{Operation, waits_on, told_if}
use Rattle.triggered_ops.specs.Hung.{threshold_of, WaitsOn}
use Rattle.triggered_ops.specs.Layout.{handle_of, operation, op_with, op_of, before_all, operations_in, wait_with, wait_at, noted_due}
use Rattle.triggered_ops.specs.Layout.{emptied}

module _ {D : Type 0} where
  -- it waits on this counting event
  on_it : (s : Spot D) (o : Option D) (ct : Handle) (x : Wait) → wait_with s o ≡ Some x → same_handle x.ct ct ≡ true →
      same_handle (handle_of s) ct ≡ true
  on_it s None ct x e is = cc
  on_it s (Some d) ct x e is = let same : handle_of s ≡ x.ct = ap ct_of e in ap (λ h. same_handle h ct) same ∙ is
    where
      ct_of : Option Wait → Handle
      ct_of None = x.ct
      ct_of (Some y) = y.ct

  tell_first : (test : Operation D → Bool) (sum : ℕ) (o : Option (Operation D)) (os : List (Operation D)) →
      map (told_if test sum) (before_all o os) ≡ before_all (option_map (told_if test sum) o) (map (told_if test sum) os)
  tell_first test sum None os = refl
  tell_first test sum (Some o) os = refl

  same_told : (s : Spot D) (v : Bool) (o : Option D) (ct : Handle) (sum : ℕ) → same_handle (handle_of s) ct ≡ true
      → option_map (told_if (waits_on ct) sum) (op_with (record s { due = v }) o) ≡ option_map (told_if (waits_on ct) sum) (op_with s o)
  same_told s v None ct sum e = refl
  same_told s v (Some d) ct sum e = rw e refl

  pub noted-told : (ss : List (Spot D)) (p : ℕ) (v : Bool) (ct : Handle) (sum : ℕ) (x : Wait) → wait_at ss p ≡ Some x →
      same_handle x.ct ct ≡ true
      → map (told_if (waits_on ct) sum) (operations_in (noted_due p v ss)) ≡ map (told_if (waits_on ct) sum) (operations_in ss)
  noted-told [] p v ct sum x e is = cc
  noted-told (s ∷ ss) zero v ct sum x e is =
      tell_first (waits_on ct) sum (op_with (record s { due = v }) s.action) (operations_in ss)
      ∙ ap (λ o. before_all o (map (told_if (waits_on ct) sum) (operations_in ss)))
      (same_told s v s.action ct sum (on_it s s.action ct x e is))
      ∙ sym (tell_first (waits_on ct) sum (op_of s) (operations_in ss))
  noted-told (s ∷ ss) (suc p) v ct sum x e is =
      tell_first (waits_on ct) sum (op_of s) (operations_in (noted_due p v ss))
      ∙ ap (before_all (option_map (told_if (waits_on ct) sum) (op_of s))) (noted-told ss p v ct sum x e is)
      ∙ sym (tell_first (waits_on ct) sum (op_of s) (operations_in ss))

  told_already : (s : Spot D) (o : Option D) (ct : Handle) (sum : ℕ) →
      ((x : Wait) → wait_with s o ≡ Some x → same_handle x.ct ct ≡ true → x.due ≡ nat_le x.threshold sum)
      → option_map (told_if (waits_on ct) sum) (op_with s o) ≡ op_with s o
  told_already s None ct sum h = refl
  told_already s (Some d) ct sum h =
      elim (same_handle (handle_of s) ct) as (λ b. same_handle (handle_of s) ct ≡ b →
      Some (record (operation s d) { due = cond b (nat_le s.threshold sum) s.due }) ≡ Some (operation s d)) [
        | true ↦ λ is. let e : s.due ≡ nat_le s.threshold sum = h (record { ct = handle_of s; threshold = s.threshold; due = s.due }) refl
            is in ap (λ v. Some (record (operation s d) { due = v })) (sym e)
        | false ↦ λ is. refl
      ] refl

  pub told-all : (ss : List (Spot D)) (ct : Handle) (sum : ℕ) → ((p : ℕ) (x : Wait) → wait_at ss p ≡ Some x → same_handle x.ct ct ≡ true →
      x.due ≡ nat_le x.threshold sum)
      → map (told_if (waits_on ct) sum) (operations_in ss) ≡ operations_in ss
  told-all [] ct sum h = refl
  told-all (s ∷ ss) ct sum h =
      tell_first (waits_on ct) sum (op_of s) (operations_in ss)
      ∙ (λ i. before_all (told_already s s.action ct sum (h 0) i) (told-all ss ct sum (λ p. h (suc p)) i))

  -- ---- those of a counting event are taken out
  off_it : (s : Spot D) (o : Option D) (ct : Handle) (os : List (Operation D)) → same_handle (handle_of s) ct ≡ true →
      filter (λ p. not (waits_on ct p)) (before_all (op_with s o) os) ≡ filter (λ p. not (waits_on ct p)) os
  off_it s None ct os e = refl
  off_it s (Some d) ct os e = rw e refl

  kept_first : (ct : Handle) (o : Option (Operation D)) (os ps : List (Operation D)) →
      filter (λ p. not (waits_on ct p)) os ≡ filter (λ p. not (waits_on ct p)) ps
      → filter (λ p. not (waits_on ct p)) (before_all o os) ≡ filter (λ p. not (waits_on ct p)) (before_all o ps)
  kept_first ct None os ps e = e
  kept_first ct (Some o) os ps e = elim (waits_on ct o) as (λ b. cond (not b) (o ∷ filter (λ p. not (waits_on ct p)) os)
      (filter (λ p. not (waits_on ct p)) os) ≡ cond (not b) (o ∷ filter (λ p. not (waits_on ct p)) ps)
      (filter (λ p. not (waits_on ct p)) ps)) [
        | true ↦ e
        | false ↦ ap (λ r. o ∷ r) e
      ]

  pub emptied-cancelled : (ss : List (Spot D)) (p : ℕ) (ct : Handle) → WaitsOn ct (wait_at ss p) →
      filter (λ p. not (waits_on ct p)) (operations_in (emptied p ss)) ≡ filter (λ p. not (waits_on ct p)) (operations_in ss)
  emptied-cancelled [] p ct w = absurd w
  emptied-cancelled (s ∷ ss) zero ct w = sym (off_it s s.action ct (operations_in ss) (go s.action w))
    where
      go : (o : Option D) → WaitsOn ct (wait_with s o) → same_handle (handle_of s) ct ≡ true
      go None w = absurd w
      go (Some d) w = w
  emptied-cancelled (s ∷ ss) (suc p) ct w = kept_first ct (op_of s) (operations_in (emptied p ss)) (operations_in ss)
      (emptied-cancelled ss p ct w)

  stays : (s : Spot D) (o : Option D) (ct : Handle) (os ps : List (Operation D)) → (WaitsOn ct (wait_with s o) → ⊥) →
      filter (λ p. not (waits_on ct p)) os ≡ ps → filter (λ p. not (waits_on ct p)) (before_all (op_with s o) os) ≡ before_all
      (op_with s o) ps
  stays s None ct os ps n e = e
  stays s (Some d) ct os ps n e = elim (same_handle (handle_of s) ct) as (λ b. same_handle (handle_of s) ct ≡ b →
      cond (not b) (operation s d ∷ filter (λ p. not (waits_on ct p)) os) (filter (λ p. not (waits_on ct p)) os) ≡ operation s d ∷ ps) [
        | true ↦ λ is. absurd (n is)
        | false ↦ λ is. ap (λ r. operation s d ∷ r) e
      ] refl

  pub none-cancelled : (ss : List (Spot D)) (ct : Handle) → ((p : ℕ) → WaitsOn ct (wait_at ss p) → ⊥) →
      filter (λ p. not (waits_on ct p)) (operations_in ss) ≡ operations_in ss
  none-cancelled [] ct h = refl
  none-cancelled (s ∷ ss) ct h = stays s s.action ct (operations_in ss) (operations_in ss) (h 0) (none-cancelled ss ct (λ p. h (suc p)))

-- due exactly where the sum has come to the threshold
pub due-is : (sum : ℕ) (x : Wait) → (x.due ≡ true → x.threshold ≤ sum) → (x.due ≡ false → sum < x.threshold) →
    x.due ≡ nat_le x.threshold sum
due-is sum x low high = elim x.due as (λ b. x.due ≡ b → b ≡ nat_le x.threshold sum) [
  | true ↦ λ e. let le = low e in sym (let yes : nat_le x.threshold sum ≡ true = grind (arith, nat_tests, le) in yes)
  | false ↦ λ e. let lt = high e in sym (let no : nat_le x.threshold sum ≡ false = grind (arith, nat_tests, lt) in no)
] refl

module _ {D : Type 0} where
  -- what is noted_due as at a sum is due as at it
  pub noted-due : (ss : List (Spot D)) (p : ℕ) (v : Bool) (sum : ℕ) → v ≡ nat_le (threshold_of (wait_at ss p)) sum → (x : Wait) →
      wait_at (noted_due p v ss) p ≡ Some x → x.due ≡ nat_le x.threshold sum
  noted-due ss p v sum is x e = go (wait_at ss p) is (sym (noted-at p v ss p
      ∙ ap (λ b. cond b (option_map (with_due v) (wait_at ss p)) (wait_at ss p)) (eq-eqb p p refl)) ∙ e)
    where
      due_of : Option Wait → Bool
      due_of None = v
      due_of (Some y) = y.due

      go : (o : Option Wait) → v ≡ nat_le (threshold_of o) sum → option_map (with_due v) o ≡ Some x → x.due ≡ nat_le x.threshold sum
      go None is e = cc
      go (Some y) is e = sym (ap due_of e) ∙ is ∙ ap (λ o. nat_le (threshold_of o) sum) e

-- an operation that is told the sum stands between those that are due by it and those that aren't
module _ (threshold sum : ℕ) (at : ℕ → Option Wait) (ct : Handle) (told : (p : ℕ) (x : Wait) → at p ≡ Some x →
    same_handle x.ct ct ≡ true → x.due ≡ nat_le x.threshold sum) where
  pub low-cross : (p : ℕ) (x : Wait) → at p ≡ Some x → same_handle x.ct ct ≡ true → nat_le threshold sum ≡ true → x.due ≡ false →
      threshold ≤ x.threshold
  low-cross p x e s here there = let d : nat_le x.threshold sum ≡ false = sym (told p x e s) ∙ there in grind (arith, nat_tests)

  pub high-cross : (p : ℕ) (x : Wait) → at p ≡ Some x → same_handle x.ct ct ≡ true → nat_le threshold sum ≡ false → x.due ≡ true →
      x.threshold ≤ threshold
  high-cross p x e s here there = let d : nat_le x.threshold sum ≡ true = sym (told p x e s) ∙ there in grind (arith, nat_tests)
