-- Whether a live thing has a slot, and what each live thing is.
use Rattle.std.proofs.Common.{◌≡◌, ℕ, zero, suc, ◌+◌, ◌<◌, false, List, [], ◌∷◌, Option, Some, None, true, nat_lt, if◌then◌else◌, is_some}
use Rattle.std.proofs.Common.{get_or, refl, ap, arith, ◌∙◌}
use Rattle.std.specs.Prelude.{All}
use Rattle.std.proofs.lemmas.Bool.Decides.{nat_tests}
use Rattle.std.proofs.lemmas.List.Elements.{All-head, All-tail, All-cons, All-nil}
use Rattle.slab.specs.Slab.{Slab, get}
use Rattle.ni_objects.specs.declared.handles.Stamped.{Stamped}
use Rattle.ni_model.specs.Tables.{Live, Table, has_slot}
use Rattle.ni_objects.specs.handles.Layout.{live_from, put_in, by_stamp, table_of, IsTable}

module _ {A : Type 0} where
  pub has_slot-put_in : (n : ℕ) (x : Live A) (xs : List (Live A)) → has_slot n (put_in x xs) ≡ has_slot n (x ∷ xs)
  has_slot-put_in n x [] = refl
  has_slot-put_in n x (y ∷ ys) = grind (arith, has_slot-put_in n x ys)

  pub has_slot-by_stamp : (n : ℕ) (xs : List (Live A)) → has_slot n (by_stamp xs) ≡ has_slot n xs
  has_slot-by_stamp n [] = refl
  has_slot-by_stamp n (x ∷ xs) = grind (arith, has_slot-put_in n x (by_stamp xs), has_slot-by_stamp n xs)

  pub has_slot-past : (n k : ℕ) (xs : List (Option (Stamped A))) → n < k → has_slot n (live_from k xs) ≡ false
  has_slot-past n k [] lt = refl
  has_slot-past n k (None ∷ xs) lt = has_slot-past n (k + 1) xs (omega arith)
  has_slot-past n k (Some x ∷ xs) lt = grind (arith, nat_tests, has_slot-past n (k + 1) xs (omega arith))

  pub has_slot-live_from : (n k d : ℕ) (xs : List (Option (Stamped A))) → n ≡ k + d →
      has_slot n (live_from k xs) ≡ is_some (get_or xs d None)
  has_slot-live_from n k d [] e = refl
  has_slot-live_from n k zero (None ∷ xs) e = has_slot-past n (k + 1) xs (omega arith)
  has_slot-live_from n k (suc d) (None ∷ xs) e = has_slot-live_from n (k + 1) d xs (omega arith)
  has_slot-live_from n k zero (Some x ∷ xs) e = grind (arith, nat_tests)
  has_slot-live_from n k (suc d) (Some x ∷ xs) e = grind (arith, nat_tests, has_slot-live_from n (k + 1) d xs (omega arith))

  pub has_slot-table : (d : ℕ) (s : Slab (Stamped A)) (n m : ℕ) (t : Table A) → table_of s n m ≡ t → has_slot d t.live ≡ is_some (get s d)
  has_slot-table d s n m t is = rw (← is) (has_slot-by_stamp d (live_from 0 s.slots) ∙ has_slot-live_from d 0 d s.slots (omega arith))

-- ---- each live thing

module _ {A : Type 0} where
  all-put_in : (P : Live A → Type 0) (x : Live A) (xs : List (Live A)) → P x → All P xs → All P (put_in x xs)
  all-put_in P x [] is all = All-cons P x [] is (All-nil P)
  all-put_in P x (y ∷ ys) is all =
      elim (nat_lt y.handle.stamp x.handle.stamp) as (λ b. All P (if b then y ∷ put_in x ys else x ∷ y ∷ ys)) [
        | true ↦ All-cons P y (put_in x ys) (All-head P y ys all) (all-put_in P x ys is (All-tail P y ys all))
        | false ↦ All-cons P x (y ∷ ys) is all
      ]

  all-by_stamp : (P : Live A → Type 0) (xs : List (Live A)) → All P xs → All P (by_stamp xs)
  all-by_stamp P [] all = all
  all-by_stamp P (x ∷ xs) all = all-put_in P x (by_stamp xs) (All-head P x xs all) (all-by_stamp P xs (All-tail P x xs all))

  all-live_from : (P : Live A → Type 0) (k : ℕ) (xs : List (Option (Stamped A))) →
      ((d : ℕ) (x : Stamped A) → get_or xs d None ≡ Some x →
      P (record { handle = record { slot = k + d; stamp = x.stamp }; value = x.value })) → All P (live_from k xs)
  all-live_from P k [] each = All-nil P
  all-live_from P k (None ∷ xs) each = all-live_from P (k + 1) xs (λ d x is. let e : k + 1 + d ≡ k + suc d = omega arith in
      rw e (each (suc d) x is))
  all-live_from P k (Some x ∷ xs) each =
      let first : k + 0 ≡ k = omega arith in
      All-cons P _ (live_from (k + 1) xs)
      (rw first at (each 0 x refl))
      (all-live_from P (k + 1) xs (λ d y is. let e : k + 1 + d ≡ k + suc d = omega arith in rw e (each (suc d) y is)))

  -- what holds of each slot that holds a thing holds of each live thing
  pub all-table : (P : Live A → Type 0) (s : Slab (Stamped A)) (n m : ℕ) (t : Table A) → table_of s n m ≡ t →
      ((d : ℕ) (x : Stamped A) → get s d ≡ Some x → P (record { handle = record { slot = d; stamp = x.stamp }; value = x.value })) →
      All P t.live
  all-table P s n m t is each =
      rw (← is) (all-by_stamp P (live_from 0 s.slots) (all-live_from P 0 s.slots (λ d x at. let e : 0 + d ≡ d = omega arith in
      rw e (each d x at))))

  -- the things at one slot are one
  pub only-table : (s : Slab (Stamped A)) (n m slot : ℕ) (t : Table A) (v : Stamped A) → table_of s n m ≡ t → get s slot ≡ Some v →
      All (λ (x : Live A). x.handle.slot ≡ slot → x.value ≡ v.value) t.live
  only-table s n m slot t v is at =
      all-table (λ (x : Live A). x.handle.slot ≡ slot → x.value ≡ v.value) s n m t is
      (λ d x there e. let same : get s slot ≡ Some x = rw (← e) there in let one : x ≡ v = cc in ap (λ (y : Stamped A). y.value) one)

  pub below-table : (s : Slab (Stamped A)) (n m : ℕ) (t : Table A) → table_of s n m ≡ t → IsTable s n m →
      All (λ (x : Live A). x.handle.slot < m) t.live
  below-table s n m t is kept = all-table (λ (x : Live A). x.handle.slot < m) s n m t is (λ d x there. kept.below d x there)
