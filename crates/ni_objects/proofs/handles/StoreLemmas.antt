-- The list of live things is read and changed as the slots are.
use Rattle.std.proofs.Common.{◌≡◌, ℕ, zero, suc, ◌+◌, ◌<◌, ◌==◌, List, [], ◌∷◌, Option, Bool, false, Some, None, IsSome, IsTrue, ◌↔◌, ◌∙◌}
use Rattle.std.proofs.Common.{get_or, set, if◌then◌else◌, refl, ap, sym, arith}
use Rattle.std.proofs.lemmas.Bool.Decides.{nat_tests}
use Rattle.slab.specs.Slab.{Slab, get, with_value}
use Rattle.ni_objects.specs.declared.handles.Stamped.{Stamped}
use Rattle.ni_model.specs.Tables.{Live, Table, lookup, change, change_one, changed}
use Rattle.ni_objects.specs.handles.Layout.{live_from, put_in, by_stamp, table_of, IsTable}
use Rattle.ptl_types.specs.declared.handles.Handle.{Handle}

pub some_same : {B : Type 0} (a b : B) → Some a ≡ Some b → a ≡ b
some_same a b e = cc

pub same_by_parts : (h : Handle) (slot stamp : ℕ) → slot ≡ h.slot → stamp ≡ h.stamp → record { slot = slot; stamp = stamp } ≡ h
same_by_parts h slot stamp a b = rw (a, b) refl

module _ {A : Type 0} where
  abbrev pub held_in : Handle → Option (Stamped A) → Option A
  held_in h None = None
  held_in h (Some x) = if x.stamp == h.stamp then Some x.value else None

  pub lookup-put_in : (h : Handle) (x : Live A) (xs : List (Live A)) → lookup h (put_in x xs) ≡ lookup h (x ∷ xs)
  lookup-put_in h x [] = refl
  lookup-put_in h x (y ∷ ys) = grind (arith, nat_tests, lookup-put_in h x ys)

  pub lookup-by_stamp : (h : Handle) (xs : List (Live A)) → lookup h (by_stamp xs) ≡ lookup h xs
  lookup-by_stamp h [] = refl
  lookup-by_stamp h (x ∷ xs) = grind (arith, lookup-put_in h x (by_stamp xs), lookup-by_stamp h xs)

  pub lookup-past : (h : Handle) (k : ℕ) (xs : List (Option (Stamped A))) → h.slot < k → lookup h (live_from k xs) ≡ None
  lookup-past h k [] lt = refl
  lookup-past h k (None ∷ xs) lt = lookup-past h (k + 1) xs (omega arith)
  lookup-past h k (Some x ∷ xs) lt = grind (arith, nat_tests, lookup-past h (k + 1) xs (omega arith))

  pub lookup-live_from : (h : Handle) (k d : ℕ) (xs : List (Option (Stamped A))) → h.slot ≡ k + d →
      lookup h (live_from k xs) ≡ held_in h (get_or xs d None)
  lookup-live_from h k d [] e = refl
  lookup-live_from h k zero (None ∷ xs) e = lookup-past h (k + 1) xs (omega arith)
  lookup-live_from h k (suc d) (None ∷ xs) e = lookup-live_from h (k + 1) d xs (omega arith)
  lookup-live_from h k zero (Some x ∷ xs) e = grind (arith, nat_tests, lookup-past h (k + 1) xs (omega arith))
  lookup-live_from h k (suc d) (Some x ∷ xs) e = grind (arith, nat_tests, lookup-live_from h (k + 1) d xs (omega arith))

  pub lookup-table_of : (h : Handle) (s : Slab (Stamped A)) (n m : ℕ) → lookup h (table_of s n m).live ≡ held_in h (get s h.slot)
  lookup-table_of h s n m = lookup-by_stamp h _ ∙ lookup-live_from h 0 h.slot s.slots (omega arith)

  pub change-put_in : (h : Handle) (f : A → A) (x : Live A) (xs : List (Live A)) → change h f (put_in x xs) ≡ put_in (change_one h f x)
      (change h f xs)
  change-put_in h f x [] = refl
  change-put_in h f x (y ∷ ys) = grind (arith, change-put_in h f x ys)

  pub change-by_stamp : (h : Handle) (f : A → A) (xs : List (Live A)) → by_stamp (change h f xs) ≡ change h f (by_stamp xs)
  change-by_stamp h f [] = refl
  change-by_stamp h f (x ∷ xs) = grind (arith, change-put_in h f x (by_stamp xs), change-by_stamp h f xs)

  pub change-past : (h : Handle) (f : A → A) (k : ℕ) (xs : List (Option (Stamped A))) → h.slot < k →
      change h f (live_from k xs) ≡ live_from k xs
  change-past h f k [] lt = refl
  change-past h f k (None ∷ xs) lt = change-past h f (k + 1) xs (omega arith)
  change-past h f k (Some x ∷ xs) lt = grind (arith, nat_tests, change-past h f (k + 1) xs (omega arith))

  pub live_from-set : (h : Handle) (k d : ℕ) (xs : List (Option (Stamped A))) (v w : A) → h.slot ≡ k + d →
      get_or xs d None ≡ Some (record { stamp = h.stamp; value = v }) →
      live_from k (set xs d (Some (record { stamp = h.stamp; value = w }))) ≡ change h (λ _. w) (live_from k xs)
  live_from-set h k d [] v w e is = cc
  live_from-set h k zero (None ∷ xs) v w e is = cc
  live_from-set h k (suc d) (None ∷ xs) v w e is = live_from-set h (k + 1) d xs v w (omega arith) is
  live_from-set h k zero (Some x ∷ xs) v w e is = grind (arith, nat_tests, change-past h (λ _. w) (k + 1) xs (omega arith))
  live_from-set h k (suc d) (Some x ∷ xs) v w e is = grind (arith, nat_tests, live_from-set h (k + 1) d xs v w (omega arith) is)

  -- ---- for the answers
  pub there_stamp : (a b : ℕ) (v : A) → IsSome (if a == b then Some v else None) → a ≡ b
  there_stamp a b v some = grind (arith, nat_tests)

  pub lookup-read : (h : Handle) (s : Slab (Stamped A)) (n m : ℕ) (t : Table A) (o : Option (Stamped A)) → table_of s n m ≡ t →
      o ≡ get s h.slot → held_in h o ≡ lookup h t.live
  lookup-read h s n m t o is e = rw (← is, lookup-table_of h s n m, ← e) refl

  pub there : (h : Handle) (o : Option (Stamped A)) → IsSome (held_in h o) → (x : Stamped A) × (o ≡ Some x) × (x.stamp ≡ h.stamp)
  there h None some = cc
  there h (Some x) some = (x, refl, there_stamp x.stamp h.stamp x.value some)

  pub table-write : (h : Handle) (s : Slab (Stamped A)) (n m : ℕ) (t : Table A) (x : Stamped A) (w : A) → table_of s n m ≡ t →
      get s h.slot ≡ Some x → x.stamp ≡ h.stamp → table_of (with_value s h.slot (record { stamp = x.stamp; value = w })) n m ≡ changed h
      (λ _. w) t
  table-write h s n m t x w is at same =
      let e : get s h.slot ≡ Some (record { stamp = h.stamp; value = x.value }) = grind (arith) in
      let a : live_from 0 (set s.slots h.slot (Some (record { stamp = h.stamp; value = w }))) ≡ change h (λ _. w) (live_from 0 s.slots) =
      live_from-set h 0 h.slot s.slots x.value w (omega arith) e in
      rw (← is, same, a, change-by_stamp h (λ _. w) (live_from 0 s.slots)) refl

  pub there_live : (h : Handle) (s : Slab (Stamped A)) (n m : ℕ) (t : Table A) → table_of s n m ≡ t → IsSome (lookup h t.live) →
      (x : Stamped A) × (get s h.slot ≡ Some x) × (x.stamp ≡ h.stamp)
  there_live h s n m t is some = there h (get s h.slot) (rw (lookup-read h s n m t (get s h.slot) is refl) some)

  pub IsSome-there : (o : Option (Stamped A)) (x : Stamped A) → o ≡ Some x → IsSome o
  IsSome-there o x e = rw e refl

  pub change-once_from : (f : A → A) (h : Handle) (k d : ℕ) (xs : List (Option (Stamped A))) (v : A) → h.slot ≡ k + d →
      get_or xs d None ≡ Some (record { stamp = h.stamp; value = v }) → change h (λ _. f v) (live_from k xs) ≡ change h f (live_from k xs)
  change-once_from f h k d [] v e is = refl
  change-once_from f h k zero (None ∷ xs) v e is = cc
  change-once_from f h k (suc d) (None ∷ xs) v e is = change-once_from f h (k + 1) d xs v (omega arith) is
  change-once_from f h k zero (Some x ∷ xs) v e is = grind (
    arith,
    nat_tests,
    change-past h (λ _. f v) (k + 1) xs (omega arith),
    change-past h f (k + 1) xs (omega arith),
  )
  change-once_from f h k (suc d) (Some x ∷ xs) v e is = grind (arith, nat_tests, change-once_from f h (k + 1) d xs v (omega arith) is)

  pub change-once : (f : A → A) (h : Handle) (s : Slab (Stamped A)) (n m : ℕ) (t : Table A) (x : Stamped A) → table_of s n m ≡ t →
      get s h.slot ≡ Some x → x.stamp ≡ h.stamp → change h (λ _. f x.value) t.live ≡ change h f t.live
  change-once f h s n m t x is at same =
      let e : get s h.slot ≡ Some (record { stamp = h.stamp; value = x.value }) = grind (arith) in
      let a : change h (λ _. f x.value) (live_from 0 s.slots) ≡ change h f (live_from 0 s.slots) =
      change-once_from f h 0 h.slot s.slots x.value (omega arith) e in
      rw (← is, ← change-by_stamp h (λ _. f x.value) (live_from 0 s.slots), a, change-by_stamp h f (live_from 0 s.slots)) refl

  pub change-absent : (f : A → A) (h : Handle) (xs : List (Live A)) → lookup h xs ≡ None → change h f xs ≡ xs
  change-absent f h [] e = refl
  change-absent f h (x ∷ xs) e = grind (arith, change-absent f h xs)

  pub none_of : (o : Option A) (b : Bool) → (IsTrue b ↔ IsSome o) → b ≡ false → o ≡ None
  none_of None b r e = refl
  none_of (Some x) b r e = cc (r.1 refl)

  -- ---- a write keeps the layout
  pub held-at : (k d : ℕ) (xs : List (Option (Stamped A))) (x y : Stamped A) (w : A) → get_or xs d None ≡ Some x →
      get_or (set xs d (Some (record { stamp = x.stamp; value = w }))) k None ≡ Some y → (z : Stamped A) × (get_or xs k None ≡ Some z) ×
      (z.stamp ≡ y.stamp)
  held-at k d [] x y w at is = let e : None ≡ Some x = at in cc
  held-at zero zero (o ∷ xs) x y w at is = let e : Some (record { stamp = x.stamp; value = w }) ≡ Some y = is in
      (x, at, ap (λ v. v.stamp) (some_same _ y e))
  held-at (suc k) zero (o ∷ xs) x y w at is = (y, is, refl)
  held-at zero (suc d) (o ∷ xs) x y w at is = (y, is, refl)
  held-at (suc k) (suc d) (o ∷ xs) x y w at is = held-at k d xs x y w at is

  pub IsTable-write : (d : ℕ) (s : Slab (Stamped A)) (n m : ℕ) (x : Stamped A) (w : A) → IsTable s n m → get s d ≡ Some x →
      IsTable (with_value s d (record { stamp = x.stamp; value = w })) n m
  IsTable-write d s n m x w t at = record {
    stamps = λ k y is. let z = held-at k d s.slots x y w at is in let lt = t.stamps k z.0 z.1 in omega (arith, lt, z.2);
    below = λ k y is. let z = held-at k d s.slots x y w at is in t.below k z.0 z.1;
    room = t.room;
    small = t.small;
    fits = t.fits;
  }

  -- what stands at one slot has one stamp
  pub stamp_at : (s : Slab (Stamped A)) (d e : ℕ) (x y : Stamped A) (n : ℕ) → d ≡ e → get s d ≡ Some x → get s e ≡ Some y → x.stamp ≡ n →
      y.stamp ≡ n
  stamp_at s d e x y n same a b stamp =
      let p : get s d ≡ Some y = rw same b in
      let q : Some x ≡ Some y = sym a ∙ p in
      ap (λ v. v.stamp) (sym (some_same x y q)) ∙ stamp
