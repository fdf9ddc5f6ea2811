-- The list of live things as one is taken out.
use Rattle.std.proofs.Common.{◌≡◌, ℕ, zero, suc, ◌+◌, ◌<◌, ◌≤◌, Bool, true, false, not, List, [], ◌∷◌, Option, Some, None, filter, get_or}
use Rattle.std.proofs.Common.{set, if◌then◌else◌, nat_lt, refl, arith}
use Rattle.std.proofs.lemmas.Bool.Decides.{nat_tests}
use Rattle.slab.specs.Slab.{Slab, get}
use Rattle.ni_objects.specs.declared.handles.Stamped.{Stamped}
use Rattle.ni_model.specs.Tables.{Live, Table, lookup, without}
use Rattle.ni_objects.specs.handles.Layout.{live_from, put_in, by_stamp, table_of}
use Rattle.ptl_types.specs.declared.handles.Handle.{Handle}
use Rattle.ptl_types.specs.Handles.{same_handle}

pub is_below : (a b : ℕ) → nat_lt a b ≡ true → a ≤ b
is_below a b e = grind (arith, nat_tests)

pub is_above : (a b : ℕ) → nat_lt a b ≡ false → b ≤ a
is_above a b e = grind (arith, nat_tests)

module _ {A : Type 0} where
  abbrev pub keep : Handle → Live A → Bool
  keep h x = not (same_handle x.handle h)

  abbrev pub NoneOlder : ℕ → List (Live A) → Type 0
  NoneOlder n [] = Unit {0}
  NoneOlder n (x ∷ xs) = (n ≤ x.handle.stamp) × NoneOlder n xs

  abbrev pub Rising : List (Live A) → Type 0
  Rising [] = Unit {0}
  Rising (x ∷ xs) = NoneOlder x.handle.stamp xs × Rising xs

  pub NoneOlder-weaker : (m n : ℕ) (xs : List (Live A)) → m ≤ n → NoneOlder n xs → NoneOlder m xs
  NoneOlder-weaker m n [] le all = tt
  NoneOlder-weaker m n (x ∷ xs) le all = (omega (arith, all.0), NoneOlder-weaker m n xs le all.1)

  pub NoneOlder-put_in : (n : ℕ) (x : Live A) (xs : List (Live A)) → n ≤ x.handle.stamp → NoneOlder n xs → NoneOlder n (put_in x xs)
  NoneOlder-put_in n x [] le all = (le, tt)
  NoneOlder-put_in n x (y ∷ ys) le all =
      elim (nat_lt y.handle.stamp x.handle.stamp) as (λ b. NoneOlder n (if b then y ∷ put_in x ys else x ∷ y ∷ ys)) [
        | true ↦ (all.0, NoneOlder-put_in n x ys le all.1)
        | false ↦ (le, all)
      ]

  pub Rising-put_in : (x : Live A) (xs : List (Live A)) → Rising xs → Rising (put_in x xs)
  Rising-put_in x [] r = (tt, tt)
  Rising-put_in x (y ∷ ys) r =
      elim (nat_lt y.handle.stamp x.handle.stamp) as (λ b. nat_lt y.handle.stamp x.handle.stamp ≡ b →
      Rising (if b then y ∷ put_in x ys else x ∷ y ∷ ys)) [
        | true ↦ λ e. (NoneOlder-put_in y.handle.stamp x ys (is_below _ _ e) r.0, Rising-put_in x ys r.1)
        | false ↦ λ e. ((is_above _ _ e, NoneOlder-weaker x.handle.stamp y.handle.stamp ys (is_above _ _ e) r.0), r)
      ] refl

  pub Rising-by_stamp : (xs : List (Live A)) → Rising (by_stamp xs)
  Rising-by_stamp [] = tt
  Rising-by_stamp (x ∷ xs) = Rising-put_in x (by_stamp xs) (Rising-by_stamp xs)

  pub NoneOlder-filter : (n : ℕ) (p : Live A → Bool) (xs : List (Live A)) → NoneOlder n xs → NoneOlder n (filter p xs)
  NoneOlder-filter n p [] all = tt
  NoneOlder-filter n p (x ∷ xs) all =
      elim (p x) as (λ b. NoneOlder n (if b then x ∷ filter p xs else filter p xs)) [
        | true ↦ (all.0, NoneOlder-filter n p xs all.1)
        | false ↦ NoneOlder-filter n p xs all.1
      ]

  pub put_in-first : (x : Live A) (xs : List (Live A)) → NoneOlder x.handle.stamp xs → put_in x xs ≡ x ∷ xs
  put_in-first x [] all = refl
  put_in-first x (y ∷ ys) all = grind (arith, nat_tests, all.0)

  pub filter-put_in : (p : Live A → Bool) (x : Live A) (xs : List (Live A)) → Rising xs →
      filter p (put_in x xs) ≡ (if p x then put_in x (filter p xs) else filter p xs)
  filter-put_in p x [] r = refl
  filter-put_in p x (y ∷ ys) r =
      elim (nat_lt y.handle.stamp x.handle.stamp) as (λ b. nat_lt y.handle.stamp x.handle.stamp ≡ b →
      filter p (if b then y ∷ put_in x ys else x ∷ y ∷ ys) ≡ (if p x then put_in x (filter p (y ∷ ys)) else filter p (y ∷ ys))) [
        | true ↦ λ e. grind (arith, filter-put_in p x ys r.1, e)
        | false ↦ λ e. let f : put_in x (filter p (y ∷ ys)) ≡ x ∷ filter p (y ∷ ys) =
            put_in-first x (filter p (y ∷ ys))
            (NoneOlder-filter x.handle.stamp p (y ∷ ys)
            (is_above _ _ e, NoneOlder-weaker x.handle.stamp y.handle.stamp ys (is_above _ _ e) r.0)) in rw f refl
      ] refl

  pub filter-by_stamp : (p : Live A → Bool) (xs : List (Live A)) → filter p (by_stamp xs) ≡ by_stamp (filter p xs)
  filter-by_stamp p [] = refl
  filter-by_stamp p (x ∷ xs) = grind (arith, filter-put_in p x (by_stamp xs) (Rising-by_stamp xs), filter-by_stamp p xs)

  pub filter-past : (h : Handle) (k : ℕ) (xs : List (Option (Stamped A))) → h.slot < k → filter (keep h) (live_from k xs) ≡ live_from k xs
  filter-past h k [] lt = refl
  filter-past h k (None ∷ xs) lt = filter-past h (k + 1) xs (omega arith)
  filter-past h k (Some x ∷ xs) lt = grind (arith, nat_tests, filter-past h (k + 1) xs (omega arith))

  pub live_from-drop : (h : Handle) (k d : ℕ) (xs : List (Option (Stamped A))) (v : A) → h.slot ≡ k + d →
      get_or xs d None ≡ Some (record { stamp = h.stamp; value = v }) → live_from k (set xs d None) ≡ filter (keep h) (live_from k xs)
  live_from-drop h k d [] v e is = cc
  live_from-drop h k zero (None ∷ xs) v e is = cc
  live_from-drop h k (suc d) (None ∷ xs) v e is = live_from-drop h (k + 1) d xs v (omega arith) is
  live_from-drop h k zero (Some x ∷ xs) v e is = grind (arith, nat_tests, filter-past h (k + 1) xs (omega arith))
  live_from-drop h k (suc d) (Some x ∷ xs) v e is = grind (arith, nat_tests, live_from-drop h (k + 1) d xs v (omega arith) is)

  pub filter-absent : (h : Handle) (xs : List (Live A)) → lookup h xs ≡ None → filter (keep h) xs ≡ xs
  filter-absent h [] e = refl
  filter-absent h (x ∷ xs) e = grind (arith, filter-absent h xs)

  pub table-without : (h : Handle) (s r : Slab (Stamped A)) (n m : ℕ) (t : Table A) (x : Stamped A) → table_of s n m ≡ t →
      get s h.slot ≡ Some x → x.stamp ≡ h.stamp → r.slots ≡ set s.slots h.slot None → table_of r n m ≡ without h t
  table-without h s r n m t x is at same slots =
      let e : get s h.slot ≡ Some (record { stamp = h.stamp; value = x.value }) = grind arith in
      let a : live_from 0 (set s.slots h.slot None) ≡ filter (keep h) (live_from 0 s.slots) =
      live_from-drop h 0 h.slot s.slots x.value (omega arith) e in
      rw (← is, slots, a, ← filter-by_stamp (keep h) (live_from 0 s.slots)) refl
