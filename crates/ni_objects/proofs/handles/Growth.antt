-- The list of live things as a thing is put in or taken out, and how long it is.
use Rattle.std.proofs.Common.{◌≡◌, ℕ, zero, suc, ◌+◌, ◌<◌, true, false, List, [], ◌∷◌, ◌++◌, Option, Some, None, is_some, count_by, length}
use Rattle.std.proofs.Common.{get_or, cond, if◌then◌else◌, nat_lt, refl, arith, sym, ◌∙◌}
use Rattle.std.proofs.lemmas.List.Sums.{sum_by-cons}
use Rattle.std.proofs.lemmas.Bool.Decides.{nat_tests}
use Rattle.slab.specs.Slab.{Slab, get, slab_len, Updates}
use Rattle.ni_objects.specs.declared.handles.Stamped.{Stamped}
use Rattle.ni_model.specs.Tables.{Live, Table, with_new}
use Rattle.ni_objects.specs.handles.Layout.{live_from, put_in, by_stamp, table_of}

module _ {A : Type 0} where
  -- ---- how many
  pub length-put_in : (x : Live A) (xs : List (Live A)) → length (put_in x xs) ≡ length xs + 1
  length-put_in x [] = refl
  length-put_in x (y ∷ ys) = grind (arith, length-put_in x ys)

  pub length-by_stamp : (xs : List (Live A)) → length (by_stamp xs) ≡ length xs
  length-by_stamp [] = refl
  length-by_stamp (x ∷ xs) = grind (arith, length-put_in x (by_stamp xs), length-by_stamp xs)

  pub length-live_from : (k : ℕ) (xs : List (Option (Stamped A))) → length (live_from k xs) ≡ count_by is_some xs
  length-live_from k [] = refl
  length-live_from k (None ∷ xs) = length-live_from (k + 1) xs
  length-live_from k (Some x ∷ xs) = omega (
    arith,
    length-live_from (k + 1) xs,
    sum_by-cons (λ (o : Option (Stamped A)). cond (is_some o) 1 0) (Some x) xs,
  )

  pub length-table_of : (s : Slab (Stamped A)) (n m : ℕ) (t : Table A) → table_of s n m ≡ t → length t.live ≡ slab_len s
  length-table_of s n m t is = rw (← is) (length-by_stamp (live_from 0 s.slots) ∙ length-live_from 0 s.slots)

  -- ---- the youngest comes last
  abbrev pub IsOlder : ℕ → Live A → Type 0
  IsOlder n x = x.handle.stamp < n

  pub put_in-append : (x z : Live A) (ys : List (Live A)) → x.handle.stamp < z.handle.stamp →
      put_in x (ys ++ z ∷ []) ≡ put_in x ys ++ z ∷ []
  put_in-append x z [] lt = grind (arith, nat_tests)
  put_in-append x z (y ∷ ys) lt = grind (arith, put_in-append x z ys lt)

  -- the slots n and m differ in that m has this thing at d
  pub record Puts (d : ℕ) (w : Stamped A) (xs ys : List (Option (Stamped A))) : Type 0 where
    pub before : get_or xs d None ≡ None
    pub after : get_or ys d None ≡ Some w
    pub others : (e : ℕ) → (e ≡ d → ⊥) → get_or ys e None ≡ get_or xs e None

  pub live_from-none : (k : ℕ) (xs : List (Option (Stamped A))) → ((e : ℕ) → get_or xs e None ≡ None) → live_from k xs ≡ []
  live_from-none k [] none = refl
  live_from-none k (None ∷ xs) none = live_from-none (k + 1) xs (λ e. none (suc e))
  live_from-none k (Some x ∷ xs) none = let e : Some x ≡ None = none 0 in cc

  pub live_from-same : (k : ℕ) (xs ys : List (Option (Stamped A))) → ((e : ℕ) → get_or ys e None ≡ get_or xs e None) →
      live_from k ys ≡ live_from k xs
  live_from-same k [] ys same = live_from-none k ys same
  live_from-same k (x ∷ xs) [] same = sym (live_from-none k (x ∷ xs) (λ e. sym (same e)))
  live_from-same k (None ∷ xs) (None ∷ ys) same = live_from-same (k + 1) xs ys (λ e. same (suc e))
  live_from-same k (None ∷ xs) (Some y ∷ ys) same = let e : Some y ≡ None = same 0 in cc
  live_from-same k (Some x ∷ xs) (None ∷ ys) same = let e : None ≡ Some x = same 0 in cc
  live_from-same k (Some x ∷ xs) (Some y ∷ ys) same =
      let e : Some y ≡ Some x = same 0 in
      let r : live_from (k + 1) ys ≡ live_from (k + 1) xs = live_from-same (k + 1) xs ys (λ e. same (suc e)) in
      cc

  abbrev pub AllOlder : ℕ → List (Live A) → Type 0
  AllOlder n [] = Unit {0}
  AllOlder n (x ∷ xs) = (x.handle.stamp < n) × AllOlder n xs

  pub AllOlder-put_in : (n : ℕ) (x : Live A) (xs : List (Live A)) → x.handle.stamp < n → AllOlder n xs → AllOlder n (put_in x xs)
  AllOlder-put_in n x [] lt all = (lt, tt)
  AllOlder-put_in n x (y ∷ ys) lt all =
      elim (nat_lt y.handle.stamp x.handle.stamp) as (λ b. AllOlder n (if b then y ∷ put_in x ys else x ∷ y ∷ ys)) [
        | true ↦ (all.0, AllOlder-put_in n x ys lt all.1)
        | false ↦ (lt, all)
      ]

  pub AllOlder-by_stamp : (n : ℕ) (xs : List (Live A)) → AllOlder n xs → AllOlder n (by_stamp xs)
  AllOlder-by_stamp n [] all = tt
  AllOlder-by_stamp n (x ∷ xs) all = AllOlder-put_in n x (by_stamp xs) all.0 (AllOlder-by_stamp n xs all.1)

  abbrev pub StampsBelow : ℕ → List (Option (Stamped A)) → Type 0
  StampsBelow n xs = (e : ℕ) (x : Stamped A) → get_or xs e None ≡ Some x → x.stamp < n

  pub AllOlder-live_from : (n k : ℕ) (xs : List (Option (Stamped A))) → StampsBelow n xs → AllOlder n (live_from k xs)
  AllOlder-live_from n k [] below = tt
  AllOlder-live_from n k (None ∷ xs) below = AllOlder-live_from n (k + 1) xs (λ e. below (suc e))
  AllOlder-live_from n k (Some x ∷ xs) below = (below 0 x refl, AllOlder-live_from n (k + 1) xs (λ e. below (suc e)))

  pub put_in-last : (z : Live A) (xs : List (Live A)) → AllOlder z.handle.stamp xs → put_in z xs ≡ xs ++ z ∷ []
  put_in-last z [] all = refl
  put_in-last z (x ∷ xs) all = grind (arith, nat_tests, put_in-last z xs all.1, all.0)

  abbrev pub live_at : ℕ → Stamped A → Live A
  live_at k w = record { handle = record { slot = k; stamp = w.stamp }; value = w.value }

  pub Puts-tail : (d : ℕ) (w : Stamped A) (x y : Option (Stamped A)) (xs ys : List (Option (Stamped A))) →
      Puts (suc d) w (x ∷ xs) (y ∷ ys) → Puts d w xs ys
  Puts-tail d w x y xs ys p = record { before = p.before; after = p.after; others = λ e ne. p.others (suc e) (λ same. ne (omega arith)) }

  pub live_from-put : (k d : ℕ) (w : Stamped A) (xs ys : List (Option (Stamped A))) → StampsBelow w.stamp xs → Puts d w xs ys →
      by_stamp (live_from k ys) ≡ by_stamp (live_from k xs) ++ live_at (k + d) w ∷ []
  live_from-put k d w xs [] below p = let e : None ≡ Some w = p.after in cc
  live_from-put k zero w [] (y ∷ ys) below p =
      let e : y ≡ Some w = p.after in
      let r : live_from (k + 1) ys ≡ [] = live_from-none (k + 1) ys (λ e. p.others (suc e) (λ same. omega (arith, same))) in
      let z : live_at (k + 0) w ≡ live_at k w = grind arith in
      rw (e, r, z) refl
  live_from-put k zero w (Some x ∷ xs) (y ∷ ys) below p = let e : Some x ≡ None = p.before in cc
  live_from-put k zero w (None ∷ xs) (y ∷ ys) below p =
      let e : y ≡ Some w = p.after in
      let r : live_from (k + 1) ys ≡ live_from (k + 1) xs = live_from-same (k + 1) xs ys
      (λ e. p.others (suc e) (λ same. omega (arith, same))) in
      let z : live_at (k + 0) w ≡ live_at k w = grind arith in
      rw (e, r, z) (put_in-last (live_at k w) (by_stamp (live_from (k + 1) xs))
      (AllOlder-by_stamp w.stamp _ (AllOlder-live_from w.stamp (k + 1) xs (λ e. below (suc e)))))
  live_from-put k (suc d) w [] (None ∷ ys) below p =
      let r = live_from-put (k + 1) d w [] ys (λ e x is. below (suc e) x is)
      (record { before = refl; after = p.after; others = λ e ne. p.others (suc e) (λ same. ne (omega arith)) }) in
      let z : (k + 1) + d ≡ k + suc d = omega arith in
      rw (← z) r
  live_from-put k (suc d) w [] (Some y ∷ ys) below p = let e : Some y ≡ None = p.others 0 (λ same. omega (arith, same)) in cc
  live_from-put k (suc d) w (None ∷ xs) (None ∷ ys) below p =
      let z : (k + 1) + d ≡ k + suc d = omega arith in
      rw (← z) (live_from-put (k + 1) d w xs ys (λ e. below (suc e)) (Puts-tail d w None None xs ys p))
  live_from-put k (suc d) w (Some x ∷ xs) (None ∷ ys) below p = let e : None ≡ Some x = p.others 0 (λ same. omega (arith, same)) in cc
  live_from-put k (suc d) w (None ∷ xs) (Some y ∷ ys) below p = let e : Some y ≡ None = p.others 0 (λ same. omega (arith, same)) in cc
  live_from-put k (suc d) w (Some x ∷ xs) (Some y ∷ ys) below p =
      let e : Some y ≡ Some x = p.others 0 (λ same. omega (arith, same)) in
      let g : y ≡ x = cc in
      let z : (k + 1) + d ≡ k + suc d = omega arith in
      let r = live_from-put (k + 1) d w xs ys (λ e. below (suc e)) (Puts-tail d w (Some x) (Some y) xs ys p) in
      let lt : x.stamp < w.stamp = below 0 x refl in
      rw (g, r, z) (put_in-append (live_at k x) (live_at (k + suc d) w) (by_stamp (live_from (k + 1) xs)) lt)

  -- ---- for the answers
  pub table-put : (d : ℕ) (w : Stamped A) (s r : Slab (Stamped A)) (m : ℕ) (t : Table A) → table_of s w.stamp m ≡ t →
      StampsBelow w.stamp s.slots → get s d ≡ None → Updates s r d (Some w) → table_of r (w.stamp + 1) m ≡ with_new d w.value t
  table-put d w s r m t is below vacant u =
      let e : by_stamp (live_from 0 r.slots) ≡ by_stamp (live_from 0 s.slots) ++ live_at (0 + d) w ∷ [] =
      live_from-put 0 d w s.slots r.slots below (record { before = vacant; after = u.changed; others = u.others }) in
      let z : 0 + d ≡ d = omega arith in
      rw (← is, e, z) refl
