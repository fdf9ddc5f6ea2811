-- Numbers of live things added up, as a thing comes, changes or goes.
use Rattle.std.proofs.Common.{◌≡◌, ℕ, ◌+◌, ◌≤◌, Bool, true, false, not, ◌||◌, nat_eq, List, [], ◌∷◌, ◌++◌, length, Option, Some, None}
use Rattle.std.proofs.Common.{filter, if◌then◌else◌, refl, ap, arith}
use Rattle.std.proofs.lemmas.Bool.Decides.{nat_tests}
use Rattle.ptl_types.specs.declared.handles.Handle.{Handle}
use Rattle.ptl_types.specs.Handles.{same_handle}
use Rattle.ni_model.specs.Tables.{Live, Table, lookup, change, without, with_new, handle, has_slot}
use Rattle.ni_objects.proofs.handles.StoreLemmas.{same_by_parts}
use Rattle.ni_objects.specs.users.Sums.{sum_of, named_as}

pub same-self : (h : Handle) → same_handle h h ≡ true
same-self h = grind (arith, nat_tests)

pub same-is : (a b : Handle) → same_handle a b ≡ true → a ≡ b
same-is a b e =
    let stamp : a.stamp ≡ b.stamp = grind (arith, nat_tests) in
    let slot : a.slot ≡ b.slot = grind (arith, nat_tests) in
    same_by_parts b a.slot a.stamp slot stamp

or-left : (a b : Bool) → (a || b) ≡ false → a ≡ false
or-left true b e = cc
or-left false b e = refl

or-right : (a b : Bool) → (a || b) ≡ false → b ≡ false
or-right true b e = cc
or-right false b e = e

pub apart-slot : (a b : Handle) → nat_eq a.slot b.slot ≡ false → same_handle a b ≡ false
apart-slot a b e = grind (arith, nat_tests)

abbrev pub one_if : Bool → ℕ
one_if b = if b then 1 else 0

module _ {A : Type 0} where
  -- the number of every thing but this one
  abbrev pub but_of : Handle → (Handle → A → ℕ) → Handle → A → ℕ
  but_of me f h v = if same_handle h me then 0 else f h v

  -- the number of the thing that was found
  abbrev pub number_at : (Handle → A → ℕ) → Handle → Option A → ℕ
  number_at f me None = 0
  number_at f me (Some v) = f me v

  -- ---- the thing of one handle apart

  pub none-there : (me : Handle) (f : Handle → A → ℕ) (xs : List (Live A)) → sum_of (named_as me) xs ≡ 0 →
      sum_of (but_of me f) xs ≡ sum_of f xs
  none-there me f [] e = refl
  none-there me f (x ∷ xs) e =
      elim (same_handle x.handle me) as (λ s. (if s then 1 else 0) + sum_of (named_as me) xs ≡ 0 →
      (if s then 0 else f x.handle x.value) + sum_of (but_of me f) xs ≡ f x.handle x.value + sum_of f xs) [
        | true ↦ λ z. absurd (omega arith)
        | false ↦ λ z. ap (λ n. f x.handle x.value + n) (none-there me f xs (omega arith))
      ] e

  pub sum-split : (me : Handle) (f : Handle → A → ℕ) (xs : List (Live A)) → sum_of (named_as me) xs ≤ 1 →
      sum_of f xs ≡ sum_of (but_of me f) xs + number_at f me (lookup me xs)
  sum-split me f [] one = refl
  sum-split me f (x ∷ xs) one =
      elim (same_handle x.handle me) as (λ s. same_handle x.handle me ≡ s → (if s then 1 else 0) + sum_of (named_as me) xs ≤ 1 →
      f x.handle x.value + sum_of f xs ≡ (if s then 0 else f x.handle x.value) + sum_of (but_of me f) xs + number_at f me
      (if s then Some x.value else lookup me xs)) [
        | true ↦ λ s le.
            let g : f x.handle x.value ≡ f me x.value = ap (λ h. f h x.value) (same-is x.handle me s) in
            omega (arith, none-there me f xs (omega arith), g)
        | false ↦ λ s le. omega (arith, sum-split me f xs (omega arith))
      ] refl one

  pub but-zero : (me : Handle) (f : Handle → A → ℕ) (xs : List (Live A)) → ((h : Handle) (v : A) → same_handle h me ≡ false → f h v ≡ 0) →
      sum_of (but_of me f) xs ≡ 0
  but-zero me f [] z = refl
  but-zero me f (x ∷ xs) z =
      elim (same_handle x.handle me) as (λ s. same_handle x.handle me ≡ s → (if s then 0 else f x.handle x.value) + sum_of (but_of me f)
      xs ≡ 0) [
        | true ↦ λ s. omega (arith, but-zero me f xs z)
        | false ↦ λ s. omega (arith, but-zero me f xs z, z x.handle x.value s)
      ] refl

  pub but-same : (me : Handle) (f g : Handle → A → ℕ) (xs : List (Live A)) →
      ((h : Handle) (v : A) → same_handle h me ≡ false → f h v ≡ g h v) → sum_of (but_of me f) xs ≡ sum_of (but_of me g) xs
  but-same me f g [] z = refl
  but-same me f g (x ∷ xs) z =
      elim (same_handle x.handle me) as (λ s. same_handle x.handle me ≡ s → (if s then 0 else f x.handle x.value) + sum_of (but_of me f)
      xs ≡ (if s then 0 else g x.handle x.value) + sum_of (but_of me g) xs) [
        | true ↦ λ s. omega (arith, but-same me f g xs z)
        | false ↦ λ s. omega (arith, but-same me f g xs z, z x.handle x.value s)
      ] refl

  pub but-le : (me : Handle) (f : Handle → A → ℕ) (xs : List (Live A)) → sum_of (but_of me f) xs ≤ sum_of f xs
  but-le me f [] = omega arith
  but-le me f (x ∷ xs) =
      elim (same_handle x.handle me) as (λ s. (if s then 0 else f x.handle x.value) + sum_of (but_of me f) xs ≤ f x.handle x.value
      + sum_of f xs) [
        | true ↦ omega (arith, but-le me f xs)
        | false ↦ omega (arith, but-le me f xs)
      ]

  -- ---- a thing comes

  pub sum-push : (f : Handle → A → ℕ) (xs : List (Live A)) (x : Live A) → sum_of f (xs ++ x ∷ []) ≡ sum_of f xs + f x.handle x.value
  sum-push f [] x = omega arith
  sum-push f (y ∷ ys) x = omega (arith, sum-push f ys x)

  -- ---- a thing goes

  pub sum-without : (me : Handle) (f : Handle → A → ℕ) (xs : List (Live A)) → sum_of f (filter (λ x. not (same_handle x.handle me)) xs)
      ≡ sum_of (but_of me f) xs
  sum-without me f [] = refl
  sum-without me f (x ∷ xs) =
      let rest : List (Live A) = filter (λ y. not (same_handle y.handle me)) xs in
      elim (same_handle x.handle me) as (λ s. sum_of f (if not s then x ∷ rest else rest) ≡ (if s then 0 else f x.handle x.value) + sum_of
      (but_of me f) xs) [
        | true ↦ omega (arith, sum-without me f xs)
        | false ↦ omega (arith, sum-without me f xs)
      ]

  -- ---- a thing changes

  pub but-changed : (me : Handle) (f : Handle → A → ℕ) (g : A → A) (xs : List (Live A)) →
      sum_of (but_of me f) (change me g xs) ≡ sum_of (but_of me f) xs
  but-changed me f g [] = refl
  but-changed me f g (x ∷ xs) =
      elim (same_handle x.handle me) as (λ s. (if s then 0 else f x.handle (if s then g x.value else x.value)) + sum_of (but_of me f)
      (change me g xs) ≡ (if s then 0 else f x.handle x.value) + sum_of (but_of me f) xs) [
        | true ↦ ap (λ n. 0 + n) (but-changed me f g xs)
        | false ↦ ap (λ n. f x.handle x.value + n) (but-changed me f g xs)
      ]

  pub named-changed : (h me : Handle) (g : A → A) (xs : List (Live A)) → sum_of (named_as h) (change me g xs) ≡ sum_of (named_as h) xs
  named-changed h me g [] = refl
  named-changed h me g (x ∷ xs) = ap (λ n. (if same_handle x.handle h then 1 else 0) + n) (named-changed h me g xs)

  pub lookup-changed : (me : Handle) (g : A → A) (xs : List (Live A)) (w : A) → lookup me xs ≡ Some w →
      lookup me (change me g xs) ≡ Some (g w)
  lookup-changed me g [] w e = cc
  lookup-changed me g (x ∷ xs) w e =
      elim (same_handle x.handle me) as (λ s. (if s then Some x.value else lookup me xs) ≡ Some w →
      (if s then Some (if s then g x.value else x.value) else lookup me (change me g xs)) ≡ Some (g w)) [
        | true ↦ λ is. let v : x.value ≡ w = cc in ap (λ y. Some (g y)) v
        | false ↦ λ is. lookup-changed me g xs w is
      ] e

  pub sum-changed : (me : Handle) (f : Handle → A → ℕ) (g : A → A) (xs : List (Live A)) (w : A) → sum_of (named_as me) xs ≤ 1 →
      lookup me xs ≡ Some w → sum_of f (change me g xs) ≡ sum_of (but_of me f) xs + f me (g w)
  sum-changed me f g xs w one at =
      let s = sum-split me f (change me g xs) (omega (arith, named-changed me me g xs)) in
      let t = rw (lookup-changed me g xs w at) at s in
      omega (arith, t, but-changed me f g xs)

  -- the number of a thing that a change leaves as it is
  pub sum-kept : (f : Handle → A → ℕ) (me : Handle) (g : A → A) (xs : List (Live A)) → ((h : Handle) (v : A) → f h (g v) ≡ f h v) →
      sum_of f (change me g xs) ≡ sum_of f xs
  sum-kept f me g [] same = refl
  sum-kept f me g (x ∷ xs) same =
      elim (same_handle x.handle me) as (λ s. f x.handle (if s then g x.value else x.value) + sum_of f (change me g xs) ≡ f x.handle
      x.value + sum_of f xs) [
        | true ↦ omega (arith, same x.handle x.value, sum-kept f me g xs same)
        | false ↦ omega (arith, sum-kept f me g xs same)
      ]

  -- of the thing that goes
  pub sum-less : (f : Handle → A → ℕ) (me : Handle) (t : Table A) (v : A) → sum_of (named_as me) t.live ≤ 1 → lookup me t.live ≡ Some v →
      sum_of f t.live ≡ sum_of f (without me t).live + f me v
  sum-less f me t v one at =
      let s = rw at at (sum-split me f t.live one) in
      omega (arith, s, sum-without me f t.live)

  pub sum-at_most : (f : Handle → A → ℕ) (xs : List (Live A)) → ((h : Handle) (v : A) → f h v ≤ 1) → sum_of f xs ≤ length xs
  sum-at_most f [] at_most = omega arith
  sum-at_most f (x ∷ xs) at_most = omega (arith, at_most x.handle x.value, sum-at_most f xs at_most)

  -- ---- no two things have one handle

  pub named-none : (h : Handle) (xs : List (Live A)) → has_slot h.slot xs ≡ false → sum_of (named_as h) xs ≡ 0
  named-none h [] e = refl
  named-none h (x ∷ xs) e =
      let here : same_handle x.handle h ≡ false = apart-slot x.handle h (or-left _ _ e) in
      rw here (omega (arith, named-none h xs (or-right (nat_eq x.handle.slot h.slot) _ e)))

  pub once-new : (slot : ℕ) (v : A) (t : Table A) → ((h : Handle) → sum_of (named_as h) t.live ≤ 1) → has_slot slot t.live ≡ false →
      (h : Handle) → sum_of (named_as h) (with_new slot v t).live ≤ 1
  once-new slot v t once free h =
      let new : Live A = record { handle = handle slot t.given; value = v } in
      let p = sum-push (named_as h) t.live new in
      elim (same_handle (handle slot t.given) h) as (λ s. same_handle (handle slot t.given) h ≡ s →
      sum_of (named_as h) (with_new slot v t).live ≡ sum_of (named_as h) t.live + (if s then 1 else 0) →
      sum_of (named_as h) (with_new slot v t).live ≤ 1) [
        | true ↦ λ e q.
            let here : has_slot h.slot t.live ≡ false = rw (← same-is (handle slot t.given) h e) free in
            omega (arith, q, named-none h t.live here)
        | false ↦ λ e q. omega (arith, q, once h)
      ] refl p

  pub once-without : (me : Handle) (t : Table A) → ((h : Handle) → sum_of (named_as h) t.live ≤ 1) → (h : Handle) →
      sum_of (named_as h) (without me t).live ≤ 1
  once-without me t once h = omega (arith, sum-without me (named_as h) t.live, but-le me (named_as h) t.live, once h)
