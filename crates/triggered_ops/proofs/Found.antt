-- Finding operations by their numbers.
use Rattle.std.proofs.Common.{◌≡◌, ℕ, zero, suc, ◌+◌, ◌<◌, ◌≤◌, true, false, not, List, [], ◌∷◌, filter, find, length, get_or, Option, Some}
use Rattle.std.proofs.Common.{None, refl, sym, ap, subst, ◌∙◌, inl, inr, arith}
use Rattle.std.specs.Prelude.{◌⊎◌, All, AllPairs, is_some}
use Rattle.std.proofs.lemmas.Bool.{cases_lt, ne_eqb, eq-eqb}
use Rattle.std.proofs.lemmas.Bool.Decides.{eqb_tells, nat_tests}
use Rattle.std.proofs.lemmas.List.{length-map}
use Rattle.std.proofs.lemmas.List.Elements.{All-head, All-tail, All-nil, All-cons}
use Rattle.std.proofs.lemmas.List.Kept.{AllPairs-cons}
use Rattle.triggered_ops.specs.declared.spots.Spot.{Spot}
use Rattle.triggered_ops.specs.Operations.{Operation, is_number}
use Rattle.triggered_ops.specs.Layout.{numbers_of, operation, op_with, before_all, operations_in, op_at, wait_with, wait_at, emptied}
use Rattle.triggered_ops.specs.Layout.{is_from}
use Rattle.triggered_ops.proofs.Rising.{Rises, pairs-head, pairs-tail, is_number-later, filter-absent}

abbrev Lower : ℕ → ℕ → Type 0
Lower a b = a < b

module _ {D : Type 0} where
  pub find-behind : (t : ℕ) (p : Operation D) (ps : List (Operation D)) → p.number ≡ t → All (Rises p) ps → find (is_number t) ps ≡ None
  find-behind t p [] e all = refl
  find-behind t p (q ∷ qs) e all =
      let a : is_number t q ≡ false = is_number-later t p q e (All-head (Rises p) q qs all) in
      rw a (find-behind t p qs e (All-tail (Rises p) q qs all))

  -- ---- among the places
  pub all-operations : (P : ℕ → Type 0) (ss : List (Spot D)) → All P (numbers_of ss) →
      All (λ (o : Operation D). P o.number) (operations_in ss)
  all-operations P [] all = All-nil (λ (o : Operation D). P o.number)
  all-operations P (s ∷ ss) all = go s.action (all-operations P ss (All-tail P s.number (numbers_of ss) all))
    where
      go : (o : Option D) → All (λ (o : Operation D). P o.number) (operations_in ss) →
          All (λ (o : Operation D). P o.number) (before_all (op_with s o) (operations_in ss))
      go None rest = rest
      go (Some d) rest = All-cons (λ (o : Operation D). P o.number) (operation s d) (operations_in ss)
          (All-head P s.number (numbers_of ss) all) rest

  pub rising-operations : (ss : List (Spot D)) → AllPairs (λ a b. a < b) (numbers_of ss) → AllPairs Rises (operations_in ss)
  rising-operations [] all = λ i j d lt within. absurd (omega arith)
  rising-operations (s ∷ ss) all = go s.action (rising-operations ss (pairs-tail Lower s.number (numbers_of ss) all))
    where
      go : (o : Option D) → AllPairs Rises (operations_in ss) → AllPairs Rises (before_all (op_with s o) (operations_in ss))
      go None rest = rest
      go (Some d) rest = AllPairs-cons Rises (operation s d) (operations_in ss)
          (all-operations (λ n. s.number < n) ss (pairs-head Lower s.number (numbers_of ss) all)) rest

  find-higher : (t : ℕ) (os : List (Operation D)) → All (λ o. t < o.number) os → find (is_number t) os ≡ None
  find-higher t [] all = refl
  find-higher t (o ∷ os) all =
      let lt : t < o.number = All-head (λ (o : Operation D). t < o.number) o os all in
      let other : is_number t o ≡ false = grind (arith, nat_tests) in
      rw other (find-higher t os (All-tail (λ (o : Operation D). t < o.number) o os all))

  above-all : (s : Spot D) (ss : List (Spot D)) → AllPairs (λ a b. a < b) (numbers_of (s ∷ ss)) → (t : ℕ) → s.number ≡ t →
      find (is_number t) (operations_in ss) ≡ None
  above-all s ss all t e = find-higher t (operations_in ss) (subst (λ (n : ℕ). All (λ (o : Operation D). n < o.number) (operations_in ss))
      e (all-operations (λ n. s.number < n) ss (pairs-head Lower s.number (numbers_of ss) all)))

  find-skip : (t : ℕ) (s : Spot D) (o : Option D) (os : List (Operation D)) → (s.number ≡ t → ⊥) →
      find (is_number t) (before_all (op_with s o) os) ≡ find (is_number t) os
  find-skip t s None os n = refl
  find-skip t s (Some d) os n = let other : is_number t (operation s d) ≡ false = ne_eqb s.number t n in rw other refl

  find-head : (t : ℕ) (s : Spot D) (o : Option D) (os : List (Operation D)) → s.number ≡ t → find (is_number t) os ≡ None →
      find (is_number t) (before_all (op_with s o) os) ≡ op_with s o
  find-head t s None os e n = n
  find-head t s (Some d) os e n = let same : is_number t (operation s d) ≡ true = eq-eqb s.number t e in rw same refl

  pub found-at : (ss : List (Spot D)) (t p : ℕ) → AllPairs (λ a b. a < b) (numbers_of ss) → p < length (numbers_of ss) →
      get_or (numbers_of ss) p 0 ≡ t → find (is_number t) (operations_in ss) ≡ op_at ss p
  found-at [] t p all lt e = absurd (omega (arith, lt))
  found-at (s ∷ ss) t zero all lt e = find-head t s s.action (operations_in ss) e (above-all s ss all t e)
  found-at (s ∷ ss) t (suc p) all lt e =
      let lower : s.number < get_or (numbers_of ss) p 0 = pairs-head Lower s.number (numbers_of ss) all p 0 (omega (arith, lt)) in
      find-skip t s s.action (operations_in ss) (λ same. omega (arith, lower, e, same))
      ∙ found-at ss t p (pairs-tail Lower s.number (numbers_of ss) all) (omega (arith, lt)) e

  pub found-here : (ss : List (Spot D)) (t p : ℕ) → AllPairs (λ a b. a < b) (numbers_of ss) → (p < length ss) ×
      (get_or (numbers_of ss) p 0 ≡ t) → find (is_number t) (operations_in ss) ≡ op_at ss p
  found-here ss t p all f = found-at ss t p all (let l = length-map ss (λ (s : Spot D). s.number) in let lt = f.0 in omega (arith, l, lt))
      f.1

  pub found-none : (ss : List (Spot D)) (t : ℕ) → ((k : ℕ) → k < length (numbers_of ss) → get_or (numbers_of ss) k 0 ≡ t → ⊥) →
      find (is_number t) (operations_in ss) ≡ None
  found-none [] t none = refl
  found-none (s ∷ ss) t none = find-skip t s s.action (operations_in ss) (none 0 (omega arith))
      ∙ found-none ss t (λ k lt e. none (suc k) (omega (arith, lt)) e)

  -- ---- one is taken out
  filter-skip : (t : ℕ) (s : Spot D) (o : Option D) (os ps : List (Operation D)) → (s.number ≡ t → ⊥) →
      ps ≡ filter (λ q. not (is_number t q)) os
      → before_all (op_with s o) ps ≡ filter (λ q. not (is_number t q)) (before_all (op_with s o) os)
  filter-skip t s None os ps n e = e
  filter-skip t s (Some d) os ps n e = let other : is_number t (operation s d) ≡ false = ne_eqb s.number t n in
      rw other (ap (λ r. operation s d ∷ r) e)

  filter-head : (t : ℕ) (s : Spot D) (o : Option D) (os : List (Operation D)) → s.number ≡ t → find (is_number t) os ≡ None →
      os ≡ filter (λ q. not (is_number t q)) (before_all (op_with s o) os)
  filter-head t s None os e n = sym (filter-absent (is_number t) os n)
  filter-head t s (Some d) os e n = let same : is_number t (operation s d) ≡ true = eq-eqb s.number t e in
      rw same (sym (filter-absent (is_number t) os n))

  pub emptied-without : (ss : List (Spot D)) (t p : ℕ) → AllPairs (λ a b. a < b) (numbers_of ss) → p < length (numbers_of ss) →
      get_or (numbers_of ss) p 0 ≡ t
      → operations_in (emptied p ss) ≡ filter (λ q. not (is_number t q)) (operations_in ss)
  emptied-without [] t p all lt e = absurd (omega (arith, lt))
  emptied-without (s ∷ ss) t zero all lt e = filter-head t s s.action (operations_in ss) e (above-all s ss all t e)
  emptied-without (s ∷ ss) t (suc p) all lt e =
      let lower : s.number < get_or (numbers_of ss) p 0 = pairs-head Lower s.number (numbers_of ss) all p 0 (omega (arith, lt)) in
      filter-skip t s s.action (operations_in ss) (operations_in (emptied p ss)) (λ same. omega (arith, lower, e, same))
      (emptied-without ss t p (pairs-tail Lower s.number (numbers_of ss) all) (omega (arith, lt)) e)

  pub emptied-here : (ss : List (Spot D)) (t p : ℕ) → AllPairs (λ a b. a < b) (numbers_of ss) → (p < length ss) ×
      (get_or (numbers_of ss) p 0 ≡ t) → operations_in (emptied p ss) ≡ filter (λ q. not (is_number t q)) (operations_in ss)
  emptied-here ss t p all f = emptied-without ss t p all (let l = length-map ss (λ (s : Spot D). s.number) in let lt = f.0 in
      omega (arith, l, lt)) f.1

  -- what a search by halves tells
  pub none-between : (ss : List (Spot D)) (t p : ℕ) → ((k : ℕ) → k < p → get_or (numbers_of ss) k 0 < t) →
      ((k : ℕ) → p ≤ k → k < length ss → t ≤ get_or (numbers_of ss) k 0) → AllPairs (λ a b. a < b) (numbers_of ss)
      → (p < length ss → get_or (numbers_of ss) p 0 ≡ t → ⊥) → find (is_number t) (operations_in ss) ≡ None
  none-between ss t p below above all n = found-none ss t (λ k lt e.
      let l = length-map ss (λ (s : Spot D). s.number) in
      elim (cases_lt k p) [
        | inl low ↦ let h = below k low in omega (arith, h, e)
        | inr high ↦ elim (eqb_tells k p) [
          | inl same ↦ n (let i = same.1 in omega (arith, l, lt, i)) (ap (λ i. get_or (numbers_of ss) i 0) (sym same.1) ∙ e)
          | inr other ↦
              let differ = other.1 in
              let next : p < k = omega (arith, high, differ) in
              let first = above p (omega arith) (omega (arith, l, lt, next)) in
              let more : get_or (numbers_of ss) p 0 < get_or (numbers_of ss) k 0 = all p k 0 next lt in
              omega (arith, first, more, e)
        ]
      ])

  -- ---- the first from a number on
  skip-from : (n : ℕ) (s : Spot D) (o : Option D) (os : List (Operation D)) → (s.number < n) ⊎ (wait_with s o ≡ None) →
      find (is_from n) (before_all (op_with s o) os) ≡ find (is_from n) os
  skip-from n s None os h = refl
  skip-from n s (Some d) os (inl lt) = let other : is_from n (operation s d) ≡ false = grind (arith, nat_tests) in rw other refl
  skip-from n s (Some d) os (inr e) = cc

  take-from : (n : ℕ) (s : Spot D) (o : Option D) (os : List (Operation D)) → n ≤ s.number → is_some (wait_with s o) ≡ true →
      find (is_from n) (before_all (op_with s o) os) ≡ op_with s o
  take-from n s None os le e = cc
  take-from n s (Some d) os le e = let same : is_from n (operation s d) ≡ true = grind (arith, nat_tests) in rw same refl

  pub first-from : (ss : List (Spot D)) (n q : ℕ) → ((k : ℕ) → k < q → (get_or (numbers_of ss) k 0 < n) ⊎ (wait_at ss k ≡ None)) →
      n ≤ get_or (numbers_of ss) q 0 → is_some (wait_at ss q) ≡ true
      → find (is_from n) (operations_in ss) ≡ op_at ss q
  first-from [] n q before le e = cc
  first-from (s ∷ ss) n zero before le e = take-from n s s.action (operations_in ss) le e
  first-from (s ∷ ss) n (suc q) before le e =
      skip-from n s s.action (operations_in ss) (before 0 (omega arith)) ∙ first-from ss n q (λ k lt. before (suc k) (omega (arith, lt)))
      le e

  pub none-from : (ss : List (Spot D)) (n : ℕ) → ((k : ℕ) → k < length (numbers_of ss) →
      (get_or (numbers_of ss) k 0 < n) ⊎ (wait_at ss k ≡ None)) → find (is_from n) (operations_in ss) ≡ None
  none-from [] n h = refl
  none-from (s ∷ ss) n h = skip-from n s s.action (operations_in ss) (h 0 (omega arith))
      ∙ none-from ss n (λ k lt. h (suc k) (omega (arith, lt)))

-- ---- a search by halves
pub record IsBetween (ns : List ℕ) (n low high : ℕ) : Type 0 where
  pub order : low ≤ high
  pub within : high ≤ length ns
  pub below : (k : ℕ) → k < low → get_or ns k 0 < n
  pub above : (k : ℕ) → high ≤ k → k < length ns → n ≤ get_or ns k 0

pub between-begin : (ns : List ℕ) (n high : ℕ) → high ≡ length ns → IsBetween ns n 0 high
between-begin ns n high e = record {
  order = omega arith;
  within = omega (arith, e);
  below = λ k lt. absurd (omega (arith, lt));
  above = λ k le lt. absurd (omega (arith, le, lt, e));
}

pub between-up : (ns : List ℕ) (n low high m next : ℕ) → next ≡ m + 1 → AllPairs (λ a b. a < b) ns → IsBetween ns n low high → low ≤ m →
    m < high → get_or ns m 0 < n → IsBetween ns n next high
between-up ns n low high m next e all b le lt less = record {
  order = omega (arith, e, lt);
  within = b.within;
  below = λ k kl. elim (eqb_tells k m) [
    | inl same ↦ subst (λ (i : ℕ). get_or ns i 0 < n) (sym same.1) less
    | inr other ↦
        let differ = other.1 in
        let low : k < m = omega (arith, kl, e, differ) in
        let more : get_or ns k 0 < get_or ns m 0 = all k m 0 low (omega (arith, lt, b.within)) in
        omega (arith, more, less)
  ];
  above = b.above;
}

pub between-down : (ns : List ℕ) (n low high m : ℕ) → AllPairs (λ a b. a < b) ns → IsBetween ns n low high → low ≤ m → m < high →
    n ≤ get_or ns m 0 → IsBetween ns n low m
between-down ns n low high m all b le lt more = record {
  order = le;
  within = omega (arith, lt, b.within);
  below = b.below;
  above = λ k mk kl. elim (eqb_tells k m) [
    | inl same ↦ subst (λ (i : ℕ). n ≤ get_or ns i 0) (sym same.1) more
    | inr other ↦
        let differ = other.1 in
        let high : m < k = omega (arith, mk, differ) in
        let next : get_or ns m 0 < get_or ns k 0 = all m k 0 high kl in
        omega (arith, next, more)
  ];
}
