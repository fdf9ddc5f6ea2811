-- A walk over the places: which operation stands at a position among those that wait, and what is shown of the first from a number on.
use Rattle.std.proofs.Common.{◌≡◌, ℕ, zero, suc, ◌+◌, ◌<◌, ◌≤◌, true, false, List, [], ◌∷◌, find, length, drop, get_or, Option, Some, None}
use Rattle.std.proofs.Common.{refl, sym, ap, subst, ◌∙◌, inl, inr, arith}
use Rattle.std.specs.Prelude.{All, AllPairs, IfSome, IfNone, is_some, option_map, slice_get}
use Rattle.std.proofs.lemmas.Bool.{cases_lt}
use Rattle.std.proofs.lemmas.Bool.Decides.{eqb_tells}
use Rattle.ptl_types.specs.declared.handles.Handle.{Handle}
use Rattle.triggered_ops.specs.declared.spots.Spot.{Spot}
use Rattle.triggered_ops.specs.Operations.{Operation, shown, numbered, is_number}
use Rattle.triggered_ops.specs.Layout.{numbers_of, operation, op_with, before_all, operations_in, op_at, wait_with, wait_at, is_from}
use Rattle.triggered_ops.specs.Layout.{AreGone}
use Rattle.triggered_ops.proofs.Places.{wait-past, wait-within, wait_for, op-wait, op-some}
use Rattle.triggered_ops.proofs.Found.{all-operations, rising-operations, first-from, none-from}
use Rattle.triggered_ops.proofs.Rising.{found-by_number, from-least, from-alone, find_has}

-- what is left of the operations at a place, and of the position that is looked for
pub record IsPassed {D : Type 0} (ss : List (Spot D)) (i place left : ℕ) : Type 0 where
  pub same : slice_get (operations_in ss) i ≡ slice_get (operations_in (drop place ss)) left
  pub long : length (operations_in ss) + left ≡ length (operations_in (drop place ss)) + i

module _ {D : Type 0} where
  none_here : (s : Spot D) (o : Option D) (os : List (Operation D)) → is_some (wait_with s o) ≡ false → before_all (op_with s o) os ≡ os
  none_here s None os e = refl
  none_here s (Some d) os e = cc

  some_here : (s : Spot D) (o : Option D) (os : List (Operation D)) → is_some (wait_with s o) ≡ true → (p : Operation D) ×
      (op_with s o ≡ Some p) × (before_all (op_with s o) os ≡ p ∷ os)
  some_here s None os e = cc
  some_here s (Some d) os e = (operation s d, refl, refl)

  drop-none : (ss : List (Spot D)) (p : ℕ) → is_some (wait_at ss p) ≡ false → operations_in (drop p ss) ≡ operations_in (drop (suc p) ss)
  drop-none [] zero e = refl
  drop-none [] (suc p) e = refl
  drop-none (s ∷ ss) zero e = none_here s s.action (operations_in ss) e
  drop-none (s ∷ ss) (suc p) e = drop-none ss p e

  drop-some : (ss : List (Spot D)) (p : ℕ) → is_some (wait_at ss p) ≡ true → (o : Operation D) × (op_at ss p ≡ Some o) ×
      (operations_in (drop p ss) ≡ o ∷ operations_in (drop (suc p) ss))
  drop-some [] p e = cc
  drop-some (s ∷ ss) zero e = some_here s s.action (operations_in ss) e
  drop-some (s ∷ ss) (suc p) e = drop-some ss p e

  drop-past : (ss : List (Spot D)) (p : ℕ) → length ss ≤ p → operations_in (drop p ss) ≡ []
  drop-past [] zero le = refl
  drop-past [] (suc p) le = refl
  drop-past (s ∷ ss) zero le = absurd (omega (arith, le))
  drop-past (s ∷ ss) (suc p) le = drop-past ss p (omega (arith, le))

  pub passed-begin : (ss : List (Spot D)) (i : ℕ) → IsPassed ss i 0 i
  passed-begin ss i = record { same = refl; long = refl }

  pub passed-none : (ss : List (Spot D)) (i p left next : ℕ) → next ≡ suc p → IsPassed ss i p left → is_some (wait_at ss p) ≡ false →
      IsPassed ss i next left
  passed-none ss i p left next e a none =
      let out : operations_in (drop p ss) ≡ operations_in (drop next ss) = drop-none ss p none
      ∙ ap (λ n. operations_in (drop n ss)) (sym e) in
      record { same = a.same ∙ ap (λ l. slice_get l left) out; long = a.long ∙ ap (λ l. length l + i) out }

  pub passed-some : (ss : List (Spot D)) (i p left next less : ℕ) → next ≡ suc p → left ≡ suc less → IsPassed ss i p left →
      is_some (wait_at ss p) ≡ true → IsPassed ss i next less
  passed-some ss i p left next less e f a some =
      let here = drop-some ss p some in
      let out : operations_in (drop p ss) ≡ here.0 ∷ operations_in (drop next ss) = here.2
      ∙ ap (λ n. here.0 ∷ operations_in (drop n ss)) (sym e) in
      let n = ap length out in
      record { same = a.same ∙ (λ j. slice_get (out j) (f j)); long = omega (arith, a.long, n, f) }

  pub passed-here : (ss : List (Spot D)) (i p left : ℕ) → left ≡ 0 → IsPassed ss i p left → is_some (wait_at ss p) ≡ true →
      slice_get (operations_in ss) i ≡ op_at ss p
  passed-here ss i p left f a some =
      let here = drop-some ss p some in
      a.same ∙ (λ j. slice_get (here.2 j) (f j)) ∙ sym here.1

  pub passed-end : (ss : List (Spot D)) (i p left : ℕ) → length ss ≤ p → IsPassed ss i p left → length (operations_in ss) ≤ i
  passed-end ss i p left le a = let n = ap length (drop-past ss p le) in omega (arith, a.long, n)

  -- ---- what is shown of an operation at a place
  pub record IsShown (ss : List (Spot D)) (q : ℕ) (action : D) (ct : Handle) (threshold : ℕ) : Type 0 where
    pub it : Operation D
    pub is : op_at ss q ≡ Some it
    pub number : it.number ≡ get_or (numbers_of ss) q 0
    pub shown_is : numbered it ≡ (get_or (numbers_of ss) q 0, action, ct, threshold)

  op-number : (ss : List (Spot D)) (q : ℕ) (o : Operation D) → op_at ss q ≡ Some o → o.number ≡ get_or (numbers_of ss) q 0
  op-number [] q o e = cc
  op-number (s ∷ ss) zero o e = go s.action e
    where
      go : (d : Option D) → op_with s d ≡ Some o → o.number ≡ s.number
      go None e = cc
      go (Some d) e = let same : operation s d ≡ o = cc in sym (ap (λ (p : Operation D). p.number) same)
  op-number (s ∷ ss) (suc q) o e = op-number ss q o e

  pub shown-at : (ss : List (Spot D)) (q : ℕ) (action : D) (ct : Handle) (threshold : ℕ) →
      option_map shown (op_at ss q) ≡ Some (action, ct, threshold) → IsShown ss q action ct threshold
  shown-at ss q action ct threshold e = go (op_at ss q) refl e
    where
      go : (o : Option (Operation D)) → op_at ss q ≡ o → option_map shown o ≡ Some (action, ct, threshold) →
          IsShown ss q action ct threshold
      go None is e = cc
      go (Some o) is e =
          let number = op-number ss q o is in
          let same : shown o ≡ (action, ct, threshold) = cc in
          record { it = o; is = is; number = number; shown_is = λ i. (number i, (same i).0, (same i).1, (same i).2) }

  pub shown-within : (ss : List (Spot D)) (q : ℕ) (r : D × Handle × ℕ) → option_map shown (op_at ss q) ≡ Some r → q < length ss
  shown-within [] q r e = cc
  shown-within (s ∷ ss) zero r e = omega arith
  shown-within (s ∷ ss) (suc q) r e = let lt = shown-within ss q r e in omega (arith, lt)

  -- the first from a number on
  pub next-found : (ss : List (Spot D)) (n p q : ℕ) → ((k : ℕ) → k < p → get_or (numbers_of ss) k 0 < n) →
      ((k : ℕ) → p ≤ k → k < length ss → n ≤ get_or (numbers_of ss) k 0) → p ≤ q → is_some (wait_at ss q) ≡ true
      → ((k : ℕ) → p ≤ k → k < q → wait_at ss k ≡ None) → find (is_from n) (operations_in ss) ≡ op_at ss q
  next-found ss n p q below above le some before =
      first-from ss n q (λ k lt. elim (cases_lt k p) [
        | inl low ↦ inl (below k low)
        | inr high ↦ inr (before k high lt)
      ]) (above q le (wait-within ss q some)) some

  pub next-none : (ss : List (Spot D)) (n p : ℕ) → ((k : ℕ) → k < p → get_or (numbers_of ss) k 0 < n) →
      ((k : ℕ) → p ≤ k → wait_at ss k ≡ None) → find (is_from n) (operations_in ss) ≡ None
  next-none ss n p below gone = none-from ss n (λ k lt. elim (cases_lt k p) [
    | inl low ↦ inl (below k low)
    | inr high ↦ inr (gone k high)
  ])

  pub op-none : (ss : List (Spot D)) (p : ℕ) → wait_at ss p ≡ None → op_at ss p ≡ None
  op-none ss p e = go (op_at ss p) (sym (op-wait ss p) ∙ e)
    where
      go : (o : Option (Operation D)) → option_map wait_for o ≡ None → o ≡ None
      go None e = refl
      go (Some o) e = cc

  pub op-gone : (ss : List (Spot D)) (p : ℕ) → is_some (wait_at ss p) ≡ false → op_at ss p ≡ None
  op-gone ss p e = go (op_at ss p) (ap is_some (sym (op-wait ss p)) ∙ e)
    where
      go : (o : Option (Operation D)) → is_some (option_map wait_for o) ≡ false → o ≡ None
      go None e = refl
      go (Some o) e = cc

  -- ---- none from a place on
  pub more-gone : (ss : List (Spot D)) (from p next : ℕ) → next ≡ suc p → ((k : ℕ) → from ≤ k → k < p → wait_at ss k ≡ None) →
      is_some (wait_at ss p) ≡ false → (k : ℕ) → from ≤ k → k < next → wait_at ss k ≡ None
  more-gone ss from p next e h none k le lt = elim (eqb_tells k p) [
    | inl same ↦ ap (wait_at ss) same.1 ∙ go (wait_at ss p) none
    | inr other ↦ let n = other.1 in h k le (omega (arith, lt, e, n))
  ]
    where
      go : {X : Type 0} (o : Option X) → is_some o ≡ false → o ≡ None
      go None e = refl
      go (Some x) e = cc

  pub all-gone : (ss : List (Spot D)) (from p : ℕ) → length ss ≤ p → ((k : ℕ) → from ≤ k → k < p → wait_at ss k ≡ None) → AreGone from ss
  all-gone ss from p end h k le = elim (cases_lt k p) [
    | inl lt ↦ h k le lt
    | inr past ↦ wait-past ss k (omega (arith, past, end))
  ]

  -- ---- what is shown of the first from a number on
  module _ {R : Type 0} (f : R → ℕ × D × Handle × ℕ) (ss : List (Spot D)) (n q : ℕ)
      (first : find (is_from n) (operations_in ss) ≡ op_at ss q) where
    shown_one : (r : R) → option_map numbered (op_at ss q) ≡ Some (f r) → (o : Operation D) ×
        (find (is_from n) (operations_in ss) ≡ Some o) × (numbered o ≡ f r)
    shown_one r e = go (op_at ss q) first e
      where
        go : (o : Option (Operation D)) → find (is_from n) (operations_in ss) ≡ o → option_map numbered o ≡ Some (f r) →
            (o : Operation D) × (find (is_from n) (operations_in ss) ≡ Some o) × (numbered o ≡ f r)
        go None is e = cc
        go (Some o) is e = (o, is, cc)

    pub next-shown : AllPairs (λ a b. a < b) (numbers_of ss) → (r : Option R) →
        IfSome r (λ r. option_map numbered (op_at ss q) ≡ Some (f r)) →
        IfSome r (λ r. option_map numbered (find (is_number (f r).0) (operations_in ss)) ≡ Some (f r))
    next-shown rising None e = tt
    next-shown rising (Some r) e =
        let s = shown_one r e in
        let number : s.0.number ≡ (f r).0 = ap (λ (t : ℕ × D × Handle × ℕ). t.0) s.2 in
        ap (λ t. option_map numbered (find (is_number t) (operations_in ss))) (sym number)
        ∙ ap (option_map numbered) (found-by_number (is_from n) (operations_in ss) s.0 (rising-operations ss rising) s.1)
        ∙ ap (λ t. Some t) s.2

    pub next-range : (given : ℕ) → All (λ a. a < given) (numbers_of ss) → (r : Option R) →
        IfSome r (λ r. option_map numbered (op_at ss q) ≡ Some (f r)) → IfSome r (λ r. (n ≤ (f r).0) × ((f r).0 < given))
    next-range given below None e = tt
    next-range given below (Some r) e =
        let s = shown_one r e in
        let number : s.0.number ≡ (f r).0 = ap (λ (t : ℕ × D × Handle × ℕ). t.0) s.2 in
        let least = from-least n (operations_in ss) s.0 s.1 in
        let low : s.0.number < given = find_has (λ (o : Operation D). o.number < given) (is_from n) (operations_in ss) s.0
        (all-operations (λ a. a < given) ss below) s.1 in
        (subst (λ t. n ≤ t) number least, subst (λ t. t < given) number low)

    pub next-alone : AllPairs (λ a b. a < b) (numbers_of ss) → (r : Option R) →
        IfSome r (λ r. option_map numbered (op_at ss q) ≡ Some (f r)) →
        IfSome r (λ r. All (λ o. n ≤ o.number → o.number ≤ (f r).0 → numbered o ≡ f r) (operations_in ss))
    next-alone rising None e = tt
    next-alone rising (Some r) e =
        let s = shown_one r e in
        subst (λ t. All (λ (o : Operation D). n ≤ o.number → o.number ≤ t.0 → numbered o ≡ t) (operations_in ss)) s.2
        (from-alone n (operations_in ss) s.0 (rising-operations ss rising) s.1)

  pub not-none : {R : Type 0} (ss : List (Spot D)) (q : ℕ) (P : Type 0) (r : Option R) → is_some (wait_at ss q) ≡ true →
      IfNone r (op_at ss q ≡ None) → IfNone r P
  not-none ss q P None some e = let a : is_some (op_at ss q) ≡ true = op-some ss q some in let b : is_some (op_at ss q) ≡ false =
      ap is_some e in let f : true ≡ false =
      sym a ∙ b in cc
  not-none ss q P (Some r) some e = tt
