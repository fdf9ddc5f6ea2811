-- Places: what one change of them makes of what waits, of the operations, the numbers and the marks.
use Rattle.std.proofs.Common.{◌≡◌, ◌≢◌, ℕ, zero, suc, ◌+◌, ◌-◌, ◌<◌, ◌≤◌, Bool, true, false, cond, nat_eq, List, [], ◌∷◌, ◌++◌, map, filter}
use Rattle.std.proofs.Common.{length, take, get_or, set, replicate, sum, Option, Some, None, refl, sym, ap, subst, ◌∙◌, inl, inr, arith}
use Rattle.std.proofs.Common.{length-set}
use Rattle.std.specs.Prelude.{is_some, option_map, slice_get}
use Rattle.std.proofs.lemmas.Bool.Decides.{eqb_tells}
use Rattle.std.proofs.lemmas.List.{length-map, set-append_left}
use Rattle.std.proofs.lemmas.List.Sums.{sum_by-cons}
use Rattle.ptl_types.specs.declared.handles.Handle.{Handle}
use Rattle.ptl_types.specs.Handles.{same_handle}
use Rattle.triggered_ops.specs.declared.spots.Spot.{Spot}
use Rattle.triggered_ops.specs.declared.spots.Wait.{Wait}
use Rattle.triggered_ops.specs.Operations.{Operation, is_due, action_of}
use Rattle.triggered_ops.specs.Hung.{threshold_of, IsSame, WaitsOn}
use Rattle.triggered_ops.specs.Layout.{Spotted, numbers_of, operation, op_with, op_of, before_all, operations_in, op_at, wait_with, wait_of}
use Rattle.triggered_ops.specs.Layout.{wait_at, changed, noted_due, emptied, mark_with, dues_of}

abbrev pub with_due : Bool → Wait → Wait
with_due due x = record x { due = due }

module _ {D : Type 0} where
  -- ---- one place is changed
  module _ (f : Spot D → Spot D) where
    pub changed-here : (g : Option Wait → Option Wait) → ((s : Spot D) → wait_of (f s) ≡ g (wait_of s)) → g None ≡ None →
        (p : ℕ) (ss : List (Spot D)) → wait_at (changed f p ss) p ≡ g (wait_at ss p)
    changed-here g h n p [] = sym n
    changed-here g h n zero (s ∷ ss) = h s
    changed-here g h n (suc p) (s ∷ ss) = changed-here g h n p ss

    pub changed-other : (p q : ℕ) (ss : List (Spot D)) → q ≢ p → wait_at (changed f p ss) q ≡ wait_at ss q
    changed-other p q [] n = refl
    changed-other zero zero (s ∷ ss) n = absurd (n refl)
    changed-other zero (suc q) (s ∷ ss) n = refl
    changed-other (suc p) zero (s ∷ ss) n = refl
    changed-other (suc p) (suc q) (s ∷ ss) n = changed-other p q ss (λ e. n (ap (λ i. suc i) e))

    pub changed-numbers : ((s : Spot D) → (f s).number ≡ s.number) → (p : ℕ) (ss : List (Spot D)) →
        numbers_of (changed f p ss) ≡ numbers_of ss
    changed-numbers h p [] = refl
    changed-numbers h zero (s ∷ ss) = ap (λ n. n ∷ numbers_of ss) (h s)
    changed-numbers h (suc p) (s ∷ ss) = ap (λ r. s.number ∷ r) (changed-numbers h p ss)

    pub changed-length : (p : ℕ) (ss : List (Spot D)) → length (changed f p ss) ≡ length ss
    changed-length p [] = refl
    changed-length zero (s ∷ ss) = refl
    changed-length (suc p) (s ∷ ss) = ap (λ n. suc n) (changed-length p ss)

    -- as a write to the element
    pub changed-set : (p : ℕ) (ss : List (Spot D)) (d : Spot D) → p < length ss → set ss p (f (get_or ss p d)) ≡ changed f p ss
    changed-set p [] d lt = absurd (omega (arith, lt))
    changed-set zero (s ∷ ss) d lt = refl
    changed-set (suc p) (s ∷ ss) d lt = ap (λ r. s ∷ r) (changed-set p ss d (omega (arith, lt)))

    pub changed-dues : (p v : ℕ) (ss : List (Spot D)) → ((s : Spot D) → wait_of s ≡ wait_at ss p → mark_with (f s).due (f s).action ≡ v) →
        dues_of (changed f p ss) ≡ set (dues_of ss) p v
    changed-dues p v [] h = refl
    changed-dues zero v (s ∷ ss) h = ap (λ n. n ∷ dues_of ss) (h s refl)
    changed-dues (suc p) v (s ∷ ss) h = ap (λ r. mark_with s.due s.action ∷ r) (changed-dues p v ss h)

  -- it is noted_due
  due_with : (v : Bool) (s : Spot D) (o : Option D) → wait_with (record s { due = v }) o ≡ option_map (with_due v) (wait_with s o)
  due_with v s None = refl
  due_with v s (Some d) = refl

  pub noted-at : (p : ℕ) (v : Bool) (ss : List (Spot D)) (q : ℕ) →
      wait_at (noted_due p v ss) q ≡ cond (nat_eq q p) (option_map (with_due v) (wait_at ss q)) (wait_at ss q)
  noted-at p v ss q = elim (eqb_tells q p) [
    | inl same ↦ rw same.0 (ap (wait_at (noted_due p v ss)) same.1 ∙ changed-here (λ s. record s { due = v }) (option_map (with_due v))
        (λ s. due_with v s s.action) refl p ss ∙ ap (λ i. option_map (with_due v) (wait_at ss i)) (sym same.1))
    | inr other ↦ rw other.0 (changed-other (λ s. record s { due = v }) p q ss other.1)
  ]

  pub noted-numbers : (p : ℕ) (v : Bool) (ss : List (Spot D)) → numbers_of (noted_due p v ss) ≡ numbers_of ss
  noted-numbers p v ss = changed-numbers (λ s. record s { due = v }) (λ s. refl) p ss

  -- it is emptied
  pub emptied-at : (p : ℕ) (ss : List (Spot D)) (q : ℕ) → wait_at (emptied p ss) q ≡ cond (nat_eq q p) None (wait_at ss q)
  emptied-at p ss q = elim (eqb_tells q p) [
    | inl same ↦ rw same.0 (ap (wait_at (emptied p ss)) same.1 ∙ changed-here (λ s. record s { action = None }) (λ o. None) (λ s. refl) refl
        p ss)
    | inr other ↦ rw other.0 (changed-other (λ s. record s { action = None }) p q ss other.1)
  ]

  pub emptied-numbers : (p : ℕ) (ss : List (Spot D)) → numbers_of (emptied p ss) ≡ numbers_of ss
  emptied-numbers p ss = changed-numbers (λ s. record s { action = None }) (λ s. refl) p ss

  -- ---- what waits at a place
  pub wait-past : (ss : List (Spot D)) (p : ℕ) → length ss ≤ p → wait_at ss p ≡ None
  wait-past [] p le = refl
  wait-past (s ∷ ss) zero le = absurd (omega (arith, le))
  wait-past (s ∷ ss) (suc p) le = wait-past ss p (omega (arith, le))

  pub wait-within : (ss : List (Spot D)) (p : ℕ) → is_some (wait_at ss p) ≡ true → p < length ss
  wait-within [] p e = cc
  wait-within (s ∷ ss) zero e = omega arith
  wait-within (s ∷ ss) (suc p) e = let r = wait-within ss p e in omega (arith, r)

  pub wait-get : (ss : List (Spot D)) (p : ℕ) (d : Spot D) → p < length ss → wait_at ss p ≡ wait_of (get_or ss p d)
  wait-get [] p d lt = absurd (omega (arith, lt))
  wait-get (s ∷ ss) zero d lt = refl
  wait-get (s ∷ ss) (suc p) d lt = wait-get ss p d (omega (arith, lt))

  pub op-get : (ss : List (Spot D)) (p : ℕ) (d : Spot D) → p < length ss → op_at ss p ≡ op_of (get_or ss p d)
  op-get [] p d lt = absurd (omega (arith, lt))
  op-get (s ∷ ss) zero d lt = refl
  op-get (s ∷ ss) (suc p) d lt = op-get ss p d (omega (arith, lt))

  pub op-past : (ss : List (Spot D)) (p : ℕ) → length ss ≤ p → op_at ss p ≡ None
  op-past [] p le = refl
  op-past (s ∷ ss) zero le = absurd (omega (arith, le))
  op-past (s ∷ ss) (suc p) le = op-past ss p (omega (arith, le))

  -- of an operation
  abbrev pub wait_for : Operation D → Wait
  wait_for o = record { ct = o.ct; threshold = o.threshold; due = o.due }

  op_wait_with : (s : Spot D) (o : Option D) → wait_with s o ≡ option_map wait_for (op_with s o)
  op_wait_with s None = refl
  op_wait_with s (Some d) = refl

  pub op-wait : (ss : List (Spot D)) (p : ℕ) → wait_at ss p ≡ option_map wait_for (op_at ss p)
  op-wait [] p = refl
  op-wait (s ∷ ss) zero = op_wait_with s s.action
  op-wait (s ∷ ss) (suc p) = op-wait ss p

  pub op-some : (ss : List (Spot D)) (p : ℕ) → is_some (wait_at ss p) ≡ true → is_some (op_at ss p) ≡ true
  op-some ss p e = go (op_at ss p) (ap is_some (sym (op-wait ss p)) ∙ e)
    where
      go : (o : Option (Operation D)) → is_some (option_map wait_for o) ≡ true → is_some o ≡ true
      go None e = cc
      go (Some o) e = refl

  -- ---- marks
  pub length-dues : (ss : List (Spot D)) → length (dues_of ss) ≡ length ss
  length-dues ss = length-map ss (λ (s : Spot D). mark_with s.due s.action)

  -- a mark of a place that is one
  pub marked-set : (marks : List ℕ) (ss new : List (Spot D)) (p v : ℕ) → marks ≡ dues_of ss ++ replicate (length marks - length ss) 0 →
      p < length ss → length new ≡ length ss → dues_of new ≡ set (dues_of ss) p v
      → set marks p v ≡ dues_of new ++ replicate (length (set marks p v) - length new) 0
  marked-set marks ss new p v is lt long e =
      let l = length-dues ss in
      let pad : length marks - length ss ≡ length (set marks p v) - length new = omega (arith, long, length-set marks p v) in
      ap (λ m. set m p v) is ∙ set-append_left (dues_of ss) (replicate (length marks - length ss) 0) p v (omega (arith, l, lt))
      ∙ (λ i. sym e i ++ replicate (pad i) 0)

  -- ---- how many wait
  abbrev pub count_with : Option D → ℕ
  count_with None = 0
  count_with (Some d) = 1

  pub count-first : (s : Spot D) (o : Option D) (os : List (Operation D)) → length (before_all (op_with s o) os) ≡ count_with o + length os
  count-first s None os = omega arith
  count-first s (Some d) os = omega arith

  count_le : (o : Option D) → count_with o ≤ 1
  count_le None = omega arith
  count_le (Some d) = omega arith

  pub ops-short : (ss : List (Spot D)) → length (operations_in ss) ≤ length ss
  ops-short [] = omega arith
  ops-short (s ∷ ss) =
      let r = ops-short ss in
      let c = count-first s s.action (operations_in ss) in
      let one = count_le s.action in
      omega (arith, r, c, one)

  pub noted-count : (p : ℕ) (v : Bool) (ss : List (Spot D)) → length (operations_in (noted_due p v ss)) ≡ length (operations_in ss)
  noted-count p v [] = refl
  noted-count zero v (s ∷ ss) = count-first (record s { due = v }) s.action (operations_in ss)
      ∙ sym (count-first s s.action (operations_in ss))
  noted-count (suc p) v (s ∷ ss) = count-first s s.action (operations_in (noted_due p v ss))
      ∙ ap (λ n. count_with s.action + n) (noted-count p v ss) ∙ sym (count-first s s.action (operations_in ss))

  some_count : (s : Spot D) (o : Option D) → is_some (wait_with s o) ≡ true → count_with o ≡ 1
  some_count s None e = cc
  some_count s (Some d) e = refl

  pub emptied-count : (p : ℕ) (ss : List (Spot D)) → is_some (wait_at ss p) ≡ true → length (operations_in (emptied p ss)) + 1 ≡ length
      (operations_in ss)
  emptied-count p [] e = cc
  emptied-count zero (s ∷ ss) e = let c = count-first s s.action (operations_in ss) in let one = some_count s s.action e in
      omega (arith, c, one)
  emptied-count (suc p) (s ∷ ss) e =
      let r = emptied-count p ss e in
      let a = count-first s s.action (operations_in (emptied p ss)) in
      let b = count-first s s.action (operations_in ss) in
      omega (arith, r, a, b)

  pub set-count : (ss : List (Spot D)) (p : ℕ) (s d : Spot D) → p < length ss → length (operations_in (set ss p s)) + count_with
      (get_or ss p d).action ≡ length (operations_in ss) + count_with s.action
  set-count [] p s d lt = absurd (omega (arith, lt))
  set-count (t ∷ ss) zero s d lt = let a = count-first s s.action (operations_in ss) in let b = count-first t t.action (operations_in ss) in
      omega (arith, a, b)
  set-count (t ∷ ss) (suc p) s d lt =
      let r = set-count ss p s d (omega (arith, lt)) in
      let a = count-first t t.action (operations_in (set ss p s)) in
      let b = count-first t t.action (operations_in ss) in
      omega (arith, r, a, b)

  pub append-operations : (xs ys : List (Spot D)) → operations_in (xs ++ ys) ≡ operations_in xs ++ operations_in ys
  append-operations [] ys = refl
  append-operations (x ∷ xs) ys = ap (before_all (op_of x)) (append-operations xs ys) ∙ go (op_of x)
    where
      go : (o : Option (Operation D)) → before_all o (operations_in xs ++ operations_in ys) ≡ before_all o (operations_in xs) ++
          operations_in ys
      go None = refl
      go (Some o) = refl

  -- ---- the due ones
  due-first : (s : Spot D) (o : Option D) (os : List (Operation D)) → length (filter is_due (before_all (op_with s o) os)) ≡ mark_with
      s.due o + length (filter is_due os)
  due-first s None os = omega arith
  due-first s (Some d) os = elim s.due as (λ b. length (cond b (operation s d ∷ filter is_due os) (filter is_due os)) ≡ cond b 1 0
      + length (filter is_due os)) [
        | true ↦ omega arith
        | false ↦ omega arith
      ]

  pub sum-dues : (ss : List (Spot D)) → sum (dues_of ss) ≡ length (filter is_due (operations_in ss))
  sum-dues [] = refl
  sum-dues (s ∷ ss) =
      sum_by-cons (λ (n : ℕ). n) (mark_with s.due s.action) (dues_of ss) ∙ ap (λ n. mark_with s.due s.action + n) (sum-dues ss)
      ∙ sym (due-first s s.action (operations_in ss))

  abbrev dues_in : List (Operation D) → List ℕ
  dues_in os = map (λ (p : Operation D). p.number) (filter is_due os)

  first_of : (b : Bool) (d : D) (o : Operation D) (os : List (Operation D)) → mark_with b (Some d) ≡ 1 →
      slice_get (map (λ (p : Operation D). p.number) (cond b (o ∷ os) os)) 0 ≡ Some o.number
  first_of true d o os e = refl
  first_of false d o os e = absurd (omega (arith, e))

  -- the i-th of them
  pub due-found : (ss : List (Spot D)) (rest : List ℕ) (p i : ℕ) → sum (take p (dues_of ss ++ rest)) ≡ i →
      get_or (dues_of ss ++ rest) p 0 ≡ 1 → p < length ss
      → slice_get (dues_in (operations_in ss)) i ≡ Some (get_or (numbers_of ss) p 0)
  due-found [] rest p i before one lt = absurd (omega (arith, lt))
  due-found (s ∷ ss) rest zero i before one lt = let none : i ≡ 0 = sym before in rw none (go s.action one)
    where
      go : (o : Option D) → mark_with s.due o ≡ 1 → slice_get (dues_in (before_all (op_with s o) (operations_in ss))) 0 ≡ Some s.number
      go None e = cc
      go (Some d) e = first_of s.due d (operation s d) (filter is_due (operations_in ss)) e
  due-found (s ∷ ss) rest (suc p) i before one lt =
      let head = sum_by-cons (λ (n : ℕ). n) (mark_with s.due s.action) (take p (dues_of ss ++ rest)) in
      let r = due-found ss rest p (sum (take p (dues_of ss ++ rest))) refl one (omega (arith, lt)) in
      let is : mark_with s.due s.action + sum (take p (dues_of ss ++ rest)) ≡ i = sym head ∙ before in
      subst (λ n. slice_get (dues_in (before_all (op_of s) (operations_in ss))) n ≡ Some (get_or (numbers_of ss) p 0)) is (go s.action r)
    where
      go : (o : Option D) → slice_get (dues_in (operations_in ss)) (sum (take p (dues_of ss ++ rest))) ≡ Some (get_or (numbers_of ss) p 0)
          → slice_get (dues_in (before_all (op_with s o) (operations_in ss))) (mark_with s.due o + sum (take p (dues_of ss ++ rest)))
          ≡ Some (get_or (numbers_of ss) p 0)
      go None r = let z : 0 + sum (take p (dues_of ss ++ rest)) ≡ sum (take p (dues_of ss ++ rest)) = omega arith in
          ap (slice_get (dues_in (operations_in ss))) z ∙ r
      go (Some d) r = elim s.due as (λ b. slice_get (map (λ (p : Operation D). p.number)
          (cond b (operation s d ∷ filter is_due (operations_in ss)) (filter is_due (operations_in ss))))
          (cond b 1 0 + sum (take p (dues_of ss ++ rest))) ≡ Some (get_or (numbers_of ss) p 0)) [
            | true ↦ let z : 1 + sum (take p (dues_of ss ++ rest)) ≡ suc (sum (take p (dues_of ss ++ rest))) = omega arith in
                ap (slice_get ((operation s d).number ∷ dues_in (operations_in ss))) z ∙ r
            | false ↦ let z : 0 + sum (take p (dues_of ss ++ rest)) ≡ sum (take p (dues_of ss ++ rest)) = omega arith in
                ap (slice_get (dues_in (operations_in ss))) z ∙ r
          ]

  -- ---- one that is noted_due
  pub noted-length : (p : ℕ) (v : Bool) (ss : List (Spot D)) → length (noted_due p v ss) ≡ length ss
  noted-length p v ss = changed-length (λ s. record s { due = v }) p ss

  -- those that aren't due are above the sum, and one is that no longer is
  pub still-above : (ss : List (Spot D)) (p : ℕ) (ct : Handle) (sum : ℕ) → sum < threshold_of (wait_at ss p)
      → ((q : ℕ) (x : Wait) → wait_at ss q ≡ Some x → same_handle x.ct ct ≡ true → x.due ≡ false → sum < x.threshold)
      → (q : ℕ) (x : Wait) → wait_at (noted_due p false ss) q ≡ Some x → same_handle x.ct ct ≡ true → x.due ≡ false → sum < x.threshold
  still-above ss p ct sum lt h q x e s d = elim (eqb_tells q p) [
    | inl same ↦
        let is : option_map (with_due false) (wait_at ss q) ≡ Some x = sym (noted-at p false ss q ∙ rw same.0 refl) ∙ e in
        let t : threshold_of (option_map (with_due false) (wait_at ss q)) ≡ threshold_of (wait_at ss q) = go (wait_at ss q) in
        let a : threshold_of (option_map (with_due false) (wait_at ss q)) ≡ x.threshold = ap threshold_of is in
        let b : threshold_of (wait_at ss q) ≡ threshold_of (wait_at ss p) = ap (λ i. threshold_of (wait_at ss i)) same.1 in
        omega (arith, t, a, b, lt)
    | inr other ↦ let is : wait_at ss q ≡ Some x = sym (noted-at p false ss q ∙ rw other.0 refl) ∙ e in h q x is s d
  ]
    where
      go : (o : Option Wait) → threshold_of (option_map (with_due false) o) ≡ threshold_of o
      go None = refl
      go (Some y) = refl

  -- ---- one place more
  pub wait-pushed : (ss : List (Spot D)) (s : Spot D) (p q : ℕ) → p ≡ length ss → wait_at (ss ++ s ∷ []) q ≡ cond (nat_eq q p) (wait_of s)
      (wait_at ss q)
  wait-pushed ss s p q e = elim (eqb_tells q p) [
    | inl same ↦ rw same.0 (last ss q (same.1 ∙ e))
    | inr other ↦ rw other.0 (before ss q (λ f. other.1 (f ∙ sym e)))
  ]
    where
      last : (ss : List (Spot D)) (q : ℕ) → q ≡ length ss → wait_at (ss ++ s ∷ []) q ≡ wait_of s
      last [] zero e = refl
      last [] (suc q) e = absurd (omega (arith, e))
      last (t ∷ ss) zero e = absurd (omega (arith, e))
      last (t ∷ ss) (suc q) e = last ss q (omega (arith, e))

      before : (ss : List (Spot D)) (q : ℕ) → (q ≡ length ss → ⊥) → wait_at (ss ++ s ∷ []) q ≡ wait_at ss q
      before [] zero n = absurd (n refl)
      before [] (suc q) n = refl
      before (t ∷ ss) zero n = refl
      before (t ∷ ss) (suc q) n = before ss q (λ e. n (ap (λ i. suc i) e))

  -- ---- places that keep their numbers
  pub same-length : (old new : Spotted D) → IsSame old new → length new.spots ≡ length old.spots
  same-length old new s = sym (length-map new.spots (λ (x : Spot D). x.number)) ∙ ap length s.numbers
      ∙ length-map old.spots (λ (x : Spot D). x.number)

  pub same-both : (a b c : Spotted D) → IsSame a b → IsSame b c → IsSame a c
  same-both a b c f g = record { numbers = g.numbers ∙ f.numbers; room = g.room ∙ f.room }

-- ---- what waits on a counting event
pub waits-is : (ct : Handle) (o : Option Wait) → WaitsOn ct o → (x : Wait) × (o ≡ Some x) × (same_handle x.ct ct ≡ true)
waits-is ct None w = absurd w
waits-is ct (Some x) w = (x, refl, w)

pub is-waits : (ct : Handle) (o : Option Wait) (x : Wait) → o ≡ Some x → same_handle x.ct ct ≡ true → WaitsOn ct o
is-waits ct None x e s = cc
is-waits ct (Some y) x e s = let same : y.ct ≡ x.ct = ap ct_of e in ap (λ h. same_handle h ct) same ∙ s
  where
    ct_of : Option Wait → Handle
    ct_of None = x.ct
    ct_of (Some z) = z.ct

module _ {D : Type 0} where
  pub action-is : (s : Spot D) → s.action ≡ option_map action_of (op_of s)
  action-is s = go s.action
    where
      go : (o : Option D) → o ≡ option_map action_of (op_with s o)
      go None = refl
      go (Some d) = refl

  pub threshold-is : (s : Spot D) → is_some (wait_of s) ≡ true → s.threshold ≡ threshold_of (wait_of s)
  threshold-is s e = go s.action e
    where
      go : (o : Option D) → is_some (wait_with s o) ≡ true → s.threshold ≡ threshold_of (wait_with s o)
      go None e = cc
      go (Some d) e = refl
