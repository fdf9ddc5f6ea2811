-- Operations whose numbers rise: what keeps it, and finding one by its number.
use Rattle.std.proofs.Common.{◌≡◌, ℕ, suc, ◌+◌, ◌-◌, ◌^◌, ◌<◌, ◌≤◌, Bool, true, false, not, nat_le, List, [], ◌∷◌, Option, Some, None, find}
use Rattle.std.proofs.Common.{filter, length, map, if◌then◌else◌, refl, ap, subst, arith}
use Rattle.std.specs.Prelude.{All, AllPairs, IfSome, IfNone, option_map}
use Rattle.std.proofs.lemmas.Bool.Decides.{nat_tests}
use Rattle.std.proofs.lemmas.List.{length-map, length_push}
use Rattle.std.proofs.lemmas.List.Elements.{All-head, All-tail, All-nil, All-cons, All-push, All-weaker, All-filter, All-map}
use Rattle.std.proofs.lemmas.List.Filters.{length-filter_both}
use Rattle.std.proofs.lemmas.List.Quantifiers.{all_pairs_push}
use Rattle.std.proofs.lemmas.List.Kept.{AllPairs-cons, AllPairs-filter}
use Rattle.ptl_types.specs.declared.handles.Handle.{Handle}
use Rattle.triggered_ops.specs.Layout.{is_from, number_of}
use Rattle.triggered_ops.specs.Operations.{Operation, Operations, IsKept, is_number, is_due, is_due_op, operation_at, numbered, told_if}
use Rattle.triggered_ops.specs.Operations.{told_where, with_posted, without_number}

-- ---- lists
module _ {X : Type 0} where
  pub pairs-head : (R : X → X → Type 0) (x : X) (xs : List X) → AllPairs R (x ∷ xs) → All (R x) xs
  pairs-head R x xs all = λ k d lt. all 0 (suc k) d (omega arith) (omega arith)

  pub pairs-tail : (R : X → X → Type 0) (x : X) (xs : List X) → AllPairs R (x ∷ xs) → AllPairs R xs
  pairs-tail R x xs all = λ i j d lt within. all (suc i) (suc j) d (omega arith) (omega arith)

  pub AllPairs-map : {Y : Type 0} (R : Y → Y → Type 0) (f : X → Y) (xs : List X) → AllPairs (λ x y. R (f x) (f y)) xs →
      AllPairs R (map f xs)
  AllPairs-map R f [] all = λ i j d lt within. absurd (omega arith)
  AllPairs-map R f (x ∷ xs) all =
      AllPairs-cons R (f x) (map f xs) (All-map (R (f x)) f xs (pairs-head (λ x y. R (f x) (f y)) x xs all))
      (AllPairs-map R f xs (pairs-tail (λ x y. R (f x) (f y)) x xs all))

  pub length-filter_le : (p : X → Bool) (xs : List X) → length (filter p xs) ≤ length xs
  length-filter_le p xs = let e = length-filter_both p (λ x. not (p x)) (λ _. refl) xs in omega (arith, e)

  -- what is found is in the list, and passes
  pub find_has : (P : X → Type 0) (f : X → Bool) (xs : List X) (x : X) → All P xs → find f xs ≡ Some x → P x
  find_has P f [] x all e = cc
  find_has P f (y ∷ ys) x all e =
      elim (f y) as (λ b. (if b then Some y else find f ys) ≡ Some x → P x) [
        | true ↦ λ is. let g : y ≡ x = cc in subst P g (All-head P y ys all)
        | false ↦ λ is. find_has P f ys x (All-tail P y ys all) is
      ] e

  pub find_passes : (f : X → Bool) (xs : List X) (x : X) → find f xs ≡ Some x → f x ≡ true
  find_passes f [] x e = cc
  find_passes f (y ∷ ys) x e =
      elim (f y) as (λ b. f y ≡ b → (if b then Some y else find f ys) ≡ Some x → f x ≡ true) [
        | true ↦ λ passes is. let g : y ≡ x = cc in subst (λ (z : X). f z ≡ true) g passes
        | false ↦ λ fails is. find_passes f ys x is
      ] refl e

  pub find_none : (f : X → Bool) (xs : List X) → find f xs ≡ None → All (λ x. f x ≡ false) xs
  find_none f [] e = All-nil (λ x. f x ≡ false)
  find_none f (y ∷ ys) e =
      elim (f y) as (λ b. f y ≡ b → (if b then Some y else find f ys) ≡ None → All (λ x. f x ≡ false) (y ∷ ys)) [
        | true ↦ λ passes is. cc
        | false ↦ λ fails is. All-cons (λ x. f x ≡ false) y ys fails (find_none f ys is)
      ] refl e

module _ {D : Type 0} where
  abbrev pub Rises : Operation D → Operation D → Type 0
  Rises p q = p.number < q.number

  -- ---- what the calls keep
  pub IsKept-posted : (ops : Operations D) (action : D) (ct : Handle) (threshold sum : ℕ) → IsKept ops → length ops.waiting < ops.limit →
      ops.given < 2 ^ 32 - 1 → IsKept (with_posted action ct threshold sum ops)
  IsKept-posted ops action ct threshold sum kept room numbers = record {
    rising = all_pairs_push Rises ops.waiting _ kept.rising kept.were_given;
    were_given = All-push (λ p. p.number < ops.given + 1) ops.waiting _
        (All-weaker (λ p. p.number < ops.given) (λ p. p.number < ops.given + 1) (λ p lt. omega arith) ops.waiting kept.were_given)
        (omega arith);
    limited = omega (
      arith,
      length_push ops.waiting (record {
        number = ops.given;
        action = action;
        ct = ct;
        threshold = threshold;
        due =
            nat_le threshold sum;
      }),
    );
    numbers = omega arith;
  }

  pub IsKept-told : (ops : Operations D) (test : Operation D → Bool) (sum : ℕ) → IsKept ops → IsKept (told_where test sum ops)
  IsKept-told ops test sum kept = record {
    rising = AllPairs-map Rises (told_if test sum) ops.waiting kept.rising;
    were_given = All-map (λ (p : Operation D). p.number < ops.given) (told_if test sum) ops.waiting kept.were_given;
    limited = omega (arith, length-map ops.waiting (told_if test sum), kept.limited);
    numbers = kept.numbers;
  }

  pub IsKept-filter : (ops : Operations D) (f : Operation D → Bool) → IsKept ops → IsKept (record ops { waiting = filter f ops.waiting })
  IsKept-filter ops f kept = record {
    rising = AllPairs-filter Rises f ops.waiting kept.rising;
    were_given = All-filter f (λ (p : Operation D). p.number < ops.given) ops.waiting kept.were_given;
    limited = omega (arith, length-filter_le f ops.waiting, kept.limited);
    numbers = kept.numbers;
  }

  pub filter-absent : (f : Operation D → Bool) (ps : List (Operation D)) → find f ps ≡ None → filter (λ p. not (f p)) ps ≡ ps
  filter-absent f [] e = refl
  filter-absent f (p ∷ ps) e =
      elim (f p) as (λ b. (if b then Some p else find f ps) ≡ None →
      (if not b then p ∷ filter (λ q. not (f q)) ps else filter (λ q. not (f q)) ps) ≡ p ∷ ps) [
        | true ↦ λ is. cc
        | false ↦ λ is. ap (λ r. p ∷ r) (filter-absent f ps is)
      ] e

  pub without-absent : (t : ℕ) (ops : Operations D) → operation_at t ops ≡ None → without_number t ops ≡ ops
  without-absent t ops e = rw (filter-absent (is_number t) ops.waiting e) refl

  -- ---- by number
  pub is_number-same : (t : ℕ) (p : Operation D) → p.number ≡ t → is_number t p ≡ true
  is_number-same t p e = grind (arith, nat_tests)

  pub is_number-earlier : (t : ℕ) (p q : Operation D) → q.number ≡ t → p.number < q.number → is_number t p ≡ false
  is_number-earlier t p q e lt = grind (arith, nat_tests)

  pub is_number-later : (t : ℕ) (p q : Operation D) → p.number ≡ t → p.number < q.number → is_number t q ≡ false
  is_number-later t p q e lt = grind (arith, nat_tests)

  pub found_number : (t : ℕ) (ps : List (Operation D)) (p : Operation D) → find (is_number t) ps ≡ Some p → p.number ≡ t
  found_number t ps p e = let passes : is_number t p ≡ true = find_passes (is_number t) ps p e in grind (arith, nat_tests)

  -- what any search finds is found by its number
  pub found-by_number : (f : Operation D → Bool) (ps : List (Operation D)) (p : Operation D) → AllPairs Rises ps → find f ps ≡ Some p →
      find (is_number p.number) ps ≡ Some p
  found-by_number f [] p all e = cc
  found-by_number f (q ∷ qs) p all e =
      elim (f q) as (λ b. (if b then Some q else find f qs) ≡ Some p → find (is_number p.number) (q ∷ qs) ≡ Some p) [
        | true ↦ λ is.
            let same : q ≡ p = cc in
            let here : is_number p.number q ≡ true = is_number-same p.number q (ap (λ (x : Operation D). x.number) same) in
            rw here is
        | false ↦ λ is.
            let later : q.number < p.number = find_has (Rises q) f qs p (pairs-head Rises q qs all) is in
            let other : is_number p.number q ≡ false = is_number-earlier p.number q p refl later in
            rw other (found-by_number f qs p (pairs-tail Rises q qs all) is)
      ] e

  -- ---- which are due
  pub none_due : (ps : List (Operation D)) (t : ℕ) → All (λ p. is_due p ≡ false) ps → is_due_op (find (is_number t) ps) ≡ false
  none_due [] t all = refl
  none_due (p ∷ ps) t all =
      elim (is_number t p) as (λ b. is_due_op (if b then Some p else find (is_number t) ps) ≡ false) [
        | true ↦ All-head (λ p. is_due p ≡ false) p ps all
        | false ↦ none_due ps t (All-tail (λ p. is_due p ≡ false) p ps all)
      ]

  pub due-found : (ps : List (Operation D)) (p : Operation D) → AllPairs Rises ps → find is_due ps ≡ Some p →
      is_due_op (find (is_number p.number) ps) ≡ true
  due-found ps p all e = rw (found-by_number is_due ps p all e) (find_passes is_due ps p e)

  pub ready-some : (ps : List (Operation D)) (o : Option (Operation D)) → AllPairs Rises ps → find is_due ps ≡ o →
      IfSome (option_map number_of o) (λ t. is_due_op (find (is_number t) ps) ≡ true)
  ready-some ps None all e = tt
  ready-some ps (Some p) all e = due-found ps p all e

  pub ready-none : (ps : List (Operation D)) (o : Option (Operation D)) → find is_due ps ≡ o →
      IfNone (option_map number_of o) ((t : ℕ) → is_due_op (find (is_number t) ps) ≡ false)
  ready-none ps None e = λ t. none_due ps t (find_none is_due ps e)
  ready-none ps (Some p) e = tt

  -- ---- the first from a number on
  pub from-none : (n : ℕ) (ps : List (Operation D)) → find (is_from n) ps ≡ None → All (λ p. p.number < n) ps
  from-none n ps e = All-weaker (λ p. is_from n p ≡ false) (λ p. p.number < n) (λ p fails. grind (arith, nat_tests)) ps
      (find_none (is_from n) ps e)

  pub from-least : (n : ℕ) (ps : List (Operation D)) (p : Operation D) → find (is_from n) ps ≡ Some p → n ≤ p.number
  from-least n ps p e = let passes : is_from n p ≡ true = find_passes (is_from n) ps p e in grind (arith, nat_tests)

  pub from-alone : (n : ℕ) (ps : List (Operation D)) (p : Operation D) → AllPairs Rises ps → find (is_from n) ps ≡ Some p →
      All (λ q. n ≤ q.number → q.number ≤ p.number → numbered q ≡ numbered p) ps
  from-alone n [] p all e = cc
  from-alone n (q ∷ qs) p all e =
      elim (is_from n q) as (λ b. is_from n q ≡ b → (if b then Some q else find (is_from n) qs) ≡ Some p →
      All (λ q. n ≤ q.number → q.number ≤ p.number → numbered q ≡ numbered p) (q ∷ qs)) [
        | true ↦ λ passes is.
            let same : q ≡ p = cc in
            let number : q.number ≡ p.number = ap (λ (x : Operation D). x.number) same in
            All-cons (λ q. n ≤ q.number → q.number ≤ p.number → numbered q ≡ numbered p) q qs
            (λ low high. ap numbered same)
            (All-weaker (Rises q) (λ q. n ≤ q.number → q.number ≤ p.number → numbered q ≡ numbered p)
            (λ r later low high. absurd (omega arith)) qs (pairs-head Rises q qs all))
        | false ↦ λ fails is.
            let below : q.number < n = grind (arith, nat_tests) in
            All-cons (λ q. n ≤ q.number → q.number ≤ p.number → numbered q ≡ numbered p) q qs
            (λ low high. absurd (omega arith))
            (from-alone n qs p (pairs-tail Rises q qs all) is)
      ] refl e
