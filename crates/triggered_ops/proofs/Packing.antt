-- What moving operations to earlier places, and giving the last places free, leaves of them.
use Rattle.std.proofs.Common.{◌≡◌, ◌≢◌, ℕ, zero, suc, ◌+◌, ◌-◌, ◌^◌, ◌<◌, ◌≤◌, true, false, cond, nat_eq, List, [], ◌∷◌, ◌++◌, map, length}
use Rattle.std.proofs.Common.{take, drop, get_or, set, replicate, Option, Some, None, refl, sym, ap, subst, ◌∙◌, inl, inr, arith}
use Rattle.std.proofs.Common.{length-set}
use Rattle.std.specs.Prelude.{All, AllPairs, is_some}
use Rattle.std.specs.List.{swap}
use Rattle.std.proofs.lemmas.Bool.{cases_lt, ne_eqb}
use Rattle.std.proofs.lemmas.Bool.Decides.{eqb_tells}
use Rattle.std.proofs.lemmas.List.{map-set, map-append, append-nil, append_assoc, replicate-append-replicate, get_or-set_other}
use Rattle.std.proofs.lemmas.List.Elements.{All-head, All-tail, All-cons}
use Rattle.std.proofs.lemmas.List.Kept.{AllPairs-cons}
use Rattle.chain_list.specs.threads.Threads.{Woven}
use Rattle.triggered_ops.specs.declared.spots.Spot.{Spot}
use Rattle.triggered_ops.specs.Operations.{Operation}
use Rattle.triggered_ops.specs.Hung.{IsHung, IsPacking, IsThinner}
use Rattle.triggered_ops.specs.Layout.{Spotted, numbers_of, op_with, op_of, before_all, operations_in, wait_with, wait_of, wait_at, packed}
use Rattle.triggered_ops.specs.Layout.{mark_with, dues_of, AreGone}
use Rattle.triggered_ops.proofs.Places.{wait-past, count_with, set-count, append-operations, wait-get}
use Rattle.triggered_ops.proofs.Rising.{pairs-head, pairs-tail}

-- ---- lists
module _ {X : Type 0} where
  pub take-set-end : (xs : List X) (k : ℕ) (v : X) → k < length xs → take (suc k) (set xs k v) ≡ take k xs ++ v ∷ []
  take-set-end [] k v lt = absurd (omega (arith, lt))
  take-set-end (x ∷ xs) zero v lt = refl
  take-set-end (x ∷ xs) (suc k) v lt = ap (λ r. x ∷ r) (take-set-end xs k v (omega (arith, lt)))

  pub take-set-later : (xs : List X) (k p : ℕ) (v : X) → k ≤ p → take k (set xs p v) ≡ take k xs
  take-set-later xs zero p v le = refl
  take-set-later [] (suc k) p v le = refl
  take-set-later (x ∷ xs) (suc k) zero v le = absurd (omega (arith, le))
  take-set-later (x ∷ xs) (suc k) (suc p) v le = ap (λ r. x ∷ r) (take-set-later xs k p v (omega (arith, le)))

  pub drop-set-earlier : (xs : List X) (k p : ℕ) (v : X) → p ≤ k → drop (suc k) (set xs p v) ≡ drop (suc k) xs
  drop-set-earlier [] k p v le = refl
  drop-set-earlier (x ∷ xs) k zero v le = refl
  drop-set-earlier (x ∷ xs) zero (suc p) v le = absurd (omega (arith, le))
  drop-set-earlier (x ∷ xs) (suc k) (suc p) v le = drop-set-earlier xs k p v (omega (arith, le))

  pub drop-get : (xs : List X) (k : ℕ) (d : X) → k < length xs → drop k xs ≡ get_or xs k d ∷ drop (suc k) xs
  drop-get [] k d lt = absurd (omega (arith, lt))
  drop-get (x ∷ xs) zero d lt = refl
  drop-get (x ∷ xs) (suc k) d lt = drop-get xs k d (omega (arith, lt))

  pub whole : (xs : List X) (k : ℕ) → take k xs ++ drop k xs ≡ xs
  whole xs zero = refl
  whole [] (suc k) = refl
  whole (x ∷ xs) (suc k) = ap (λ r. x ∷ r) (whole xs k)

  pub drop-all : (xs : List X) (k : ℕ) → length xs ≤ k → drop k xs ≡ []
  drop-all [] zero le = refl
  drop-all [] (suc k) le = refl
  drop-all (x ∷ xs) zero le = absurd (omega (arith, le))
  drop-all (x ∷ xs) (suc k) le = drop-all xs k (omega (arith, le))

  pub swap-is : (xs : List X) (i j : ℕ) (d : X) → i < length xs → j < length xs →
      swap xs i j ≡ set (set xs i (get_or xs j d)) j (get_or xs i d)
  swap-is [] i j d li lj = absurd (omega (arith, li))
  swap-is (x ∷ xs) i j d li lj = λ k. set (set (x ∷ xs) i (get_or-same (x ∷ xs) j x d lj k)) j (get_or-same (x ∷ xs) i x d li k)
    where
      get_or-same : (ys : List X) (i : ℕ) (d e : X) → i < length ys → get_or ys i d ≡ get_or ys i e
      get_or-same [] i d e lt = absurd (omega (arith, lt))
      get_or-same (y ∷ ys) zero d e lt = refl
      get_or-same (y ∷ ys) (suc i) d e lt = get_or-same ys i d e (omega (arith, lt))

-- ---- numbers of which one is gone
all-out : (P : ℕ → Type 0) (xs : List ℕ) (x : ℕ) (ys : List ℕ) → All P (xs ++ x ∷ ys) → All P (xs ++ ys)
all-out P [] x ys all = All-tail P x ys all
all-out P (z ∷ xs) x ys all = All-cons P z (xs ++ ys) (All-head P z (xs ++ x ∷ ys) all)
    (all-out P xs x ys (All-tail P z (xs ++ x ∷ ys) all))

abbrev Lower : ℕ → ℕ → Type 0
Lower a b = a < b

pairs-out : (xs : List ℕ) (x : ℕ) (ys : List ℕ) → AllPairs (λ a b. a < b) (xs ++ x ∷ ys) → AllPairs (λ a b. a < b) (xs ++ ys)
pairs-out [] x ys all = pairs-tail Lower x ys all
pairs-out (z ∷ xs) x ys all =
    AllPairs-cons Lower z (xs ++ ys) (all-out (λ n. z < n) xs x ys (pairs-head Lower z (xs ++ x ∷ ys) all))
    (pairs-out xs x ys (pairs-tail Lower z (xs ++ x ∷ ys) all))

pub thin-out : (xs : List ℕ) (x : ℕ) (ys : List ℕ) → IsThinner (xs ++ x ∷ ys) (xs ++ ys)
thin-out xs x ys = record { rising = pairs-out xs x ys; below = λ n. all-out (λ a. a < n) xs x ys }

pub thin-same : (xs ys : List ℕ) → ys ≡ xs → IsThinner xs ys
thin-same xs ys e = record {
  rising = λ all. subst (AllPairs (λ a b. a < b)) (sym e) all;
  below = λ n all. subst (All (λ a. a < n)) (sym e) all;
}

pub thin-both : (xs ys zs : List ℕ) → IsThinner xs ys → IsThinner ys zs → IsThinner xs zs
thin-both xs ys zs a b = record { rising = λ all. b.rising (a.rising all); below = λ n all. b.below n (a.below n all) }

module _ {D : Type 0} where
  -- ---- two places are exchanged
  pub wait-set : (ss : List (Spot D)) (p : ℕ) (s : Spot D) (q : ℕ) → p < length ss →
      wait_at (set ss p s) q ≡ cond (nat_eq q p) (wait_of s) (wait_at ss q)
  wait-set ss p s q lt = elim (eqb_tells q p) [
    | inl same ↦ rw same.0 (ap (wait_at (set ss p s)) same.1 ∙ here ss p lt)
    | inr other ↦ rw other.0 (elsewhere ss p q other.1)
  ]
    where
      here : (ss : List (Spot D)) (p : ℕ) → p < length ss → wait_at (set ss p s) p ≡ wait_of s
      here [] p lt = absurd (omega (arith, lt))
      here (t ∷ ss) zero lt = refl
      here (t ∷ ss) (suc p) lt = here ss p (omega (arith, lt))

      elsewhere : (ss : List (Spot D)) (p q : ℕ) → q ≢ p → wait_at (set ss p s) q ≡ wait_at ss q
      elsewhere [] p q n = refl
      elsewhere (t ∷ ss) zero zero n = absurd (n refl)
      elsewhere (t ∷ ss) zero (suc q) n = refl
      elsewhere (t ∷ ss) (suc p) zero n = refl
      elsewhere (t ∷ ss) (suc p) (suc q) n = elsewhere ss p q (λ e. n (ap (λ i. suc i) e))

  module _ (ss : List (Spot D)) (from to : ℕ) (order : to < from) (within : from < length ss) (d : Spot D) where
    low : to < length ss
    low = omega (arith, order, within)

    abbrev half : List (Spot D)
    half = set ss from (get_or ss to d)

    length-half : length half ≡ length ss
    length-half = length-set ss from (get_or ss to d)

    is : swap ss from to ≡ set half to (get_or ss from d)
    is = swap-is ss from to d within low

    pub swap-wait : (q : ℕ) → wait_at (swap ss from to) q ≡ cond (nat_eq q to) (wait_at ss from)
        (cond (nat_eq q from) (wait_at ss to) (wait_at ss q))
    swap-wait q =
        ap (λ l. wait_at l q) is ∙ wait-set half to (get_or ss from d) q (omega (arith, low, length-half))
        ∙ (λ i. cond (nat_eq q to) (sym (wait-get ss from d within) i)
        ((wait-set ss from (get_or ss to d) q within ∙ ap (λ o. cond (nat_eq q from) o (wait_at ss q)) (sym (wait-get ss to d low))) i))

    pub swap-dues : (v : ℕ) → mark_with (get_or ss to d).due (get_or ss to d).action ≡ 0 →
        mark_with (get_or ss from d).due (get_or ss from d).action ≡ v → dues_of (swap ss from to) ≡ set (set (dues_of ss) from 0) to v
    swap-dues v none some =
        let mark : Spot D → ℕ = λ s. mark_with s.due s.action in
        ap dues_of is ∙ map-set mark half to (get_or ss from d)
        ∙ (λ i. set ((map-set mark ss from (get_or ss to d) ∙ ap (set (dues_of ss) from) none) i) to (some i))

    pub swap-length : length (swap ss from to) ≡ length ss
    swap-length = ap length is ∙ length-set half to (get_or ss from d) ∙ length-half

    pub swap-count : length (operations_in (swap ss from to)) ≡ length (operations_in ss)
    swap-count =
        let a = set-count ss from (get_or ss to d) d within in
        let b = set-count half to (get_or ss from d) d (omega (arith, low, length-half)) in
        let there : get_or half to d ≡ get_or ss to d = get_or-set_other ss from to (get_or ss to d) d (λ e. omega (arith, order, e)) in
        let c = ap (λ (s : Spot D). count_with s.action) there in
        let e = ap (λ l. length (operations_in l)) is in
        omega (arith, a, b, c, e)

    pub swap-packed : (k p : ℕ) → k ≡ suc to → p ≡ suc from → packed k p (swap ss from to) ≡ packed to from ss
    swap-packed k p ek ep =
        let front : take (suc to) (set half to (get_or ss from d)) ≡ take to ss ++ get_or ss from d ∷ [] =
        take-set-end half to (get_or ss from d) (omega (arith, low, length-half))
        ∙ ap (λ l. l ++ get_or ss from d ∷ []) (take-set-later ss to from (get_or ss to d) (omega (arith, order))) in
        let back : drop (suc from) (set half to (get_or ss from d)) ≡ drop (suc from) ss =
        drop-set-earlier half from to (get_or ss from d) (omega (arith, order)) ∙ drop-set-earlier ss from from (get_or ss to d)
        (omega arith) in
        (λ i. packed (ek i) (ep i) (is i)) ∙ (λ i. front i ++ back i) ∙ append_assoc (take to ss) (get_or ss from d ∷ [])
        (drop (suc from) ss) ∙ ap (λ l. take to ss ++ l) (sym (drop-get ss from d within))

  -- ---- a place is passed
  gone : (s : Spot D) (o : Option D) (os : List (Operation D)) → wait_with s o ≡ None → before_all (op_with s o) os ≡ os
  gone s None os e = refl
  gone s (Some d) os e = cc

  pub passed-value : (ss : List (Spot D)) (kept place next : ℕ) (d : Spot D) → next ≡ suc place → place < length ss →
      wait_at ss place ≡ None → operations_in (packed kept next ss) ≡ operations_in (packed kept place ss)
  passed-value ss kept place next d e lt none =
      let s = get_or ss place d in
      let ys = drop (suc place) ss in
      let out : before_all (op_of s) (operations_in ys) ≡ operations_in ys =
      gone s s.action (operations_in ys) (sym (wait-get ss place d lt) ∙ none) in
      ap (λ n. operations_in (packed kept n ss)) e ∙ append-operations (take kept ss) ys
      ∙ ap (λ l. operations_in (take kept ss) ++ l) (sym out) ∙ sym (append-operations (take kept ss) (s ∷ ys))
      ∙ ap (λ l. operations_in (take kept ss ++ l)) (sym (drop-get ss place d lt))

  pub passed-thin : (ss : List (Spot D)) (kept place next : ℕ) (d : Spot D) → next ≡ suc place → place < length ss →
      IsThinner (numbers_of (packed kept place ss)) (numbers_of (packed kept next ss))
  passed-thin ss kept place next d e lt =
      let number : Spot D → ℕ = λ s. s.number in
      let s = get_or ss place d in
      let ys = drop (suc place) ss in
      let old : numbers_of (packed kept place ss) ≡ map number (take kept ss) ++ s.number ∷ map number ys =
      ap (λ l. map number (take kept ss ++ l)) (drop-get ss place d lt) ∙ map-append number (take kept ss) (s ∷ ys) in
      let new : numbers_of (packed kept next ss) ≡ map number (take kept ss) ++ map number ys = ap (λ n. numbers_of (packed kept n ss)) e
      ∙ map-append number (take kept ss) ys in
      subst (λ l. IsThinner l (numbers_of (packed kept next ss))) (sym old)
      (subst (IsThinner (map number (take kept ss) ++ s.number ∷ map number ys)) (sym new)
      (thin-out (map number (take kept ss)) s.number (map number ys)))

  pub passed-both : (ss : List (Spot D)) (k p k2 p2 : ℕ) → k ≡ p → k2 ≡ p2 → packed k2 p2 ss ≡ packed k p ss
  passed-both ss k p k2 p2 e f = (λ i. packed (f i) p2 ss) ∙ whole ss p2 ∙ sym (whole ss p) ∙ (λ i. packed (sym e i) p ss)

  -- ---- the last places are given free
  pub take-wait : (ss : List (Spot D)) (len q : ℕ) → AreGone len ss → wait_at (take len ss) q ≡ wait_at ss q
  take-wait [] zero q g = refl
  take-wait [] (suc len) q g = refl
  take-wait (s ∷ ss) zero q g = sym (g q (omega arith))
  take-wait (s ∷ ss) (suc len) zero g = refl
  take-wait (s ∷ ss) (suc len) (suc q) g = take-wait ss len q (λ p le. g (suc p) (omega (arith, le)))

  none-left : (ss : List (Spot D)) → AreGone 0 ss → operations_in ss ≡ []
  none-left [] g = refl
  none-left (s ∷ ss) g = gone s s.action (operations_in ss) (g 0 (omega arith)) ∙ none-left ss (λ p le. g (suc p) (omega arith))

  pub take-value : (ss : List (Spot D)) (len : ℕ) → AreGone len ss → operations_in (take len ss) ≡ operations_in ss
  take-value ss zero g = sym (none-left ss g)
  take-value [] (suc len) g = refl
  take-value (s ∷ ss) (suc len) g = ap (before_all (op_of s)) (take-value ss len (λ p le. g (suc p) (omega (arith, le))))

  unmarked : (s : Spot D) (o : Option D) → wait_with s o ≡ None → mark_with s.due o ≡ 0
  unmarked s None e = refl
  unmarked s (Some d) e = cc

  dues-zero : (ss : List (Spot D)) → AreGone 0 ss → dues_of ss ≡ replicate (length ss) 0
  dues-zero [] g = refl
  dues-zero (s ∷ ss) g = λ i. unmarked s s.action (g 0 (omega arith)) i ∷ dues-zero ss (λ p le. g (suc p) (omega arith)) i

  dues-take : (ss : List (Spot D)) (len : ℕ) → AreGone len ss →
      dues_of ss ≡ dues_of (take len ss) ++ replicate (length ss - length (take len ss)) 0
  dues-take ss zero g = dues-zero ss g ∙ ap (λ n. replicate n 0) (let n : length ss ≡ length ss - 0 = omega arith in n)
  dues-take [] (suc len) g = refl
  dues-take (s ∷ ss) (suc len) g =
      let n : length ss - length (take len ss) ≡ suc (length ss) - suc (length (take len ss)) = omega arith in
      ap (λ r. mark_with s.due s.action ∷ r) (dues-take ss len (λ p le. g (suc p) (omega (arith, le))))
      ∙ ap (λ m. mark_with s.due s.action ∷ (dues_of (take len ss) ++ replicate m 0)) n

  length-take : (ss : List (Spot D)) (len : ℕ) → length (take len ss) ≤ length ss
  length-take ss zero = omega arith
  length-take [] (suc len) = omega arith
  length-take (s ∷ ss) (suc len) = let r = length-take ss len in omega (arith, r)

  pub marked-take : (marks : List ℕ) (ss : List (Spot D)) (len : ℕ) → AreGone len ss → length ss ≤ length marks →
      marks ≡ dues_of ss ++ replicate (length marks - length ss) 0
      → marks ≡ dues_of (take len ss) ++ replicate (length marks - length (take len ss)) 0
  marked-take marks ss len g fits is =
      let a = length ss - length (take len ss) in
      let b = length marks - length ss in
      let n : a + b ≡ length marks - length (take len ss) = let le = length-take ss len in omega (arith, le, fits) in
      is ∙ ap (λ l. l ++ replicate b 0) (dues-take ss len g) ∙ append_assoc (dues_of (take len ss)) (replicate a 0) (replicate b 0)
      ∙ ap (λ l. dues_of (take len ss) ++ l) (replicate-append-replicate a b 0 ∙ ap (λ m. replicate m 0) n)

  pub taken-short : (ss : List (Spot D)) (len n : ℕ) → length ss ≤ n → length (take len ss) ≤ n
  taken-short ss len n le = let l = length-take ss len in omega (arith, l, le)

  -- where an operation waits at each place
  one_more : (s : Spot D) (o : Option D) (os : List (Operation D)) → is_some (wait_with s o) ≡ true →
      length (before_all (op_with s o) os) ≡ suc (length os)
  one_more s None os e = cc
  one_more s (Some d) os e = refl

  pub all-live : (ss : List (Spot D)) → ((q : ℕ) → q < length ss → is_some (wait_at ss q) ≡ true) → length (operations_in ss) ≡ length ss
  all-live [] h = refl
  all-live (s ∷ ss) h = one_more s s.action (operations_in ss) (h 0 (omega arith))
      ∙ ap (λ n. suc n) (all-live ss (λ q lt. h (suc q) (omega (arith, lt))))

module _ {D : Type 0} (s : Spotted D) (w : Woven) (stamps : List ℕ) where
  pub packing-begin : IsHung (wait_at s.spots) w stamps → length stamps ≤ 2 ^ 27 → length s.spots ≤ w.places → IsPacking s w stamps 0 0
  packing-begin h at_most long = record {
    hung = h;
    at_most = at_most;
    order = omega arith;
    within = omega arith;
    long = long;
    laid = λ q lt. absurd (omega (arith, lt));
    free = λ q le lt. absurd (omega (arith, lt));
  }

  pub packing-gone : (kept place : ℕ) → IsPacking s w stamps kept place → length s.spots ≤ place → AreGone kept s.spots
  packing-gone kept place p end = λ q le. elim (cases_lt q place) [
    | inl lt ↦ p.free q le lt
    | inr past ↦ wait-past s.spots q (omega (arith, past, end))
  ]

  -- as many are laid as wait
  pub packed-full : (kept place : ℕ) → IsPacking s w stamps kept place →
      length (take kept s.spots) ≡ length (operations_in (take kept s.spots))
  packed-full kept place p = sym (all-live (take kept s.spots) (λ q lt.
      let short = length-take s.spots kept in
      let at_most = length-taken s.spots kept in
      ap is_some (take-early s.spots kept q (omega (arith, lt, at_most))) ∙ p.laid q (omega (arith, lt, at_most))))
    where
      length-taken : (ss : List (Spot D)) (len : ℕ) → length (take len ss) ≤ len
      length-taken ss zero = omega arith
      length-taken [] (suc len) = omega arith
      length-taken (t ∷ ss) (suc len) = let r = length-taken ss len in omega (arith, r)

      take-early : (ss : List (Spot D)) (len q : ℕ) → q < len → wait_at (take len ss) q ≡ wait_at ss q
      take-early ss zero q lt = absurd (omega (arith, lt))
      take-early [] (suc len) q lt = refl
      take-early (t ∷ ss) (suc len) zero lt = refl
      take-early (t ∷ ss) (suc len) (suc q) lt = take-early ss len q (omega (arith, lt))

  -- a place where none waits is passed
  pub packing-pass : (kept place next : ℕ) → next ≡ suc place → IsPacking s w stamps kept place → place < length s.spots →
      wait_at s.spots place ≡ None → IsPacking s w stamps kept next
  packing-pass kept place next e p lt none = record {
    hung = p.hung;
    at_most = p.at_most;
    order = omega (arith, e, p.order);
    within = omega (arith, e, lt);
    long = p.long;
    laid = p.laid;
    free = λ q le below. elim (eqb_tells q place) [
      | inl same ↦ ap (wait_at s.spots) same.1 ∙ none
      | inr other ↦ let n = other.1 in p.free q le (omega (arith, below, e, n))
    ];
  }

  -- one that stays where it is
  pub packing-stay : (kept place more next : ℕ) → more ≡ suc kept → next ≡ suc place → kept ≡ place → IsPacking s w stamps kept place →
      place < length s.spots → is_some (wait_at s.spots place) ≡ true → IsPacking s w stamps more next
  packing-stay kept place more next em en same p lt some = record {
    hung = p.hung;
    at_most = p.at_most;
    order = omega (arith, em, en, same);
    within = omega (arith, en, lt);
    long = p.long;
    laid = λ q below. elim (eqb_tells q place) [
      | inl at ↦ ap (λ i. is_some (wait_at s.spots i)) at.1 ∙ some
      | inr other ↦ let n = other.1 in p.laid q (omega (arith, below, em, same, n))
    ];
    free = λ q le below. absurd (omega (arith, le, below, em, en, same));
  }

pub packed-end : {D : Type 0} (ss : List (Spot D)) (kept place : ℕ) → length ss ≤ place → packed kept place ss ≡ take kept ss
packed-end ss kept place le = ap (λ l. take kept ss ++ l) (drop-all ss place le) ∙ append-nil (take kept ss)

-- one that is carried
pub packing-carry : {D : Type 0} (old new : Spotted D) (w w2 : Woven) (stamps : List ℕ) (kept place more next : ℕ) (d : Spot D) →
    more ≡ suc kept → next ≡ suc place → kept < place → IsPacking old w stamps kept place → place < length old.spots
    → is_some (wait_at old.spots place) ≡ true → IsHung (wait_at new.spots) w2 stamps → w2.places ≡ w.places →
    new.spots ≡ swap old.spots place kept → IsPacking new w2 stamps more next
packing-carry old new w w2 stamps kept place more next d em en lt p within some h places is =
    let empty : wait_at old.spots kept ≡ None = p.free kept (omega arith) lt in
    let long : length new.spots ≡ length old.spots = ap length is ∙ swap-length old.spots place kept lt within d in
    let at : (q : ℕ) → wait_at new.spots q ≡ cond (nat_eq q kept) (wait_at old.spots place)
    (cond (nat_eq q place) (wait_at old.spots kept) (wait_at old.spots q)) =
    λ q. ap (λ l. wait_at l q) is ∙ swap-wait old.spots place kept lt within d q in
    record {
      hung = h;
      at_most = p.at_most;
      order = omega (arith, em, en, lt);
      within = omega (arith, en, within, long);
      long = omega (arith, p.long, long, places);
      laid = λ q below. ap is_some (at q) ∙ elim (eqb_tells q kept) [
        | inl same ↦ rw same.0 some
        | inr other ↦
            let n = other.1 in
            let apart : nat_eq q place ≡ false = ne_eqb q place (λ e. omega (arith, below, em, lt, e)) in
            rw (other.0, apart) (p.laid q (omega (arith, below, em, n)))
      ];
      free = λ q le below. at q ∙ elim (eqb_tells q kept) [
        | inl same ↦ let e = same.1 in absurd (omega (arith, le, em, e))
        | inr other ↦ rw other.0 (elim (eqb_tells q place) [
          | inl last ↦ rw last.0 empty
          | inr differ ↦ let n = differ.1 in rw differ.0 (p.free q (omega (arith, le, em)) (omega (arith, below, en, n)))
        ])
      ];
    }

-- where there is a place there is one to read by default
pub with_one : {D : Type 0} (ss : List (Spot D)) (p : ℕ) (P : Type 0) → p < length ss → ((d : Spot D) → P) → P
with_one [] p P lt f = absurd (omega (arith, lt))
with_one (s ∷ ss) p P lt f = f s
