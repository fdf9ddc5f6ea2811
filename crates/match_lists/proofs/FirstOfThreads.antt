-- The first entry of a list that takes a message is the earliest one of the firsts of its threads.
use Rattle.std.proofs.Common.{◌≡◌, ℕ, ◌+◌, ◌<◌, ◌≤◌, Bool, true, false, ◌||◌, nat_eq, nat_lt, List, [], ◌∷◌, filter, find, count_by, length}
use Rattle.std.proofs.Common.{Option, Some, None, refl, sym, ap, ◌∙◌, inl, inr, arith}
use Rattle.std.proofs.lemmas.Bool.{cases_Bool, lt-ltb, le-ltb}
use Rattle.std.proofs.lemmas.List.Sums.{length-filter, sum_by-cons}
use Rattle.ptl_types.specs.declared.headers.Header.{Header}
use Rattle.chain_list.specs.declared.chain.ChainKey.{ChainKey}
use Rattle.chain_list.specs.Chain.{Keyed, value_at, NotAt, Apart}
use Rattle.chain_list.proofs.KeyLemmas.{same_key-apart, value-here}
use Rattle.ni_model.specs.declared.Linked.{Linked}
use Rattle.ni_model.specs.Lists.{fits}
use Rattle.match_lists.specs.Lists.{values}
use Rattle.match_lists.specs.Buckets.{thread_of, on_thread, whole_thread, upper_48_thread, upper_24_thread, last_thread, may_take}
use Rattle.match_lists.specs.Buckets.{candidates_in}
use Rattle.match_lists.specs.Indexed.{takes, Later, Rising, key_of, earlier_of, first_on, first_of_threads, on_threads}
use Rattle.match_lists.proofs.BucketLemmas.{num, thread-takes, thread-counts}

pub find-hit : {X : Type 0} (p : X → Bool) (x : X) (xs : List X) → p x ≡ true → find p (x ∷ xs) ≡ Some x
find-hit p x xs e = rw e

pub find-pass : {X : Type 0} (p : X → Bool) (x : X) (xs : List X) → p x ≡ false → find p (x ∷ xs) ≡ find p xs
find-pass p x xs e = rw e

-- ---- later entries have later keys
Later-filter : (q : Keyed Linked → Bool) (s : ℕ) (xs : List (Keyed Linked)) → Later s xs → Later s (filter q xs)
Later-filter q s [] l = tt
Later-filter q s (x ∷ xs) l = elim (cases_Bool (q x)) [
  | inl e ↦ rw e (l.0, Later-filter q s xs l.1)
  | inr e ↦ rw e
      (Later-filter q s xs l.1)
]

-- the key of the first that passes, where it is after a stamp
abbrev IsAfter : ℕ → Option ChainKey → Type 0
IsAfter s None = Unit {0}
IsAfter s (Some k) = s < k.stamp

Later-found : (p : Keyed Linked → Bool) (s : ℕ) (xs : List (Keyed Linked)) → Later s xs → IsAfter s (key_of (find p xs))
Later-found p s [] l = tt
Later-found p s (x ∷ xs) l = elim (cases_Bool (p x)) [ inl e ↦ rw e l.0 | inr e ↦ rw e (Later-found p s xs l.1) ]

earlier-left : (k : ChainKey) (o : Option ChainKey) → IsAfter k.stamp o → Some k ≡ earlier_of (Some k) o
earlier-left k None a = refl
earlier-left k (Some j) a = let e : nat_lt k.stamp j.stamp ≡ true = lt-ltb k.stamp j.stamp a in rw e

earlier-right : (k : ChainKey) (o : Option ChainKey) → IsAfter k.stamp o → Some k ≡ earlier_of o (Some k)
earlier-right k None a = refl
earlier-right k (Some j) a = let e : nat_lt j.stamp k.stamp ≡ false = le-ltb j.stamp k.stamp (omega arith) in rw e

earlier-same : (k : ChainKey) → Some k ≡ earlier_of (Some k) (Some k)
earlier-same k = let e : nat_lt k.stamp k.stamp ≡ false = le-ltb k.stamp k.stamp (omega arith) in rw e

-- ---- the first of the list is that of the part in which all that pass lie
find-covered : (p c : Keyed Linked → Bool) → ((x : Keyed Linked) → p x ≡ true → c x ≡ true) → (xs : List (Keyed Linked)) →
    find p xs ≡ find p (filter c xs)
find-covered p c covers [] = refl
find-covered p c covers (x ∷ xs) = elim (cases_Bool (p x)) [
  | inl e ↦ let f = covers x e in find-hit p x xs e ∙ rw (f, e) refl
  | inr e ↦ find-pass p x xs e ∙ find-covered p c covers xs ∙ elim (cases_Bool (c x)) [ inl f ↦ rw (f, e) refl | inr f ↦ rw f refl ]
]

-- the first of two parts together is the earlier one of their firsts
earlier-either : (p q r : Keyed Linked → Bool) (xs : List (Keyed Linked)) (given : ℕ) → Rising xs given
    → key_of (find p (filter (λ x. q x || r x) xs)) ≡ earlier_of (key_of (find p (filter q xs))) (key_of (find p (filter r xs)))
earlier-either p q r [] given rise = refl
earlier-either p q r (x ∷ xs) given rise =
    let rest = earlier-either p q r xs given rise.2 in
    let qs = filter q xs in
    let rs = filter r xs in
    let after-q = Later-found p x.key.stamp qs (Later-filter q x.key.stamp xs rise.1) in
    let after-r = Later-found p x.key.stamp rs (Later-filter r x.key.stamp xs rise.1) in
    elim (cases_Bool (q x)) [
      | inl f ↦ elim (cases_Bool (r x)) [
        | inl g ↦ elim (cases_Bool (p x)) [ inl e ↦ rw (f, g, e) (earlier-same x.key) | inr e ↦ rw (f, g, e) rest ]
        | inr g ↦ elim (cases_Bool (p x)) [
          | inl e ↦ rw (f, g, e) (earlier-left x.key (key_of (find p rs)) after-r)
          | inr e ↦ rw (f, g, e)
              rest
        ]
      ]
      | inr f ↦ elim (cases_Bool (r x)) [
        | inl g ↦ elim (cases_Bool (p x)) [
          | inl e ↦ rw (f, g, e) (earlier-right x.key (key_of (find p qs)) after-q)
          | inr e ↦ rw (f, g, e)
              rest
        ]
        | inr g ↦ rw (f, g) rest
      ]
    ]

-- ---- the value of the key that was found
abbrev pub value_of : List (Keyed Linked) → Option ChainKey → Option Linked
value_of xs None = None
value_of xs (Some k) = value_at k xs

-- the place of what was found lies elsewhere
abbrev IsApart : ℕ → Option (Keyed Linked) → Type 0
IsApart p None = Unit {0}
IsApart p (Some x) = x.key.place ≡ p → ⊥

found-apart : (t : Keyed Linked → Bool) (p : ℕ) (xs : List (Keyed Linked)) → NotAt p xs → IsApart p (find t xs)
found-apart t p [] n = tt
found-apart t p (x ∷ xs) n = elim (cases_Bool (t x)) [ inl e ↦ rw e n.0 | inr e ↦ rw e (found-apart t p xs n.1) ]

value-passed : (x : Keyed Linked) (xs : List (Keyed Linked)) (o : Option (Keyed Linked)) → IsApart x.key.place o →
    value_of xs (key_of o) ≡ value_of (x ∷ xs) (key_of o)
value-passed x xs None a = refl
value-passed x xs (Some y) a = let e = same_key-apart x.key y.key (λ s. a (sym s)) in rw e

pub found-value : (h : Header) (xs : List (Keyed Linked)) → Apart xs → find (fits h) (values xs) ≡ value_of xs (key_of (find (takes h) xs))
found-value h [] a = refl
found-value h (x ∷ xs) a = elim (cases_Bool (fits h x.value)) [
  | inl e ↦ find-hit (fits h) x.value (values xs) e ∙ sym (value-here x xs)
      ∙ ap (λ o. value_of (x ∷ xs) (key_of o)) (sym (find-hit (takes h) x xs e))
  | inr e ↦ find-pass (fits h) x.value (values xs) e ∙ found-value h xs a.1
      ∙ value-passed x xs (find (takes h) xs) (found-apart (takes h) x.key.place xs a.0)
      ∙ ap (λ o. value_of (x ∷ xs) (key_of o)) (sym (find-pass (takes h) x xs e))
]

-- ---- the threads of a message
pub first-of-threads : (h : Header) (limit given : ℕ) (xs : List (Keyed Linked)) → Apart xs → Rising xs given →
    find (fits h) (values xs) ≡ value_of xs (first_of_threads h limit xs)
first-of-threads h limit given xs a r =
    let on : ℕ → Keyed Linked → Bool = λ k x. nat_eq (thread_of limit x.value) k in
    let whole = on (whole_thread limit h.match_bits) in
    let by_48 = on (upper_48_thread limit h.match_bits) in
    let by_24 = on (upper_24_thread limit h.match_bits) in
    let last = on (last_thread limit) in
    let all : Keyed Linked → Bool = λ x. (whole x || by_48 x) || (by_24 x || last x) in
    found-value h xs a
    ∙ ap (λ o. value_of xs (key_of o)) (find-covered (takes h) all (λ x e. thread-takes limit h x.value e) xs)
    ∙ ap (λ k. value_of xs k) (earlier-either (takes h) (λ x. whole x || by_48 x) (λ x. by_24 x || last x) xs given r
    ∙ (λ i. earlier_of (earlier-either (takes h) whole by_48 xs given r i) (earlier-either (takes h) by_24 last xs given r i)))

-- ---- how many entries these threads have
counted : (q r s t : Keyed Linked → Bool) (m : Linked → Bool) →
    ((x : Keyed Linked) → num (q x) + num (r x) + (num (s x) + num (t x)) ≤ num (m x.value))
    → (xs : List (Keyed Linked)) → count_by q xs + count_by r xs + (count_by s xs + count_by t xs) ≤ count_by m (values xs)
counted q r s t m h [] = omega arith
counted q r s t m h (x ∷ xs) =
    let here = h x in
    let rest = counted q r s t m h xs in
    omega (
      arith,
      rest,
      here,
      sum_by-cons (λ y. num (q y)) x xs,
      sum_by-cons (λ y. num (r y)) x xs,
      sum_by-cons (λ y. num (s y)) x xs,
      sum_by-cons (λ y. num (t y)) x xs,
      sum_by-cons (λ y. num (m y)) x.value (values xs),
    )

pub at_most-on-threads : (limit bits : ℕ) (xs : List (Keyed Linked)) → on_threads limit bits xs ≤ candidates_in limit bits (values xs)
at_most-on-threads limit bits xs =
    let on : ℕ → Keyed Linked → Bool = λ k y. nat_eq (thread_of limit y.value) k in
    let q = on (whole_thread limit bits) in
    let r = on (upper_48_thread limit bits) in
    let s = on (upper_24_thread limit bits) in
    let t = on (last_thread limit) in
    let all = counted q r s t (may_take limit bits) (λ y. thread-counts limit bits y.value) xs in
    omega (arith, all, length-filter q xs, length-filter r xs, length-filter s xs, length-filter t xs)

found-some : (t : Keyed Linked → Bool) (xs : List (Keyed Linked)) (k : ChainKey) → key_of (find t xs) ≡ Some k → 0 < length xs
found-some t [] k e = cc
found-some t (x ∷ xs) k e = omega arith

some-earlier : (a b : Option ChainKey) (m n : ℕ) → ((k : ChainKey) → a ≡ Some k → 0 < m) → ((k : ChainKey) → b ≡ Some k → 0 < n) →
    (k : ChainKey) → earlier_of a b ≡ Some k → 0 < m + n
some-earlier None b m n f g k e = let some = g k e in omega arith
some-earlier (Some j) b m n f g k e = let some = f j refl in omega arith

pub some-on-threads : (h : Header) (limit : ℕ) (xs : List (Keyed Linked)) (k : ChainKey) → first_of_threads h limit xs ≡ Some k →
    0 < on_threads limit h.match_bits xs
some-on-threads h limit xs k e =
    let some : (j : ℕ) (k : ChainKey) → first_on h limit xs j ≡ Some k → 0 < length (on_thread limit j xs) =
    λ j. found-some (takes h) (on_thread limit j xs) in
    let a = whole_thread limit h.match_bits in
    let b = upper_48_thread limit h.match_bits in
    let c = upper_24_thread limit h.match_bits in
    let d = last_thread limit in
    some-earlier (earlier_of (first_on h limit xs a) (first_on h limit xs b)) (earlier_of (first_on h limit xs c) (first_on h limit xs d))
    (length (on_thread limit a xs) + length (on_thread limit b xs)) (length (on_thread limit c xs) + length (on_thread limit d xs))
    (some-earlier (first_on h limit xs a) (first_on h limit xs b) (length (on_thread limit a xs)) (length (on_thread limit b xs)) (some a)
    (some b))
    (some-earlier (first_on h limit xs c) (first_on h limit xs d) (length (on_thread limit c xs)) (length (on_thread limit d xs)) (some c)
    (some d)) k e
