-- What a key finds in a list whose entries lie apart, and that the list is what the links give.
use Rattle.std.proofs.Common.{◌≡◌, ℕ, zero, suc, ◌≤◌, Bool, true, false, cond, nat_eq, List, [], ◌∷◌, ◌++◌, length, get_or, Option, Some}
use Rattle.std.proofs.Common.{None, refl, sym, ap, subst, ◌∙◌, inl, inr, arith}
use Rattle.std.proofs.lemmas.Bool.{ne_eqb, eq-eqb}
use Rattle.std.proofs.lemmas.Bool.Decides.{eqb_tells}
use Rattle.std.specs.Option.{is_some}
use Rattle.chain_list.specs.declared.chain.ChainKey.{ChainKey}
use Rattle.chain_list.specs.NodeMap.{Node}
use Rattle.chain_list.specs.Chain.{Keyed, keyed, same_key, value_at, without, changed, first_key, key_after, first_or, Linked, stamp_at}
use Rattle.chain_list.specs.ChainFields.{stamp_or, entry_and, entries_from}
use Rattle.chain_list.specs.Chain.{NotAt, Apart}
use Rattle.chain_list.proofs.ChainLemmas.{stamp-not_at, stamp-here}

pub same_key-apart : (a b : ChainKey) → (a.place ≡ b.place → ⊥) → same_key a b ≡ false
same_key-apart a b n = let apart : nat_eq a.place b.place ≡ false = ne_eqb a.place b.place n in rw apart

pub same_key-refl : (a : ChainKey) → same_key a a ≡ true
same_key-refl a = let p : nat_eq a.place a.place ≡ true = eq-eqb a.place a.place refl in let s : nat_eq a.stamp a.stamp ≡ true =
    eq-eqb a.stamp a.stamp refl in rw (p, s)

pub same_key-stamps : (a b : ChainKey) → (a.stamp ≡ b.stamp → ⊥) → same_key a b ≡ false
same_key-stamps a b n =
    let apart : nat_eq a.stamp b.stamp ≡ false = ne_eqb a.stamp b.stamp n in
    elim (eqb_tells a.place b.place) [ inl t ↦ rw (t.0, apart) | inr f ↦ rw f.0 ]

same_key-is : (a b : ChainKey) → same_key a b ≡ true → a ≡ b
same_key-is a b e = elim (eqb_tells a.place b.place) [
  | inl t ↦ elim (eqb_tells a.stamp b.stamp) [
    | inl s ↦ λ i. record { place = t.1 i; stamp = s.1 i }
    | inr s ↦ let f : false ≡ true = rw (t.0, s.0) at e in cc
  ]
  | inr f ↦ let g : false ≡ true = rw f.0 at e in cc
]

-- whether it is this stamp
abbrev pub is_stamp : Option ℕ → ℕ → Bool
is_stamp None stamp = false
is_stamp (Some s) stamp = nat_eq s stamp

module _ {X : Type 0} where
  -- ---- entries at other places
  pub value-append : (key : ChainKey) (xs ys : List (Keyed X)) → NotAt key.place xs → value_at key (xs ++ ys) ≡ value_at key ys
  value-append key [] ys n = refl
  value-append key (x ∷ xs) ys n = let e = same_key-apart x.key key n.0 in rw e (value-append key xs ys n.1)

  pub value-not_at : (key : ChainKey) (xs : List (Keyed X)) → NotAt key.place xs → value_at key xs ≡ None
  value-not_at key [] n = refl
  value-not_at key (x ∷ xs) n = let e = same_key-apart x.key key n.0 in rw e (value-not_at key xs n.1)

  pub without-not_at : (key : ChainKey) (xs : List (Keyed X)) → NotAt key.place xs → without key xs ≡ xs
  without-not_at key [] n = refl
  without-not_at key (x ∷ xs) n = let e = same_key-apart x.key key n.0 in rw e (ap (λ r. x ∷ r) (without-not_at key xs n.1))

  pub without-append : (key : ChainKey) (xs ys : List (Keyed X)) → NotAt key.place xs → without key (xs ++ ys) ≡ xs ++ without key ys
  without-append key [] ys n = refl
  without-append key (x ∷ xs) ys n = let e = same_key-apart x.key key n.0 in rw e (ap (λ r. x ∷ r) (without-append key xs ys n.1))

  pub changed-not_at : (key : ChainKey) (w : X) (xs : List (Keyed X)) → NotAt key.place xs → changed key w xs ≡ xs
  changed-not_at key w [] n = refl
  changed-not_at key w (x ∷ xs) n = let e = same_key-apart x.key key n.0 in rw e (ap (λ r. x ∷ r) (changed-not_at key w xs n.1))

  pub changed-append : (key : ChainKey) (w : X) (xs ys : List (Keyed X)) → NotAt key.place xs →
      changed key w (xs ++ ys) ≡ xs ++ changed key w ys
  changed-append key w [] ys n = refl
  changed-append key w (x ∷ xs) ys n = let e = same_key-apart x.key key n.0 in rw e (ap (λ r. x ∷ r) (changed-append key w xs ys n.1))

  pub after-append : (key : ChainKey) (xs ys : List (Keyed X)) → NotAt key.place xs → key_after key (xs ++ ys) ≡ key_after key ys
  after-append key [] ys n = refl
  after-append key (x ∷ xs) ys n = let e = same_key-apart x.key key n.0 in rw e (after-append key xs ys n.1)

  -- ---- the entry itself
  pub value-here : (x : Keyed X) (xs : List (Keyed X)) → value_at x.key (x ∷ xs) ≡ Some x.value
  value-here x xs = let e = same_key-refl x.key in rw e

  pub without-here : (x : Keyed X) (xs : List (Keyed X)) → NotAt x.key.place xs → without x.key (x ∷ xs) ≡ xs
  without-here x xs n = let e = same_key-refl x.key in rw e (without-not_at x.key xs n)

  pub changed-here : (x : Keyed X) (w : X) (xs : List (Keyed X)) → NotAt x.key.place xs → changed x.key w (x ∷ xs) ≡ keyed x.key w ∷ xs
  changed-here x w xs n = let e = same_key-refl x.key in rw e (ap (λ r. keyed x.key w ∷ r) (changed-not_at x.key w xs n))

  pub after-here : (x : Keyed X) (xs : List (Keyed X)) → key_after x.key (x ∷ xs) ≡ first_key xs
  after-here x xs = let e = same_key-refl x.key in rw e

  -- ---- the stamp at a place tells whether a key is live
  pub record IsSplit (key : ChainKey) (xs : List (Keyed X)) : Type 0 where
    pub before : List (Keyed X)
    pub entry : Keyed X
    pub behind : List (Keyed X)
    pub is : xs ≡ before ++ entry ∷ behind
    pub key_is : entry.key ≡ key

  split-more : (key : ChainKey) (x : Keyed X) (xs : List (Keyed X)) → IsSplit key xs → IsSplit key (x ∷ xs)
  split-more key x xs s = record { before = x ∷ s.before; entry = s.entry; behind = s.behind; is = ap (λ r. x ∷ r) s.is; key_is = s.key_is }

  pub split-stamp : (key : ChainKey) (xs : List (Keyed X)) → stamp_at key.place xs ≡ Some key.stamp → IsSplit key xs
  split-stamp key [] e = cc
  split-stamp key (x ∷ xs) e = elim (eqb_tells x.key.place key.place) [
    | inl t ↦
        let found : Some x.key.stamp ≡ Some key.stamp = rw t.0 at e in
        let stamp : x.key.stamp ≡ key.stamp = cc in
        record { before = []; entry = x; behind = xs; is = refl; key_is = λ i. record { place = t.1 i; stamp = stamp i } }
    | inr f ↦ split-more key x xs (split-stamp key xs (rw f.0 at e))
  ]

  pub value-absent : (key : ChainKey) (xs : List (Keyed X)) → Apart xs → (stamp_at key.place xs ≡ Some key.stamp → ⊥) →
      value_at key xs ≡ None
  value-absent key [] a n = refl
  value-absent key (x ∷ xs) a n = elim (eqb_tells x.key.place key.place) [
    | inl t ↦
        let other = same_key-stamps x.key key (λ s. n (rw (t.0, s))) in
        rw other (value-not_at key xs (subst (λ p. NotAt p xs) t.1 a.0))
    | inr f ↦ let other = same_key-apart x.key key f.1 in rw other (value-absent key xs a.1 (λ s. n (rw f.0 s)))
  ]

  -- ---- the list is what the links give
  abbrev pub Stamped : List (Option ℕ) → List (Keyed X) → Type 0
  Stamped ss [] = Unit {0}
  Stamped ss (x ∷ xs) = (get_or ss x.key.place None ≡ Some x.key.stamp) × Stamped ss xs

  pub Stamped-of : (ss : List (Option ℕ)) (xs : List (Keyed X)) → Apart xs →
      ((p s : ℕ) → stamp_at p xs ≡ Some s → get_or ss p None ≡ Some s) → Stamped ss xs
  Stamped-of ss [] a h = tt
  Stamped-of ss (x ∷ xs) a h = (
    h x.key.place x.key.stamp (stamp-here x xs),
    Stamped-of ss xs a.1 (λ p s e. elim (eqb_tells x.key.place p) [
      | inl t ↦ let none = stamp-not_at p xs (subst (λ q. NotAt q xs) t.1 a.0) in cc
      | inr f ↦ h p s (rw f.0 e)
    ]),
  )

  pub entries-linked : (n : ℕ) (cs : List (Option (Node X))) (ss : List (Option ℕ)) (b : Option ℕ) (xs : List (Keyed X))
      → Linked cs b xs None → Stamped ss xs → length xs ≤ n → entries_from n cs ss (first_or xs None) ≡ xs
  entries-linked zero cs ss b [] l s le = refl
  entries-linked zero cs ss b (x ∷ xs) l s le = absurd (omega arith)
  entries-linked (suc n) cs ss b [] l s le = refl
  entries-linked (suc n) cs ss b (x ∷ xs) l s le =
      ap (λ (r : Option ℕ × Option (Node X)). entry_and x.key.place r.0 r.1 (λ next. entries_from n cs ss next)) (λ i. (s.0 i, l.0 i))
      ∙ ap (λ r. x ∷ r) (entries-linked n cs ss (Some x.key.place) xs l.1 s.1 (omega arith))

  pub first-stamped : (ss : List (Option ℕ)) (xs : List (Keyed X)) (p : ℕ) → Stamped ss xs → first_or xs None ≡ Some p
      → (is_some (get_or ss p None) ≡ true) × (first_key xs ≡ Some (record { place = p; stamp = stamp_or (get_or ss p None) }))
  first-stamped ss [] p s e = cc
  first-stamped ss (x ∷ xs) p s e =
      let at : x.key.place ≡ p = cc in
      let stamp : get_or ss p None ≡ Some x.key.stamp = subst (λ q. get_or ss q None ≡ Some x.key.stamp) at s.0 in
      (ap is_some stamp, λ i. Some (record { place = at i; stamp = stamp_or (sym stamp i) }))

  -- ---- a live key stands in the list
  split-test : (key : ChainKey) (x : Keyed X) (xs : List (Keyed X)) (t : Bool) → same_key x.key key ≡ t
      → is_some (cond t (Some x.value) (value_at key xs)) ≡ true → (is_some (value_at key xs) ≡ true → IsSplit key xs) →
      IsSplit key (x ∷ xs)
  split-test key x xs true e live more = record { before = []; entry = x; behind = xs; is = refl; key_is = same_key-is x.key key e }
  split-test key x xs false e live more = split-more key x xs (more live)

  pub split-live : (key : ChainKey) (xs : List (Keyed X)) → is_some (value_at key xs) ≡ true → IsSplit key xs
  split-live key [] e = cc
  split-live key (x ∷ xs) e = split-test key x xs (same_key x.key key) refl e (split-live key xs)

  -- what is kept at the place tells whether the key is live
  pub stamp-tells : (key : ChainKey) (xs : List (Keyed X)) → Apart xs → is_stamp (stamp_at key.place xs) key.stamp ≡ is_some
      (value_at key xs)
  stamp-tells key [] a = refl
  stamp-tells key (x ∷ xs) a = elim (eqb_tells x.key.place key.place) [
    | inl t ↦ rw t.0 (stamp-tells-here key x xs (subst (λ p. NotAt p xs) t.1 a.0))
    | inr f ↦ rw f.0 (stamp-tells key xs a.1)
  ]
    where
      stamp-tells-here : (key : ChainKey) (x : Keyed X) (xs : List (Keyed X)) → NotAt key.place xs
          → nat_eq x.key.stamp key.stamp ≡ is_some (cond (nat_eq x.key.stamp key.stamp) (Some x.value) (value_at key xs))
      stamp-tells-here key x xs n = elim (eqb_tells x.key.stamp key.stamp)
          [ inl t ↦ rw t.0 refl | inr f ↦ rw f.0 (sym (ap is_some (value-not_at key xs n))) ]

  pub Stamped-cut : (ss : List (Option ℕ)) (xs ys : List (Keyed X)) → Stamped ss (xs ++ ys) → Stamped ss ys
  Stamped-cut ss [] ys s = s
  Stamped-cut ss (x ∷ xs) ys s = Stamped-cut ss xs ys s.1

  pub first-none : (xs : List (Keyed X)) → first_or xs None ≡ None → first_key xs ≡ None
  first-none [] e = refl
  first-none (x ∷ xs) e = cc
