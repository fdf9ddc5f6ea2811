-- The walk along a chain by its keys.
use Rattle.std.proofs.Common.{◌≡◌, ℕ, Bool, true, false, cond, nat_eq, get_or, inl, inr, List, [], ◌∷◌, ◌++◌, Option, Some, None, refl, sym}
use Rattle.std.proofs.Common.{ap, subst, ◌∙◌, append_assoc}
use Rattle.std.proofs.Common.{Bor}
use Rattle.std.proofs.lemmas.Bool.{ne_eqb, eq-eqb}
use Rattle.std.proofs.lemmas.Bool.Decides.{eqb_tells}
use Rattle.std.specs.Option.{is_some, option_copied}
use Rattle.chain_list.specs.declared.chain.ChainKey.{ChainKey}
use Rattle.chain_list.specs.Chain.{Keyed, same_key, value_at, first_key, key_after, first_or, last_or, Linked}
use Rattle.chain_list.specs.NodeMap.{Node}
use Rattle.chain_list.specs.NodeMap.{node}
use Rattle.chain_list.specs.Chain.{NotAt, Apart}
use Rattle.chain_list.proofs.ChainLemmas.{NotAt-cut, Apart-before, Linked-middle}
use Rattle.chain_list.proofs.KeyLemmas.{same_key-apart, same_key-refl, value-append, value-here, after-append, after-here, split-live}

-- the place of a key
abbrev pub place_of_key : Option ChainKey → Option ℕ
place_of_key None = None
place_of_key (Some key) = Some key.place

module _ {X : Type 0} where
  -- the entries from a key on
  abbrev pub from_key : Option ChainKey → List (Keyed X) → List (Keyed X)
  from_key None xs = []
  from_key (Some key) [] = []
  from_key (Some key) (x ∷ xs) = cond (same_key x.key key) (x ∷ xs) (from_key (Some key) xs)

  pub from-first : (xs : List (Keyed X)) → from_key (first_key xs) xs ≡ xs
  from-first [] = refl
  from-first (x ∷ xs) = let e = same_key-refl x.key in rw e

  from-split : (xs : List (Keyed X)) (x : Keyed X) (ys : List (Keyed X)) → Apart (xs ++ x ∷ ys) →
      from_key (Some x.key) (xs ++ x ∷ ys) ≡ x ∷ ys
  from-split [] x ys a = let e = same_key-refl x.key in rw e
  from-split (z ∷ xs) x ys a =
      let apart = (NotAt-cut z.key.place xs (x ∷ ys) a.0).1.0 in
      let other = same_key-apart z.key x.key (λ e. apart (sym e)) in rw other (from-split xs x ys a.1)

  from-next : (xs ys zs : List (Keyed X)) → Apart zs → zs ≡ xs ++ ys → from_key (first_key ys) zs ≡ ys
  from-next xs [] zs a e = refl
  from-next xs (y ∷ ys) zs a e = ap (λ l. from_key (Some y.key) l) e ∙ from-split xs y ys (subst (λ l. Apart l) e a)

  -- what a live key tells
  pub record IsAhead (key : ChainKey) (xs : List (Keyed X)) : Type 0 where
    pub value : X
    pub behind : List (Keyed X)
    pub entry : Keyed X
    pub entry_is : entry.value ≡ value
    pub rest_is : from_key (Some key) xs ≡ entry ∷ behind
    pub value_is : value_at key xs ≡ Some value
    pub after_is : from_key (key_after key xs) xs ≡ behind
    pub next_is : key_after key xs ≡ first_key behind

  pub ahead : (key : ChainKey) (xs : List (Keyed X)) → Apart xs → is_some (value_at key xs) ≡ true → IsAhead key xs
  ahead key xs a live =
      let s = split-live key xs live in
      let parts : Apart (s.before ++ s.entry ∷ s.behind) = subst (λ l. Apart l) s.is a in
      let away : NotAt key.place s.before = subst (λ (k : ChainKey). NotAt k.place s.before) s.key_is
      (Apart-before s.before s.entry s.behind parts) in
      let here : (k : ChainKey) → s.entry.key ≡ k → (value_at k (s.entry ∷ s.behind) ≡ Some s.entry.value) ×
      (key_after k (s.entry ∷ s.behind) ≡ first_key s.behind) =
      λ k e. (
        ap (λ j. value_at j (s.entry ∷ s.behind)) (sym e) ∙ value-here s.entry s.behind,
        ap (λ j. key_after j (s.entry ∷ s.behind)) (sym e) ∙ after-here s.entry s.behind,
      ) in
      let next = ap (λ l. key_after key l) s.is ∙ after-append key s.before (s.entry ∷ s.behind) away ∙ (here key s.key_is).1 in
      record {
        value = s.entry.value;
        behind = s.behind;
        entry = s.entry;
        entry_is = refl;
        rest_is = ap (λ l. from_key (Some key) l) s.is ∙ ap (λ k. from_key (Some k) (s.before ++ s.entry ∷ s.behind)) (sym s.key_is)
            ∙ from-split s.before s.entry s.behind parts;
        value_is = ap (λ l. value_at key l) s.is ∙ value-append key s.before (s.entry ∷ s.behind) away ∙ (here key s.key_is).0;
        after_is = ap (λ k. from_key k xs) next ∙ from-next (s.before ++ s.entry ∷ []) s.behind xs a
            (s.is ∙ sym (append_assoc s.before (s.entry ∷ []) s.behind));
        next_is = next;
      }

  -- the first key is live, where there is one
  pub live-first : (xs : List (Keyed X)) (key : ChainKey) → first_key xs ≡ Some key → is_some (value_at key xs) ≡ true
  live-first [] key e = cc
  live-first (x ∷ xs) key e = let at : x.key ≡ key = cc in subst (λ k. is_some (value_at k (x ∷ xs)) ≡ true) at
      (ap is_some (value-here x xs))

  -- a key that comes next is live
  pub live-next : (xs : List (Keyed X)) (next : Option ChainKey) (key : ChainKey) (ys : List (Keyed X)) → next ≡ Some key →
      from_key next xs ≡ ys → next ≡ first_key ys → is_some (value_at key xs) ≡ true
  live-next xs next key ys e f n = live-from xs key (subst (λ o. from_key o xs ≡ ys) e f) (sym e ∙ n)
    where
      live-test : (x : Keyed X) (xs : List (Keyed X)) (key : ChainKey) (ys : List (Keyed X)) (t : Bool) →
          cond t (x ∷ xs) (from_key (Some key) xs) ≡ ys
          → (from_key (Some key) xs ≡ ys → is_some (value_at key xs) ≡ true) → is_some (cond t (Some x.value) (value_at key xs)) ≡ true
      live-test x xs key ys true e h = refl
      live-test x xs key ys false e h = h e

      live-from : (xs : List (Keyed X)) (key : ChainKey) → from_key (Some key) xs ≡ ys → Some key ≡ first_key ys →
          is_some (value_at key xs) ≡ true
      live-from [] key e f = let none : first_key ys ≡ None = ap first_key (sym e) in cc
      live-from (x ∷ xs) key e f = live-test x xs key ys (same_key x.key key) e (λ h. live-from xs key h f)

  -- what the call gave is the value that the key sees
  pub next-found : (x value y : X) {o : Option X} → x ≡ value → o ≡ Some value → Some y ≡ o → x ≡ y
  next-found x value y {o} e f g = let same : y ≡ value = cc in e ∙ sym same

  -- ---- the walk by places
  -- the entries from a place on
  abbrev pub from_place : Option ℕ → List (Keyed X) → List (Keyed X)
  from_place None xs = []
  from_place (Some place) [] = []
  from_place (Some place) (x ∷ xs) = cond (nat_eq x.key.place place) (x ∷ xs) (from_place (Some place) xs)

  pub place-first : (xs : List (Keyed X)) → from_place (first_or xs None) xs ≡ xs
  place-first [] = refl
  place-first (x ∷ xs) = let e : nat_eq x.key.place x.key.place ≡ true = eq-eqb x.key.place x.key.place refl in rw e

  place-split : (xs : List (Keyed X)) (x : Keyed X) (ys : List (Keyed X)) → Apart (xs ++ x ∷ ys) →
      from_place (Some x.key.place) (xs ++ x ∷ ys) ≡ x ∷ ys
  place-split [] x ys a = let e : nat_eq x.key.place x.key.place ≡ true = eq-eqb x.key.place x.key.place refl in rw e
  place-split (z ∷ xs) x ys a =
      let apart = (NotAt-cut z.key.place xs (x ∷ ys) a.0).1.0 in
      let other : nat_eq z.key.place x.key.place ≡ false = ne_eqb z.key.place x.key.place (λ e. apart (sym e)) in
      rw other (place-split xs x ys a.1)

  place-next : (xs ys zs : List (Keyed X)) → Apart zs → zs ≡ xs ++ ys → from_place (first_or ys None) zs ≡ ys
  place-next xs [] zs a e = refl
  place-next xs (y ∷ ys) zs a e = ap (λ l. from_place (Some y.key.place) l) e ∙ place-split xs y ys (subst (λ l. Apart l) e a)

  -- the entry at a place
  pub record IsThere (place : ℕ) (xs : List (Keyed X)) : Type 0 where
    pub front : List (Keyed X)
    pub entry : Keyed X
    pub behind : List (Keyed X)
    pub is : xs ≡ front ++ entry ∷ behind
    pub at : entry.key.place ≡ place
    pub away : NotAt entry.key.place front
    pub rest_is : from_place (Some place) xs ≡ entry ∷ behind
    pub then : from_place (first_or behind None) xs ≡ behind

  record IsCut (place : ℕ) (xs : List (Keyed X)) : Type 0 where
    pub front : List (Keyed X)
    pub entry : Keyed X
    pub behind : List (Keyed X)
    pub is : xs ≡ front ++ entry ∷ behind
    pub at : entry.key.place ≡ place

  cut_at : (place : ℕ) (xs : List (Keyed X)) → Some place ≡ first_or (from_place (Some place) xs) None → IsCut place xs
  cut_at place [] e = cc
  cut_at place (x ∷ xs) e = elim (eqb_tells x.key.place place) [
    | inl t ↦ record { front = []; entry = x; behind = xs; is = refl; at = t.1 }
    | inr f ↦
        let r = cut_at place xs (rw f.0 at e) in
        record { front = x ∷ r.front; entry = r.entry; behind = r.behind; is = ap (λ l. x ∷ l) r.is; at = r.at }
  ]

  pub there : (place : ℕ) (next : Option ℕ) (xs : List (Keyed X)) → Apart xs → next ≡ Some place →
      next ≡ first_or (from_place next xs) None → IsThere place xs
  there place next xs a e live =
      let r = cut_at place xs (sym e ∙ live ∙ ap (λ o. first_or (from_place o xs) None) e) in
      let parts : Apart (r.front ++ r.entry ∷ r.behind) = subst (λ m. Apart m) r.is a in
      record {
        front = r.front;
        entry = r.entry;
        behind = r.behind;
        is = r.is;
        at = r.at;
        away = Apart-before r.front r.entry r.behind parts;
        rest_is = (λ i. from_place (Some (sym r.at i)) (r.is i)) ∙ place-split r.front r.entry r.behind parts;
        then = place-next (r.front ++ r.entry ∷ []) r.behind xs a (r.is ∙ sym (append_assoc r.front (r.entry ∷ []) r.behind));
      }

  -- and what its node holds
  pub record IsHere (place : ℕ) (xs : List (Keyed X)) (cs : List (Option (Node X))) : Type 0 where
    pub entry : Keyed X
    pub behind : List (Keyed X)
    pub before : Option ℕ
    pub rest_is : from_place (Some place) xs ≡ entry ∷ behind
    pub node_is : get_or cs place None ≡ Some (node entry.value before (first_or behind None))
    pub then : from_place (first_or behind None) xs ≡ behind

  pub here : (place : ℕ) (next : Option ℕ) (xs : List (Keyed X)) (cs : List (Option (Node X))) → Apart xs → Linked cs None xs None →
      next ≡ Some place
      → next ≡ first_or (from_place next xs) None → IsHere place xs cs
  here place next xs cs a l e live =
      let r = there place next xs a e live in
      record {
        entry = r.entry;
        behind = r.behind;
        before = last_or None r.front;
        rest_is = r.rest_is;
        node_is = ap (λ p. get_or cs p None) (sym r.at) ∙ Linked-middle cs r.front r.entry r.behind
            (subst (λ m. Linked cs None m None) r.is l);
        then = r.then;
      }

  -- the place of the first key
  pub first_place : (xs : List (Keyed X)) → place_of_key (first_key xs) ≡ first_or xs None
  first_place [] = refl
  first_place (x ∷ xs) = refl

-- a reference that was found is there
pub copied-some : {X : Type 0} (o : Option (Bor X)) (v : X) {p : Option X} → option_copied o ≡ p → p ≡ Some v →
    ((x : Bor X) → o ≡ Some x → ⊥) → ⊥
copied-some None v e f h = cc
copied-some (Some x) v e f h = h x refl
