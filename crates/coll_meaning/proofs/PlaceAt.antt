-- The place of a rank among members that rise.
use Rattle.std.proofs.Common.{◌≡◌, ℕ, zero, suc, ◌+◌, ◌<◌, ◌≤◌, Bool, true, false, cond, List, [], ◌∷◌, Option, Some, None, length, get_or}
use Rattle.std.proofs.Common.{refl, ap, sym, subst, ◌∙◌, arith, inl, inr}
use Rattle.std.specs.Prelude.{◌==◌, is_some, MatchOption}
use Rattle.std.proofs.lemmas.Bool.{cases_order, cases_lt}
use Rattle.std.proofs.lemmas.Bool.Decides.{nat_tests}
use Rattle.coll_shape.specs.Meaning.{place_from}

pub differs : (x y : ℕ) → (x ≡ y → ⊥) → (x == y) ≡ false
differs x y h = grind (arith, nat_tests)

pub agrees : (x y : ℕ) → x ≡ y → (x == y) ≡ true
agrees x y h = grind (arith, nat_tests)

-- it is the place of the first member that is the rank
pub place_some : (k : ℕ) (g : List ℕ) (n r : ℕ) → n < length g → ((i : ℕ) → i < n → get_or g i 0 ≡ r → ⊥) → get_or g n 0 ≡ r →
    place_from k g r ≡ Some (k + n)
place_some k [] n r l before h = absurd (omega arith)
place_some k (m ∷ ms) zero r l before h = ap (λ b. cond b (Some k) (place_from (suc k) ms r)) (agrees m r h)
    ∙ ap Some (let e : k ≡ k + 0 = omega arith in e)
place_some k (m ∷ ms) (suc n) r l before h =
    ap (λ b. cond b (Some k) (place_from (suc k) ms r)) (differs m r (before 0 (omega arith)))
    ∙ place_some (suc k) ms n r (omega arith) (λ i j. before (suc i) (omega arith)) h
    ∙ ap Some (let e : suc k + n ≡ k + suc n = omega arith in e)

pub place_none : (k : ℕ) (g : List ℕ) (r : ℕ) → ((i : ℕ) → i < length g → get_or g i 0 ≡ r → ⊥) → place_from k g r ≡ None
place_none k [] r h = refl
place_none k (m ∷ ms) r h =
    ap (λ b. cond b (Some k) (place_from (suc k) ms r)) (differs m r (h 0 (omega arith)))
    ∙ place_none (suc k) ms r (λ i l. h (suc i) (omega arith))

pub place_next : (g : List ℕ) (n r : ℕ) → n < length g → ((i : ℕ) → i < n → get_or g i 0 < r) → get_or g n 0 ≡ r → place_from 0 g r ≡ Some n
place_next g n r l before h =
    place_some 0 g n r l (λ i j e. let b = before i j in omega (arith, b, e)) h ∙ ap Some (let e : 0 + n ≡ n = omega arith in e)

-- it is no member where those before are smaller, and the next one is greater
pub place_beyond : (g : List ℕ) (n r : ℕ) → n < length g → ((i : ℕ) → i < n → get_or g i 0 < r) →
    ((i j : ℕ) → i < j → j < length g → get_or g i 0 < get_or g j 0) → r < get_or g n 0 → place_from 0 g r ≡ None
place_beyond g n r l before rising h =
    place_none 0 g r
    (λ i j e. elim (cases_order i n) [
      | inl s ↦ let q : get_or g n 0 ≡ r = subst (λ v. get_or g v 0 ≡ r) s e in omega (arith, q, h)
      | inr o ↦ elim o [
        | inl s ↦ let b = before i s in omega (arith, b, e)
        | inr s ↦ let b = rising n i s j in omega (arith, b, e, h)
      ]
    ])

-- the next member and the others, one rank further
pub record Stands (g : List ℕ) (next r : ℕ) : Type 0 where
  pub at_most : next ≤ length g
  pub below : (i : ℕ) → i < next → get_or g i 0 < r
  pub above : (i : ℕ) → next ≤ i → i < length g → r ≤ get_or g i 0

pub stands_next : (g : List ℕ) (next next' r : ℕ) (o : Option ℕ) → Stands g next r →
    ((i j : ℕ) → i < j → j < length g → get_or g i 0 < get_or g j 0)
    → MatchOption o ((i : ℕ) → next ≤ i → i < length g → r < get_or g i 0) (λ i. (i ≡ next) × (next < length g) × (get_or g next 0 ≡ r))
    → (is_some o ≡ true → next' ≡ next + 1) → (is_some o ≡ false → next' ≡ next) → Stands g next' (r + 1)
stands_next g next next' r None s rising m some none =
    let e : next' ≡ next = none refl in
    record {
      at_most = let f = s.at_most in omega (arith, e, f);
      below = λ i l. let b = s.below i (omega (arith, e, l)) in omega (arith, b);
      above = λ i l k. let a = m i (omega (arith, e, l)) k in omega (arith, a);
    }
stands_next g next next' r (Some p) s rising m some none =
    let e : next' ≡ next + 1 = some refl in
    let is : get_or g next 0 ≡ r = m.2 in
    let l0 : next < length g = m.1 in
    record {
      at_most = omega (arith, e, l0);
      below = λ i l. elim (cases_lt i next) [
        | inl h ↦ let b = s.below i h in omega (arith, b)
        | inr h ↦ let q : i ≡ next = omega (arith, e, l, h) in subst (λ v. get_or g v 0 < r + 1) (sym q) (omega (arith, is))
      ];
      above = λ i l k. let b = rising next i (omega (arith, e, l)) k in omega (arith, b, is);
    }

-- the place of a rank that is a member, or none
abbrev pub PlaceIs : ℕ → List ℕ → ℕ → Option ℕ → Type 0
PlaceIs k g r None = (i : ℕ) → i < length g → get_or g i 0 ≡ r → ⊥
PlaceIs k g r (Some p) = (i : ℕ) × (p ≡ k + i) × (i < length g) × (get_or g i 0 ≡ r)

pub place_is : (k : ℕ) (g : List ℕ) (r : ℕ) → PlaceIs k g r (place_from k g r)
place_is k [] r = λ i l e. absurd (omega (arith, l))
place_is k (m ∷ ms) r = here (m == r) refl (place_from (suc k) ms r) (place_is (suc k) ms r)
  where
    same : (x y : ℕ) → (x == y) ≡ true → x ≡ y
    same x y e = grind (arith, nat_tests)

    apart : (x y : ℕ) → (x == y) ≡ false → x ≡ y → ⊥
    apart x y e f = grind (arith, nat_tests)

    after : (b : Option ℕ) → (m == r) ≡ false → PlaceIs (suc k) ms r b → PlaceIs k (m ∷ ms) r b
    after None e h = λ i l is. elsewhere i l is
      where
        elsewhere : (i : ℕ) → i < length (m ∷ ms) → get_or (m ∷ ms) i 0 ≡ r → ⊥
        elsewhere zero l is = apart m r e is
        elsewhere (suc i) l is = h i (omega arith) is
    after (Some p) e h = let l = h.2 in let q = h.1 in (suc h.0, omega (arith, q), omega (arith, l), h.3)

    here : (b : Bool) → (m == r) ≡ b → (o : Option ℕ) → PlaceIs (suc k) ms r o → PlaceIs k (m ∷ ms) r (cond b (Some k) o)
    here true e o h = (0, omega arith, omega arith, same m r e)
    here false e o h = after o e h
