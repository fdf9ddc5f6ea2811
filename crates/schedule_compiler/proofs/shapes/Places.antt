-- The places of ranks among the members.
use Rattle.std.proofs.Common.{ℕ, zero, suc, Bool, true, false, cond, ◌+◌, ◌-◌, ◌≡◌, ◌≤◌, ◌<◌, ◌==◌, List, [], ◌∷◌, refl, length, get_or, ap}
use Rattle.std.proofs.Common.{◌∙◌, sym, subst, inl, inr, arith, Some, None, eqb-true, eq-eqb, le_of_suc-le-suc}
use Rattle.std.proofs.lemmas.Bool.{ne_eqb}
use Rattle.plan_core.specs.Members.{In}
use Rattle.coll_shape.specs.WellFormed.{AreMembers}
use Rattle.coll_shape.specs.Meaning.{place_from}

pub record PlaceOf (g : List ℕ) (r i : ℕ) : Type 0 where
  pub below : i < length g
  pub there : get_or g i 0 ≡ r

some_one : {a b : ℕ} → Some a ≡ Some b → a ≡ b
some_one e = cc

place-some : (g : List ℕ) (k r i : ℕ) → place_from k g r ≡ Some i → (k ≤ i) × (i - k < length g) × (get_or g (i - k) 0 ≡ r)
place-some [] k r i e = cc
place-some (m ∷ ms) k r i e = go (m == r) refl e (λ f. place-some ms (suc k) r i f)
  where
    go : (b : Bool) → (m == r) ≡ b → cond b (Some k) (place_from (suc k) ms r) ≡ Some i →
        (place_from (suc k) ms r ≡ Some i → (suc k ≤ i) × (i - suc k < length ms) × (get_or ms (i - suc k) 0 ≡ r)) → (k ≤ i) ×
        (i - k < suc (length ms)) × (get_or (m ∷ ms) (i - k) 0 ≡ r)
    go true q f later =
        let e : k ≡ i = some_one f in
        (omega arith, omega arith, ap (λ j. get_or (m ∷ ms) j 0) (let z : i - k ≡ 0 = omega arith in z) ∙ eqb-true _ _ q)
    go false q f later =
        let l = later f in (
          let a = l.0 in omega arith,
          let a = l.0 in let b = l.1 in omega arith,
          ap (λ j. get_or (m ∷ ms) j 0) (let a = l.0 in let z : i - k ≡ suc (i - suc k) = omega arith in z) ∙ l.2,
        )

pub place-of : (g : List ℕ) (r i : ℕ) → place_from 0 g r ≡ Some i → PlaceOf g r i
place-of g r i e =
    let l = place-some g 0 r i e in
    let z : i - 0 ≡ i = omega arith in
    record { below = (let b = l.1 in omega arith); there = subst (λ j. get_or g j 0 ≡ r) z l.2 }

place-is_from : (g : List ℕ) (k i : ℕ) → i < length g → ((a b : ℕ) → a < b → b < length g → get_or g a 0 < get_or g b 0) →
    place_from k g (get_or g i 0) ≡ Some (k + i)
place-is_from [] k i h rising = absurd (omega arith)
place-is_from (m ∷ ms) k zero h rising = ap (λ b. cond b (Some k) (place_from (suc k) ms m)) (eq-eqb m m refl)
    ∙ ap (λ j. Some j) (let e : k ≡ k + 0 = omega arith in e)
place-is_from (m ∷ ms) k (suc i) h rising =
    let l : m < get_or ms i 0 = rising 0 (suc i) (omega arith) h in
    ap (λ b. cond b (Some k) (place_from (suc k) ms (get_or ms i 0))) (ne_eqb m (get_or ms i 0) (λ e. absurd (omega arith)))
    ∙ place-is_from ms (suc k) i (le_of_suc-le-suc h) (λ a b x y. rising (suc a) (suc b) (omega arith) (omega arith))
    ∙ ap (λ j. Some j) (let e : suc k + i ≡ k + suc i = omega arith in e)

pub place-is : (n : ℕ) (g : List ℕ) (i : ℕ) → AreMembers n g → i < length g → place_from 0 g (get_or g i 0) ≡ Some i
place-is n g i m h = place-is_from g 0 i h m.rising ∙ ap (λ j. Some j) (let e : 0 + i ≡ i = omega arith in e)

-- a rank without a place is no member
pub no-place : (n : ℕ) (g : List ℕ) (r : ℕ) → AreMembers n g → place_from 0 g r ≡ None → (i : ℕ) → i < length g → get_or g i 0 ≡ r → ⊥
no-place n g r m e i h q = clash (sym e ∙ ap (place_from 0 g) (sym q) ∙ place-is n g i m h)
  where
    clash : {j : ℕ} → None ≡ Some j → ⊥
    clash f = cc

pub record IsMember (g : List ℕ) (r : ℕ) : Type 0 where
  pub place : ℕ
  pub is : PlaceOf g r place

pub member : (g : List ℕ) (r : ℕ) → In r g → IsMember g r
member [] r h = absurd h
member (m ∷ ms) r (inl e) = record { place = 0; is = record { below = omega arith; there = e } }
member (m ∷ ms) r (inr h) = let q = member ms r h in let b = q.is.below in
    record { place = suc q.place; is = record { below = omega arith; there = q.is.there } }
