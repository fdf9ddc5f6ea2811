-- Which members hold what a step makes.
use Rattle.std.proofs.Common.{◌≡◌, ℕ, zero, suc, ◌<◌, Bool, true, false, cond, List, [], ◌∷◌, length, get_or, refl, ap, sym, ◌∙◌, arith}
use Rattle.std.proofs.Common.{inl, inr}
use Rattle.std.specs.Prelude.{◌==◌, ◌||◌}
use Rattle.std.proofs.lemmas.Bool.{cases_order}
use Rattle.coll_shape.specs.Collectives.{is_in, alone, all_but_first, only_at}
use Rattle.coll_meaning.proofs.PlaceAt.{agrees, differs}

abbrev pub Rises : List ℕ → Type 0
Rises g = (i j : ℕ) → i < j → j < length g → get_or g i 0 < get_or g j 0

pub or_second : (b c : Bool) → c ≡ true → (b || c) ≡ true
or_second true c e = refl
or_second false c e = e

or_none : (b : Bool) → (b || false) ≡ b
or_none true = refl
or_none false = refl

pub member_in : (g : List ℕ) (i : ℕ) → i < length g → is_in (get_or g i 0) g ≡ true
member_in [] i l = absurd (omega arith)
member_in (r ∷ rs) zero l = ap (λ b. b || is_in r rs) (agrees r r refl)
member_in (r ∷ rs) (suc i) l = or_second (r == get_or rs i 0) (is_in (get_or rs i 0) rs) (member_in rs i (omega arith))

pub not_in : (x : ℕ) (g : List ℕ) → ((i : ℕ) → i < length g → get_or g i 0 ≡ x → ⊥) → is_in x g ≡ false
not_in x [] h = refl
not_in x (y ∷ ys) h = ap (λ b. b || is_in x ys) (differs y x (h 0 (omega arith))) ∙ not_in x ys (λ i l. h (suc i) (omega arith))

-- the root alone
pub alone_at : (g : List ℕ) (root i : ℕ) → Rises g → root < length g → i < length g → is_in (get_or g i 0) (alone root g) ≡ (i == root)
alone_at g root i rising l k =
    or_none (get_or g root 0 == get_or g i 0)
    ∙ elim (cases_order i root) [
      | inl e ↦ agrees (get_or g root 0) (get_or g i 0) (ap (λ v. get_or g v 0) (sym e)) ∙ sym (agrees i root e)
      | inr o ↦ elim o [
        | inl s ↦ let b = rising i root s l in differs (get_or g root 0) (get_or g i 0) (λ e. omega (arith, b, e))
            ∙ sym (differs i root (λ e. omega (arith, s, e)))
        | inr s ↦ let b = rising root i s k in differs (get_or g root 0) (get_or g i 0) (λ e. omega (arith, b, e))
            ∙ sym (differs i root (λ e. omega (arith, s, e)))
      ]
    ]

pub alone_long : (g : List ℕ) (root i long : ℕ) (list : List ℕ) → Rises g → root < length g → i < length g → length list ≡ long →
    length (only_at root i list) ≡ cond (is_in (get_or g i 0) (alone root g)) long 0
alone_long g root i long list rising l k h = of (i == root) ∙ ap (λ b. cond b long 0) (sym (alone_at g root i rising l k))
  where
    of : (b : Bool) → length (cond b list []) ≡ cond b long 0
    of true = h
    of false = refl

pub alone_outside : (g : List ℕ) (root r : ℕ) → root < length g → ((i : ℕ) → i < length g → get_or g i 0 ≡ r → ⊥) →
    is_in r (alone root g) ≡ false
alone_outside g root r l h = ap (λ b. b || false) (differs (get_or g root 0) r (h root l))

-- all but the first
pub first_out : (g : List ℕ) → Rises g → is_in (get_or g 0 0) (all_but_first g) ≡ false
first_out [] rising = refl
first_out (r ∷ rs) rising = not_in r rs (λ i l e. let b = rising 0 (suc i) (omega arith) (omega arith) in omega (arith, b, e))

pub others_in : (g : List ℕ) (i : ℕ) → suc i < length g → is_in (get_or g (suc i) 0) (all_but_first g) ≡ true
others_in [] i l = absurd (omega arith)
others_in (r ∷ rs) i l = member_in rs i (omega arith)

pub others_outside : (g : List ℕ) (r : ℕ) → ((i : ℕ) → i < length g → get_or g i 0 ≡ r → ⊥) → is_in r (all_but_first g) ≡ false
others_outside [] r h = refl
others_outside (x ∷ xs) r h = not_in r xs (λ i l. h (suc i) (omega arith))
