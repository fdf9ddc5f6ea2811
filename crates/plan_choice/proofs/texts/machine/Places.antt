-- A function that was changed at one place, and a count in which one more passes.
use Rattle.std.proofs.Common.{ℕ, suc, Bool, true, false, cond, ◌&&◌, ◌+◌, ◌≡◌, ◌≤◌, ◌==◌, List, [], ◌∷◌, refl, length, ap, ap₂, ◌∙◌, sym}
use Rattle.std.proofs.Common.{subst, inl, inr, arith, eq-eqb, count_by}
use Rattle.std.proofs.lemmas.Bool.{ne_eqb}
use Rattle.plan_core.specs.Members.{Distinct, In}
use Rattle.plan_core.proofs.Lists.{count-cons}
use Rattle.plan_choice.specs.texts.machine.Machine.{put, put_in}

pub put-same : {X : Type 0} (n : ℕ) (x : X) (f : ℕ → X) → put n x f n ≡ x
put-same n x f = ap (λ b. cond b x (f n)) (eq-eqb n n refl)

pub put-other : {X : Type 0} (n : ℕ) (x : X) (f : ℕ → X) (k : ℕ) → (k ≡ n → ⊥) → put n x f k ≡ f k
put-other n x f k h = ap (λ b. cond b x (f k)) (ne_eqb k n h)

pub put_in-same : {X : Type 0} (r s : ℕ) (x : X) (f : ℕ → ℕ → X) → put_in r s x f r s ≡ x
put_in-same r s x f = ap₂ (λ a b. cond (a && b) x (f r s)) (eq-eqb r r refl) (eq-eqb s s refl)

pub put_in-rank : {X : Type 0} (r s : ℕ) (x : X) (f : ℕ → ℕ → X) (q t : ℕ) → (q ≡ r → ⊥) → put_in r s x f q t ≡ f q t
put_in-rank r s x f q t h = ap (λ a. cond (a && (t == s)) x (f q t)) (ne_eqb q r h)

-- the rank's own steps, and one step's ranks
pub put_in-row : {X : Type 0} (r s : ℕ) (x : X) (f : ℕ → ℕ → X) (t : ℕ) → put_in r s x f r t ≡ put s x (f r) t
put_in-row r s x f t = ap (λ a. cond (a && (t == s)) x (f r t)) (eq-eqb r r refl)

pub put_in-column : {X : Type 0} (r s : ℕ) (x : X) (f : ℕ → ℕ → X) (q : ℕ) → put_in r s x f q s ≡ put r x (λ k. f k s) q
put_in-column r s x f q = ap (λ b. cond b x (f q s)) (either (q == r) (s == s) (eq-eqb s s refl))
  where
    either : (a b : Bool) → b ≡ true → (a && b) ≡ a
    either true b e = e
    either false b e = refl

pub put_in-step : {X : Type 0} (r s : ℕ) (x : X) (f : ℕ → ℕ → X) (q t : ℕ) → (t ≡ s → ⊥) → put_in r s x f q t ≡ f q t
put_in-step r s x f q t h = ap (λ b. cond b x (f q t)) (either (q == r) (t == s) (ne_eqb t s h))
  where
    either : (a b : Bool) → b ≡ false → (a && b) ≡ false
    either true b e = e
    either false b e = refl

-- ---- counts
abbrev one : Bool → ℕ
one b = cond b 1 0

count_same_on : (p q : ℕ → Bool) (r : ℕ) (xs : List ℕ) → (In r xs → ⊥) → ((x : ℕ) → (x ≡ r → ⊥) → q x ≡ p x) → count_by q xs ≡ count_by p xs
count_same_on p q r [] out same = refl
count_same_on p q r (x ∷ xs) out same =
    let a = count-cons q x xs in
    let b = count-cons p x xs in
    let rest = count_same_on p q r xs (λ i. out (inr i)) same in
    let c : one (q x) ≡ one (p x) = ap one (same x (λ i. out (inl i))) in
    omega (arith, a, b, c, rest)

pub count_as : (p q : ℕ → Bool) (xs : List ℕ) → ((x : ℕ) → In x xs → q x ≡ p x) → count_by q xs ≡ count_by p xs
count_as p q [] same = refl
count_as p q (x ∷ xs) same =
    let a = count-cons q x xs in
    let b = count-cons p x xs in
    let rest = count_as p q xs (λ y i. same y (inr i)) in
    let c : one (q x) ≡ one (p x) = ap one (same x (inl refl)) in
    omega (arith, a, b, c, rest)

pub count_all : (p : ℕ → Bool) (xs : List ℕ) → ((x : ℕ) → In x xs → p x ≡ true) → count_by p xs ≡ length xs
count_all p [] h = refl
count_all p (x ∷ xs) h =
    let a = count-cons p x xs in
    let rest = count_all p xs (λ y i. h y (inr i)) in
    let c : one (p x) ≡ 1 = ap one (h x (inl refl)) in
    omega (arith, a, c, rest)

pub count_none : (p : ℕ → Bool) (xs : List ℕ) → ((x : ℕ) → In x xs → p x ≡ false) → count_by p xs ≡ 0
count_none p [] h = refl
count_none p (x ∷ xs) h =
    let a = count-cons p x xs in
    let rest = count_none p xs (λ y i. h y (inr i)) in
    let c : one (p x) ≡ 0 = ap one (h x (inl refl)) in
    omega (arith, a, c, rest)

pub count-le : (p : ℕ → Bool) (xs : List ℕ) → count_by p xs ≤ length xs
count-le p [] = omega arith
count-le p (x ∷ xs) = at (p x) (count-cons p x xs) (count-le p xs)
  where
    at : (b : Bool) → count_by p (x ∷ xs) ≡ one b + count_by p xs → count_by p xs ≤ length xs → count_by p (x ∷ xs) ≤ suc (length xs)
    at true e rest = omega (arith, e, rest)
    at false e rest = omega (arith, e, rest)

pub count_put : (p q : ℕ → Bool) (r : ℕ) (xs : List ℕ) → Distinct xs → In r xs → p r ≡ false → q r ≡ true
    → ((x : ℕ) → (x ≡ r → ⊥) → q x ≡ p x) → count_by q xs ≡ suc (count_by p xs)
count_put p q r [] d h e f same = absurd h
count_put p q r (x ∷ xs) d (inl h) e f same =
    let a = count-cons q x xs in
    let b = count-cons p x xs in
    let rest = count_same_on p q r xs (λ i. d.0 (subst (λ v. In v xs) (sym h) i)) same in
    let c : one (q x) ≡ 1 = ap one (ap q h ∙ f) in
    let k : one (p x) ≡ 0 = ap one (ap p h ∙ e) in
    omega (arith, a, b, c, k, rest)
count_put p q r (x ∷ xs) d (inr h) e f same =
    let a = count-cons q x xs in
    let b = count-cons p x xs in
    let rest = count_put p q r xs d.1 h e f same in
    let c : one (q x) ≡ one (p x) = ap one (same x (λ i. d.0 (subst (λ v. In v xs) (sym i) h))) in
    omega (arith, a, b, c, rest)
