-- Tables that one pass makes: a thing more changes the place of its key alone.
use Rattle.std.proofs.Common.{ℕ, zero, suc, Bool, true, false, cond, ◌+◌, ◌≡◌, ◌<◌, ◌≤◌, ◌==◌, List, [], ◌∷◌, ◌++◌, refl, length, map, set}
use Rattle.std.proofs.Common.{get_or, filter, ap, ap₂, ◌∙◌, sym, arith, append-nil, le_of_suc-le-suc, eq-eqb}
use Rattle.std.proofs.lemmas.List.Elements.{filter-append}
use Rattle.std.proofs.lemmas.Bool.{ne_eqb}
use Rattle.plan_core.specs.Plan.{from_to}
use Rattle.plan_core.proofs.Drawing.{from_to-more, length-row, row-same}
use Rattle.plan_tables.specs.Rising.{of_key}
use Rattle.plan_tables.proofs.Indexed.{at_most-filtered}

set-from : {X : Type 0} (f g : ℕ → X) (k n r : ℕ) (x : X) → r < n → ((q : ℕ) → q < n → (q ≡ r → ⊥) → f (k + q) ≡ g (k + q)) → x ≡ g (k + r)
    → set (map f (from_to k n)) r x ≡ map g (from_to k n)
set-from f g k zero r x h o e = absurd (omega arith)
set-from f g k (suc n) zero x h o e = ap₂ (λ a b. a ∷ b) (e ∙ ap g (let z : k + 0 ≡ k = omega arith in z))
    (rest n k (λ q i. o (suc q) (omega arith) (λ z. absurd (omega arith))))
  where
    rest : (n k : ℕ) → ((q : ℕ) → q < n → f (k + suc q) ≡ g (k + suc q)) → map f (from_to (suc k) n) ≡ map g (from_to (suc k) n)
    rest zero k o = refl
    rest (suc n) k o =
        ap₂ (λ a b. a ∷ b)
        (let z : suc k ≡ k + suc zero = omega arith in ap f z ∙ o zero (omega arith) ∙ ap g (sym z))
        (rest n (suc k) (λ q i. let z : suc k + suc q ≡ k + suc (suc q) = omega arith in ap f z ∙ o (suc q) (omega arith) ∙ ap g (sym z)))
set-from f g k (suc n) (suc r) x h o e =
    ap₂ (λ a b. a ∷ b)
    (let z : k ≡ k + zero = omega arith in ap f z ∙ o zero (omega arith) (λ w. absurd (omega arith)) ∙ ap g (sym z))
    (set-from f g (suc k) n r x (le_of_suc-le-suc h)
    (λ q i w. let z : suc k + q ≡ k + suc q = omega arith in ap f z ∙ o (suc q) (omega arith) (λ v. w (omega arith)) ∙ ap g (sym z))
    (e ∙ ap g (let z : k + suc r ≡ suc k + r = omega arith in z)))

-- a row in which one thing changes
pub set-row : {X : Type 0} (f g : ℕ → X) (n r : ℕ) (x : X) → r < n → ((q : ℕ) → q < n → (q ≡ r → ⊥) → f q ≡ g q) → x ≡ g r →
    set (map f (from_to 0 n)) r x ≡ map g (from_to 0 n)
set-row f g n r x h o e =
    set-from f g 0 n r x h
    (λ q i w. let z : 0 + q ≡ q = omega arith in ap f z ∙ o q i w ∙ ap g (sym z))
    (e ∙ ap g (let z : r ≡ 0 + r = omega arith in z))

get-from : {X : Type 0} (f : ℕ → X) (k n r : ℕ) (d : X) → r < n → get_or (map f (from_to k n)) r d ≡ f (k + r)
get-from f k zero r d h = absurd (omega arith)
get-from f k (suc n) zero d h = ap f (let z : k ≡ k + 0 = omega arith in z)
get-from f k (suc n) (suc r) d h = get-from f (suc k) n r d (le_of_suc-le-suc h) ∙ ap f (let z : suc k + r ≡ k + suc r = omega arith in z)

pub get-row : {X : Type 0} (f : ℕ → X) (n r : ℕ) (d : X) → r < n → get_or (map f (from_to 0 n)) r d ≡ f r
get-row f n r d h = get-from f 0 n r d h ∙ ap f (let z : 0 + r ≡ r = omega arith in z)

filter-one : (t : ℕ → Bool) (k : ℕ) → filter t (k ∷ []) ≡ cond (t k) (k ∷ []) []
filter-one t k = refl

pub upto-more : (t : ℕ → Bool) (k : ℕ) → filter t (from_to 0 (k + 1)) ≡ filter t (from_to 0 k) ++ cond (t k) (k ∷ []) []
upto-more t k =
    ap (λ v. filter t (from_to 0 v)) (let z : k + 1 ≡ suc k = omega arith in z)
    ∙ ap (filter t) (from_to-more 0 k)
    ∙ filter-append t (from_to 0 k) ((0 + k) ∷ [])
    ∙ ap (λ v. filter t (from_to 0 k) ++ cond (t v) (v ∷ []) []) (let z : 0 + k ≡ k = omega arith in z)

pub upto-in : (t : ℕ → Bool) (k : ℕ) → t k ≡ true → filter t (from_to 0 (k + 1)) ≡ filter t (from_to 0 k) ++ k ∷ []
upto-in t k h = upto-more t k ∙ ap (λ b. filter t (from_to 0 k) ++ cond b (k ∷ []) []) h

pub upto-out : (t : ℕ → Bool) (k : ℕ) → t k ≡ false → filter t (from_to 0 (k + 1)) ≡ filter t (from_to 0 k)
upto-out t k h = upto-more t k ∙ ap (λ b. filter t (from_to 0 k) ++ cond b (k ∷ []) []) h ∙ append-nil (filter t (from_to 0 k))

-- ---- the things of each key, as a row of lists: one thing more
pub keyed-more : {X : Type 0} (key : ℕ → ℕ) (g : List ℕ → X) (k n : ℕ) (x : X) → key k < n → x ≡ g (of_key key k (key k) ++ k ∷ [])
    → set (map (λ i. g (of_key key k i)) (from_to 0 n)) (key k) x ≡ map (λ i. g (of_key key (k + 1) i)) (from_to 0 n)
keyed-more key g k n x h e =
    set-row (λ i. g (of_key key k i)) (λ i. g (of_key key (k + 1) i)) n (key k) x h
    (λ q i w. ap g (sym (upto-out (λ j. key j == q) k (ne_eqb _ _ (λ z. w (sym z))))))
    (e ∙ ap g (sym (upto-in (λ j. key j == key k) k (eq-eqb _ _ refl))))

pub listed-more : (key : ℕ → ℕ) (k n : ℕ) (own : List (List ℕ)) → key k < n → own ≡ map (of_key key k) (from_to 0 n) →
    set own (key k) (get_or own (key k) [] ++ k ∷ []) ≡ map (of_key key (k + 1)) (from_to 0 n)
listed-more key k n own h e =
    ap (λ v. set v (key k) (get_or v (key k) [] ++ k ∷ [])) e
    ∙ keyed-more key (λ v. v) k n (get_or (map (of_key key k) (from_to 0 n)) (key k) [] ++ k ∷ []) h
    (ap (λ v. v ++ k ∷ []) (get-row (of_key key k) n (key k) [] h))

pub length-table : {X : Type 0} (f : ℕ → X) (n : ℕ) (own : List X) → own ≡ map f (from_to 0 n) → length own ≡ n
length-table f n own e = ap length e ∙ length-row f 0 n

-- within a list the default is of no account
pub get_or-any : {X : Type 0} (xs : List X) (i : ℕ) (d e : X) → i < length xs → get_or xs i d ≡ get_or xs i e
get_or-any [] i d e h = absurd (omega arith)
get_or-any (x ∷ xs) zero d e h = refl
get_or-any (x ∷ xs) (suc i) d e h = get_or-any xs i d e (le_of_suc-le-suc h)

pub keyed-out : {X : Type 0} (key : ℕ → ℕ) (g : List ℕ → X) (k n : ℕ) → n ≤ key k → map (λ i. g (of_key key k i)) (from_to 0 n) ≡ map
    (λ i. g (of_key key (k + 1) i)) (from_to 0 n)
keyed-out key g k n h = row-same (λ i. g (of_key key k i)) (λ i. g (of_key key (k + 1) i)) 0 n
    (λ i l. ap g (sym (upto-out (λ j. key j == i) k (ne_eqb _ _ (λ z. absurd (omega arith))))))

pub at_most-of_key : (key : ℕ → ℕ) (k i : ℕ) → length (of_key key k i) ≤ k
at_most-of_key key k i = at_most-filtered (λ j. key j == i) k
