-- How many links and bytes cells have, in a row and in rows, in closed form.
use Rattle.std.proofs.Common.{ℕ, zero, suc, Bool, true, false, cond, ◌+◌, ◌-◌, ◌*◌, ◌≡◌, ◌<◌, ◌≤◌, ◌==◌, List, ◌∷◌, ◌++◌, refl, length, map}
use Rattle.std.proofs.Common.{ap, ap₂, ◌∙◌, sym, arith, eq-eqb, eqb-true}
use Rattle.plan_core.specs.Draw.{NewCell, links_of, bytes_in}
use Rattle.plan_core.specs.Plan.{from_to}
use Rattle.plan_steps.specs.Collectives.Broadcast.{first_cell}
use Rattle.plan_steps.specs.StepContext.{StepContext, count, places, entries, full_entry, bare_entry, row, rows}
use Rattle.plan_steps.specs.Trees.{up, up_at}
use Rattle.ptl_types.specs.declared.elements.AtomicOp.{AtomicOp}
use Rattle.std.proofs.lemmas.Bool.{ne_eqb}
use Rattle.std.proofs.lemmas.List.Sums.{sum_by-cons, sum_by-append}

pub links-cons : (n : NewCell) (ns : List NewCell) → links_of (n ∷ ns) ≡ length n.into + links_of ns
links-cons n ns = sum_by-cons (λ (k : NewCell). length k.into) n ns

pub links-append : (xs ys : List NewCell) → links_of (xs ++ ys) ≡ links_of xs + links_of ys
links-append xs ys = sum_by-append (λ (k : NewCell). length k.into) xs ys

pub bytes-cons : (n : NewCell) (ns : List NewCell) → bytes_in (n ∷ ns) ≡ n.length + bytes_in ns
bytes-cons n ns = sum_by-cons (λ (k : NewCell). k.length) n ns

pub bytes-append : (xs ys : List NewCell) → bytes_in (xs ++ ys) ≡ bytes_in xs + bytes_in ys
bytes-append xs ys = sum_by-append (λ (k : NewCell). k.length) xs ys

-- ---- cells of one size, in a row and in rows
pub links-row : (f : ℕ → NewCell) (k n m : ℕ) → ((i : ℕ) → length (f i).into ≡ m) → links_of (map f (from_to k n)) ≡ n * m
links-row f k zero m h = let e : 0 ≡ 0 * m = omega arith in e
links-row f k (suc n) m h =
    links-cons (f k) (map f (from_to (suc k) n)) ∙ ap₂ (λ a b. a + b) (h k) (links-row f (suc k) n m h)
    ∙ (let e : m + n * m ≡ suc n * m = omega arith in e)

pub bytes-row : (f : ℕ → NewCell) (k n m : ℕ) → ((i : ℕ) → (f i).length ≡ m) → bytes_in (map f (from_to k n)) ≡ n * m
bytes-row f k zero m h = let e : 0 ≡ 0 * m = omega arith in e
bytes-row f k (suc n) m h =
    bytes-cons (f k) (map f (from_to (suc k) n)) ∙ ap₂ (λ a b. a + b) (h k) (bytes-row f (suc k) n m h)
    ∙ (let e : m + n * m ≡ suc n * m = omega arith in e)

pub links-rows : (s : StepContext) (f : ℕ → ℕ → NewCell) (a n m : ℕ) → ((k i : ℕ) → length (f k i).into ≡ m)
    → links_of (rows s f a n) ≡ n * (count s * m)
links-rows s f a zero m h = let e : 0 ≡ 0 * (count s * m) = omega arith in e
links-rows s f a (suc n) m h =
    links-append (row s f a) (rows s f (suc a) n)
    ∙ ap₂ (λ x y. x + y) (links-row (f a) 0 (count s) m (h a)) (links-rows s f (suc a) n m h)
    ∙ (let e : count s * m + n * (count s * m) ≡ suc n * (count s * m) = omega arith in e)

pub bytes-rows : (s : StepContext) (f : ℕ → ℕ → NewCell) (a n m : ℕ) → ((k i : ℕ) → (f k i).length ≡ m) →
    bytes_in (rows s f a n) ≡ n * (count s * m)
bytes-rows s f a zero m h = let e : 0 ≡ 0 * (count s * m) = omega arith in e
bytes-rows s f a (suc n) m h =
    bytes-append (row s f a) (rows s f (suc a) n)
    ∙ ap₂ (λ x y. x + y) (bytes-row (f a) 0 (count s) m (h a)) (bytes-rows s f (suc a) n m h)
    ∙ (let e : count s * m + n * (count s * m) ≡ suc n * (count s * m) = omega arith in e)

-- ---- one cell of another size
pub links-one : (f : ℕ → NewCell) (k n root a b : ℕ) → k ≤ root → root < k + n → length (f root).into ≡ a →
    ((i : ℕ) → (i ≡ root → ⊥) → length (f i).into ≡ b)
    → links_of (map f (from_to k n)) + b ≡ a + n * b
links-one f k zero root a b h l x y = absurd (omega arith)
links-one f k (suc n) root a b h l x y = at (k == root) refl
    (λ g. links-one f (suc k) n root a b g (let z : root < suc k + n = omega arith in z) x y)
  where
    later : (j m : ℕ) → root < j → links_of (map f (from_to j m)) ≡ m * b
    later j zero g = let e : 0 ≡ 0 * b = omega arith in e
    later j (suc m) g =
        links-cons (f j) (map f (from_to (suc j) m)) ∙ ap₂ (λ u v. u + v) (y j (λ z. absurd (omega arith)))
        (later (suc j) m (omega arith)) ∙ (let e : b + m * b ≡ suc m * b = omega arith in e)

    at : (t : Bool) → (k == root) ≡ t → (suc k ≤ root → links_of (map f (from_to (suc k) n)) + b ≡ a + n * b) →
        links_of (map f (from_to k (suc n))) + b ≡ a + suc n * b
    at true e rest =
        let z : k ≡ root = eqb-true _ _ e in
        let c = links-cons (f k) (map f (from_to (suc k) n)) in
        let d = ap (λ v. length (f v).into) z ∙ x in
        let g = later (suc k) n (omega arith) in
        let q : suc n * b ≡ b + n * b = omega arith in
        omega (arith, c, d, g, q)
    at false e rest =
        let z : k ≡ root → ⊥ = λ w. eqb-not k root w e in
        let c = links-cons (f k) (map f (from_to (suc k) n)) in
        let d = y k z in
        let g = rest (below k root h z) in
        let q : suc n * b ≡ b + n * b = omega arith in
        omega (arith, c, d, g, q)
      where
        eqb-not : (i j : ℕ) → i ≡ j → (i == j) ≡ false → ⊥
        eqb-not i j w e = let t = eq-eqb i j w in true_false (sym t ∙ e)
          where
            true_false : true ≡ false → ⊥
            true_false v = cc

        below : (i j : ℕ) → i ≤ j → (i ≡ j → ⊥) → suc i ≤ j
        below i j l n = omega (arith, n)

-- a row whose first cell has one link and whose others have two
pub first-shorter : (f : ℕ → NewCell) (m : ℕ) → 0 < m → length (f 0).into ≡ 1 → ((i : ℕ) → length (f (suc i)).into ≡ 2)
    → links_of (map f (from_to 0 m)) ≡ 1 + 2 * (m - 1)
first-shorter f m pos x y =
    let c = links-one f 0 m 0 1 2 (let z : 0 ≤ 0 = omega arith in z) (let z : 0 < 0 + m = omega arith in z) x (λ i n. other i n) in
    let r : m * 2 ≡ m + m = omega arith in
    omega (arith, c, r)
  where
    other : (i : ℕ) → (i ≡ 0 → ⊥) → length (f i).into ≡ 2
    other zero n = absurd (n refl)
    other (suc i) n = y i

-- ---- entries and ways up a tree
pub entry-links : (s : StepContext) → links_of (entries s) ≡ 2 * count s
entry-links s = links-row (full_entry s) 0 (count s) 2 (λ i. refl) ∙ (let z : count s * 2 ≡ 2 * count s = omega arith in z)

pub entry-bytes : (s : StepContext) → bytes_in (entries s) ≡ count s * s.length
entry-bytes s = bytes-row (full_entry s) 0 (count s) s.length (λ i. refl)

pub up-bytes : (s : StepContext) (root : ℕ) (o : AtomicOp) → bytes_in (up s root o) ≡ count s * s.length
up-bytes s root o = bytes-row (up_at s root o) 0 (count s) s.length (λ i. refl)

rest-none : (f : ℕ → NewCell) (root j m : ℕ) → root < j → ((i : ℕ) → (i ≡ root → ⊥) → (f i).length ≡ 0) → bytes_in (map f (from_to j m)) ≡ 0
rest-none f root j zero g y = refl
rest-none f root j (suc m) g y = bytes-cons (f j) (map f (from_to (suc j) m)) ∙ ap₂ (λ u v. u + v) (y j (λ z. absurd (omega arith)))
    (rest-none f root (suc j) m (omega arith) y)

-- one cell of a row has data
bytes-one : (f : ℕ → NewCell) (k n root a : ℕ) → k ≤ root → root < k + n → (f root).length ≡ a →
    ((i : ℕ) → (i ≡ root → ⊥) → (f i).length ≡ 0) → bytes_in (map f (from_to k n)) ≡ a
bytes-one f k zero root a h l x y = absurd (omega arith)
bytes-one f k (suc n) root a h l x y = at (k == root) refl (λ g. bytes-one f (suc k) n root a g (let z : root < suc k + n = omega arith in
    z) x y)
  where
    differ : k ≡ root → (k == root) ≡ false → ⊥
    differ w e = let t = eq-eqb k root w in clash (sym t ∙ e)
      where
        clash : true ≡ false → ⊥
        clash v = cc

    below : (k ≡ root → ⊥) → suc k ≤ root
    below w = omega (arith, w, h)

    at : (t : Bool) → (k == root) ≡ t → (suc k ≤ root → bytes_in (map f (from_to (suc k) n)) ≡ a) → bytes_in (map f (from_to k (suc n))) ≡ a
    at true e rest =
        let z : k ≡ root = eqb-true _ _ e in
        let c = bytes-cons (f k) (map f (from_to (suc k) n)) in
        let d = ap (λ v. (f v).length) z ∙ x in
        let g = rest-none f root (suc k) n (omega (arith, z)) y in
        omega (arith, c, d, g)
    at false e rest =
        let z : k ≡ root → ⊥ = λ w. differ w e in
        let c = bytes-cons (f k) (map f (from_to (suc k) n)) in
        let d = y k z in
        let g = rest (below z) in
        omega (arith, c, d, g)

pub first-bytes : (s : StepContext) (root : ℕ) → root < count s → bytes_in (map (first_cell s root) (places s)) ≡ s.length
first-bytes s root h =
    bytes-one (first_cell s root) 0 (count s) root s.length (let z : 0 ≤ root = omega arith in z) (let z : root < 0 + count s =
    omega arith in z)
    (ap (λ t. (cond t (full_entry s root) (bare_entry s root)).length) (eq-eqb root root refl))
    (λ i n. ap (λ t. (cond t (full_entry s i) (bare_entry s i)).length) (ne_eqb _ _ n))
