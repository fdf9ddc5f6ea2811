-- Sums and counts by key, and where a cell begins in its rank's memory.
use Rattle.std.proofs.Common.{ℕ, zero, suc, Bool, true, false, cond, ◌+◌, ◌-◌, ◌≡◌, ◌<◌, ◌≤◌, ◌==◌, List, [], ◌∷◌, ◌++◌, refl, length, map}
use Rattle.std.proofs.Common.{set, get_or, filter, replicate, sum_by, ap, ap₂, ◌∙◌, sym, arith, inl, inr, eq-eqb, length-append, nat_lt}
use Rattle.std.proofs.lemmas.List.Elements.{filter-append}
use Rattle.std.proofs.lemmas.List.Sums.{sum_by-cons, sum_by-append}
use Rattle.std.proofs.lemmas.Bool.{ne_eqb, ltb-true, ltb-false}
use Rattle.plan_core.specs.declared.Cell.{Cell}
use Rattle.plan_core.specs.Members.{In}
use Rattle.plan_core.specs.Plan.{Plan, from_to, no_cell}
use Rattle.plan_core.specs.Places.{start_by, cell_length}
use Rattle.plan_core.proofs.Growth.{from_to-append}
use Rattle.plan_core.proofs.Links.{from_to-In}
use Rattle.plan_core.proofs.Lists.{In-filter_cases}
use Rattle.plan_core.proofs.Drawing.{length-row}
use Rattle.plan_tables.specs.Rising.{of_key}
use Rattle.plan_core.specs.calls.Calls.{cell_start}
use Rattle.plan_tables.specs.Tables.{rank_of}
use Rattle.plan_tables.proofs.Passes.{at_most-of_key, get-row, keyed-more, keyed-out, upto-in}

pub row-replicate : {X : Type 0} (x : X) (k n : ℕ) → replicate n x ≡ map (λ i. x) (from_to k n)
row-replicate x k zero = refl
row-replicate x k (suc n) = ap (λ v. x ∷ v) (row-replicate x (suc k) n)

-- ---- counts
abbrev counts : (ℕ → ℕ) → ℕ → ℕ → List ℕ
counts key k n = map (λ i. length (of_key key k i)) (from_to 0 n)

count-more : (key : ℕ → ℕ) (k i : ℕ) → length (of_key key k i ++ k ∷ []) ≡ length (of_key key k i) + 1
count-more key k i = length-append (of_key key k i) (k ∷ [])

pub counted-more : (key : ℕ → ℕ) (k n : ℕ) (xs : List ℕ) → xs ≡ counts key k n
    → cond (nat_lt (key k) (length xs)) (set xs (key k) (get_or xs (key k) 0 + 1)) xs ≡ counts key (k + 1) n
counted-more key k n xs e = at (nat_lt (key k) (length xs)) refl
  where
    long : length xs ≡ n
    long = ap length e ∙ length-row (λ i. length (of_key key k i)) 0 n

    at : (b : Bool) → nat_lt (key k) (length xs) ≡ b → cond b (set xs (key k) (get_or xs (key k) 0 + 1)) xs ≡ counts key (k + 1) n
    at true t =
        let l = ltb-true _ _ t in
        let h : key k < n = omega (arith, l, long) in
        ap (λ v. set v (key k) (get_or v (key k) 0 + 1)) e
        ∙ keyed-more key length k n (get_or (counts key k n) (key k) 0 + 1) h
        (ap (λ v. v + 1) (get-row (λ i. length (of_key key k i)) n (key k) 0 h) ∙ sym (count-more key k (key k)))
    at false t =
        let l = ltb-false _ _ t in
        let h : n ≤ key k = omega (arith, l, long) in
        e ∙ keyed-out key length k n h

past : {X : Type 0} (xs : List X) (i : ℕ) (d : X) → length xs ≤ i → get_or xs i d ≡ d
past [] i d h = refl
past (x ∷ xs) zero d h = absurd (omega arith)
past (x ∷ xs) (suc i) d h = past xs i d (omega arith)

pub counted-at_most : (key : ℕ → ℕ) (k n i : ℕ) (xs : List ℕ) → xs ≡ counts key k n → get_or xs i 0 ≤ k
counted-at_most key k n i xs e = at (nat_lt i n) refl
  where
    at : (b : Bool) → nat_lt i n ≡ b → get_or xs i 0 ≤ k
    at true t =
        let h : i < n = ltb-true _ _ t in
        let g = ap (λ v. get_or v i 0) e ∙ get-row (λ i. length (of_key key k i)) n i 0 h in
        let f = at_most-of_key key k i in
        omega (arith, g, f)
    at false t =
        let h : n ≤ i = ltb-false _ _ t in
        let long = ap length e ∙ length-row (λ i. length (of_key key k i)) 0 n in
        let g = past xs i 0 (omega (arith, h, long)) in
        omega (arith, g)

-- ---- where a cell begins
start_by-behind : (len : ℕ → ℕ) (xs : List ℕ) (c : ℕ) (ys : List ℕ) → ((x : ℕ) → In x xs → x ≡ c → ⊥) →
    start_by len (xs ++ c ∷ ys) c ≡ sum_by len xs
start_by-behind len [] c ys h = ap (λ b. cond b 0 (len c + start_by len ys c)) (eq-eqb c c refl)
start_by-behind len (x ∷ xs) c ys h =
    ap (λ b. cond b 0 (len x + start_by len (xs ++ c ∷ ys) c)) (ne_eqb _ _ (h x (inl refl)))
    ∙ ap (λ v. len x + v) (start_by-behind len xs c ys (λ y i. h y (inr i)))
    ∙ sym (sum_by-cons len x xs)

filter-here : (t : ℕ → Bool) (k : ℕ) (ks : List ℕ) → t k ≡ true → filter t (k ∷ ks) ≡ k ∷ filter t ks
filter-here t k ks h = ap (λ b. cond b (k ∷ filter t ks) (filter t ks)) h

pub start-own : (p : Plan) (c : ℕ) → c < length p.cells → cell_start p c ≡ sum_by (cell_length p) (of_key (rank_of p) c (rank_of p c))
start-own p c h =
    let t : ℕ → Bool = λ k. rank_of p k == rank_of p c in
    let m = length p.cells - suc c in
    ap (λ v. start_by (cell_length p) v c)
    (ap (λ n. filter t (from_to 0 n)) (let e : length p.cells ≡ c + suc m = omega arith in e)
    ∙ ap (filter t) (from_to-append 0 c (suc m))
    ∙ filter-append t (from_to 0 c) (from_to (0 + c) (suc m))
    ∙ ap (λ k. filter t (from_to 0 c) ++ filter t (k ∷ from_to (suc k) m)) (let e : 0 + c ≡ c = omega arith in e)
    ∙ ap (λ v. filter t (from_to 0 c) ++ v) (filter-here t c (from_to (suc c) m) (eq-eqb _ _ refl)))
    ∙ start_by-behind (cell_length p) (filter t (from_to 0 c)) c (filter t (from_to (suc c) m))
    (λ x i e. let r = from_to-In 0 c x (In-filter_cases t x (from_to 0 c) i).0 in absurd (omega (arith, r, e)))

-- ---- bytes by rank
pub sum-filter_le : (t : ℕ → Bool) (f : ℕ → ℕ) (xs : List ℕ) → sum_by f (filter t xs) ≤ sum_by f xs
sum-filter_le t f [] = omega arith
sum-filter_le t f (x ∷ xs) = at (t x) (sum-filter_le t f xs)
  where
    at : (b : Bool) → sum_by f (filter t xs) ≤ sum_by f xs → sum_by f (cond b (x ∷ filter t xs) (filter t xs)) ≤ sum_by f (x ∷ xs)
    at true h = let a = sum_by-cons f x xs in let b = sum_by-cons f x (filter t xs) in omega (arith, a, b, h)
    at false h = let a = sum_by-cons f x xs in omega (arith, a, h)

pub sum-prefix : (f : ℕ → ℕ) (k n : ℕ) → k ≤ n → sum_by f (from_to 0 k) ≤ sum_by f (from_to 0 n)
sum-prefix f k n h =
    let e = ap (λ v. sum_by f (from_to 0 v)) (let z : n ≡ k + (n - k) = omega arith in z) ∙ ap (sum_by f) (from_to-append 0 k (n - k))
    ∙ sum_by-append f (from_to 0 k) (from_to (0 + k) (n - k)) in
    omega (arith, e)

pub numbered : (xs ys : List Cell) (k : ℕ) → ((i : ℕ) → get_or ys (k + i) no_cell ≡ get_or xs i no_cell) →
    sum_by (λ c. (get_or ys c no_cell).length) (from_to k (length xs)) ≡ sum_by (λ (c : Cell). c.length) xs
numbered [] ys k h = refl
numbered (x ∷ xs) ys k h =
    sum_by-cons (λ c. (get_or ys c no_cell).length) k (from_to (suc k) (length xs))
    ∙ ap₂ (λ a b. a + b) (ap (λ (c : Cell). c.length) (ap (λ v. get_or ys v no_cell) (let e : k ≡ k + 0 = omega arith in e) ∙ h 0))
    (numbered xs ys (suc k) (λ i. ap (λ v. get_or ys v no_cell) (let e : suc k + i ≡ k + suc i = omega arith in e) ∙ h (suc i)))
    ∙ sym (sum_by-cons (λ (c : Cell). c.length) x xs)

-- the bytes of a rank's cells up to cell c are few
pub at_most-bytes : (p : Plan) (c m : ℕ) → c < length p.cells → sum_by (λ k. k.length) p.cells < m →
    sum_by (cell_length p) (of_key (rank_of p) c (rank_of p c)) + cell_length p c < m
at_most-bytes p c m h l =
    let t : ℕ → Bool = λ k. rank_of p k == rank_of p c in
    let a = ap (sum_by (cell_length p)) (upto-in t c (eq-eqb _ _ refl)) ∙ sum_by-append (cell_length p) (filter t (from_to 0 c)) (c ∷ []) in
    let b = sum_by-cons (cell_length p) c [] in
    let d = sum-filter_le t (cell_length p) (from_to 0 (c + 1)) in
    let e = sum-prefix (cell_length p) (c + 1) (length p.cells) (omega arith) in
    let f = numbered p.cells p.cells 0 (λ i. ap (λ v. get_or p.cells v no_cell) (let z : 0 + i ≡ i = omega arith in z)) in
    omega (arith, a, b, d, e, f, l)

pub bytes-more : (p : Plan) (c n x : ℕ) → rank_of p c < n → x ≡ sum_by (cell_length p) (of_key (rank_of p) c (rank_of p c)) + cell_length
    p c
    → set (map (λ r. sum_by (cell_length p) (of_key (rank_of p) c r)) (from_to 0 n)) (rank_of p c) x ≡ map
    (λ r. sum_by (cell_length p) (of_key (rank_of p) (c + 1) r)) (from_to 0 n)
bytes-more p c n x h e =
    keyed-more (rank_of p) (sum_by (cell_length p)) c n x h
    (e ∙ sym (sum_by-append (cell_length p) (of_key (rank_of p) c (rank_of p c)) (c ∷ [])
    ∙ ap (λ v. sum_by (cell_length p) (of_key (rank_of p) c (rank_of p c)) + v) (sum_by-cons (cell_length p) c []
    ∙ (let z : cell_length p c + 0 ≡ cell_length p c = omega arith in z))))

-- ---- sums by any key
abbrev pub sums : (ℕ → ℕ) → (ℕ → ℕ) → ℕ → ℕ → List ℕ
sums key f k n = map (λ i. sum_by f (of_key key k i)) (from_to 0 n)

pub sum-one : (f : ℕ → ℕ) (xs : List ℕ) (k : ℕ) → sum_by f (xs ++ k ∷ []) ≡ sum_by f xs + f k
sum-one f xs k = sum_by-append f xs (k ∷ []) ∙ ap (λ v. sum_by f xs + v) (sum_by-cons f k [] ∙ (let z : f k + 0 ≡ f k = omega arith in z))

pub summed-more : (key f : ℕ → ℕ) (k n : ℕ) (xs : List ℕ) → xs ≡ sums key f k n
    → cond (nat_lt (key k) (length xs)) (set xs (key k) (get_or xs (key k) 0 + f k)) xs ≡ sums key f (k + 1) n
summed-more key f k n xs e = at (nat_lt (key k) (length xs)) refl
  where
    long : length xs ≡ n
    long = ap length e ∙ length-row (λ i. sum_by f (of_key key k i)) 0 n

    at : (b : Bool) → nat_lt (key k) (length xs) ≡ b → cond b (set xs (key k) (get_or xs (key k) 0 + f k)) xs ≡ sums key f (k + 1) n
    at true t =
        let l = ltb-true _ _ t in
        let h : key k < n = omega (arith, l, long) in
        ap (λ v. set v (key k) (get_or v (key k) 0 + f k)) e
        ∙ keyed-more key (sum_by f) k n (get_or (sums key f k n) (key k) 0 + f k) h
        (ap (λ v. v + f k) (get-row (λ i. sum_by f (of_key key k i)) n (key k) 0 h) ∙ sym (sum-one f (of_key key k (key k)) k))
    at false t =
        let l = ltb-false _ _ t in
        let h : n ≤ key k = omega (arith, l, long) in
        e ∙ keyed-out key (sum_by f) k n h

at_most-sum : (key f : ℕ → ℕ) (k n m : ℕ) → k < n → sum_by f (from_to 0 n) < m → sum_by f (of_key key k (key k)) + f k < m
at_most-sum key f k n m h l =
    let t : ℕ → Bool = λ j. key j == key k in
    let a = ap (sum_by f) (upto-in t k (eq-eqb _ _ refl)) ∙ sum-one f (filter t (from_to 0 k)) k in
    let d = sum-filter_le t f (from_to 0 (k + 1)) in
    let e = sum-prefix f (k + 1) n (omega arith) in
    omega (arith, a, d, e, l)

-- a sum that is kept stays small, and one that isn't kept is that of a single thing
pub summed-at_most : (key f : ℕ → ℕ) (k n len m : ℕ) (xs : List ℕ) → xs ≡ sums key f k n → k < len → sum_by f (from_to 0 len) < m →
    get_or xs (key k) 0 + f k < m
summed-at_most key f k n len m xs e h l = at (nat_lt (key k) n) refl
  where
    at : (b : Bool) → nat_lt (key k) n ≡ b → get_or xs (key k) 0 + f k < m
    at true t =
        let i : key k < n = ltb-true _ _ t in
        let g = ap (λ v. get_or v (key k) 0) e ∙ get-row (λ i. sum_by f (of_key key k i)) n (key k) 0 i in
        let q = at_most-sum key f k len m h l in
        omega (arith, g, q)
    at false t =
        let i : n ≤ key k = ltb-false _ _ t in
        let long = ap length e ∙ length-row (λ i. sum_by f (of_key key k i)) 0 n in
        let g = past xs (key k) 0 (omega (arith, i, long)) in
        let q = at_most-sum key f k len m h l in
        omega (arith, g, q)
