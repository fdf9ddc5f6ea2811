-- A tree has one link less than places: each place but the root is the child of one place.
use Rattle.std.proofs.Common.{ℕ, zero, suc, Bool, true, false, cond, ◌+◌, ◌-◌, ◌≡◌, ◌<◌, ◌≤◌, ◌==◌, [], ◌∷◌, refl, length, map, filter, ap}
use Rattle.std.proofs.Common.{ap₂, ◌∙◌, sym, arith, eq-eqb, length-append}
use Rattle.std.proofs.lemmas.Bool.{ne_eqb}
use Rattle.std.proofs.lemmas.List.Elements.{filter-append}
use Rattle.std.proofs.lemmas.List.Sums.{sum_by-cons, sum_by-append}
use Rattle.ptl_types.specs.declared.elements.AtomicOp.{AtomicOp}
use Rattle.plan_core.specs.Plan.{from_to}
use Rattle.plan_core.specs.Draw.{NewCell, links_of}
use Rattle.plan_core.proofs.Drawing.{from_to-more}
use Rattle.plan_core.proofs.Lists.{length-map'}
use Rattle.plan_steps.specs.StepContext.{StepContext, count, atomic}
use Rattle.plan_steps.specs.Trees.{children, parent, up, up_at, up_number, up_sources}
use Rattle.plan_steps.proofs.Trees.{parent-lower}

-- f 0 + .. + f (n - 1)
abbrev upto : (ℕ → ℕ) → ℕ → ℕ
upto f zero = 0
upto f (suc n) = upto f n + f n

upto-same : (f g : ℕ → ℕ) (n : ℕ) → ((i : ℕ) → i < n → f i ≡ g i) → upto f n ≡ upto g n
upto-same f g zero h = refl
upto-same f g (suc n) h = ap₂ (λ a b. a + b) (upto-same f g n (λ i l. h i (omega arith))) (h n (omega arith))

upto-plus : (f g : ℕ → ℕ) (n : ℕ) → upto (λ i. f i + g i) n ≡ upto f n + upto g n
upto-plus f g zero = refl
upto-plus f g (suc n) = let e = upto-plus f g n in omega (arith, e)

upto-front : (f : ℕ → ℕ) (n : ℕ) → upto f (suc n) ≡ f 0 + upto (λ i. f (suc i)) n
upto-front f zero = let e : 0 + f 0 ≡ f 0 + 0 = omega arith in e
upto-front f (suc n) = ap (λ v. v + f (suc n)) (upto-front f n)
    ∙ (let e : f 0 + upto (λ i. f (suc i)) n + f (suc n) ≡ f 0 + (upto (λ i. f (suc i)) n + f (suc n)) = omega arith in e)

upto-turned : (f : ℕ → ℕ) (n : ℕ) → upto (λ j. f (n - 1 - j)) n ≡ upto f n
upto-turned f zero = refl
upto-turned f (suc n) =
    upto-front (λ j. f (suc n - 1 - j)) n
    ∙ ap₂ (λ a b. a + b)
    (ap f (let e : suc n - 1 - 0 ≡ n = omega arith in e))
    (upto-same (λ i. f (suc n - 1 - suc i)) (λ j. f (n - 1 - j)) n
    (λ i l. ap f (let e : suc n - 1 - suc i ≡ n - 1 - i = omega arith in e)) ∙ upto-turned f n)
    ∙ (let e : f n + upto f n ≡ upto f n + f n = omega arith in e)

-- one of the numbers below n is p
one_if : ℕ → ℕ → ℕ
one_if p v = cond (p == v) 1 0

none-of : (p n : ℕ) → n ≤ p → upto (one_if p) n ≡ 0
unfolding one_if
none-of p zero h = refl
none-of p (suc n) h = ap₂ (λ a b. a + b) (none-of p n (omega arith)) (ap (λ t. cond t 1 0) (ne_eqb p n (λ e. absurd (omega arith))))

one-of : (p n : ℕ) → p < n → upto (one_if p) n ≡ 1
unfolding one_if
one-of p zero h = absurd (omega arith)
one-of p (suc n) h = at (p == n) refl (one-of p n)
  where
    at : (t : Bool) → (p == n) ≡ t → (p < n → upto (one_if p) n ≡ 1) → upto (one_if p) n + cond (p == n) 1 0 ≡ 1
    at true e rest =
        let z : p ≡ n = Rattle.std.proofs.Common.eqb-true p n e in
        ap₂ (λ a b. a + b) (none-of p n (omega (arith, z))) (ap (λ t. cond t 1 0) e)
    at false e rest =
        let z : p < n = lower (λ w. differ w e) in
        ap₂ (λ a b. a + b) (rest z) (ap (λ t. cond t 1 0) e)
      where
        differ : p ≡ n → (p == n) ≡ false → ⊥
        differ w e = let t = eq-eqb p n w in clash (sym t ∙ e)
          where
            clash : true ≡ false → ⊥
            clash v = cc

        lower : (p ≡ n → ⊥) → p < n
        lower w = omega (arith, w)

-- how many children v has below n
abbrev child_count : ℕ → ℕ → ℕ
child_count n v = length (children v (suc v) (n - suc v))

child-more : (n v : ℕ) → v < n → child_count (suc n) v ≡ child_count n v + one_if (parent n) v
unfolding one_if
child-more n v h =
    ap (λ k. length (filter (λ w. parent w == v) (from_to (suc v) k))) (let e : suc n - suc v ≡ suc (n - suc v) = omega arith in e)
    ∙ ap (λ xs. length (filter (λ w. parent w == v) xs)) (from_to-more (suc v) (n - suc v))
    ∙ ap length (filter-append (λ w. parent w == v) (from_to (suc v) (n - suc v)) ((suc v + (n - suc v)) ∷ []))
    ∙ length-append (filter (λ w. parent w == v) (from_to (suc v) (n - suc v)))
    (cond (parent (suc v + (n - suc v)) == v) ((suc v + (n - suc v)) ∷ []) [])
    ∙ ap (λ k. child_count n v + length (cond (parent k == v) (k ∷ []) [])) (let e : suc v + (n - suc v) ≡ n = omega arith in e)
    ∙ ap (λ k. child_count n v + k) (at (parent n == v))
  where
    at : (t : Bool) → length (cond t (n ∷ []) []) ≡ cond t 1 0
    at true = refl
    at false = refl

child-none : (n : ℕ) → child_count (suc n) n ≡ 0
child-none n = ap (λ k. length (filter (λ w. parent w == n) (from_to (suc n) k))) (let e : suc n - suc n ≡ 0 = omega arith in e)

all-children : (m : ℕ) → upto (child_count (suc m)) (suc m) ≡ m
all-children zero = ap (λ v. 0 + v) (child-none 0)
all-children (suc m) =
    let n = suc m in
    ap₂ (λ a b. a + b)
    (upto-same (child_count (suc n)) (λ v. child_count n v + one_if (parent n) v) n (λ v h. child-more n v h)
    ∙ upto-plus (child_count n) (one_if (parent n)) n
    ∙ ap₂ (λ a b. a + b) (all-children m) (one-of (parent n) n (parent-lower n (omega arith))))
    (child-none n)
    ∙ (let e : m + 1 + 0 ≡ suc m = omega arith in e)

links-upto : (g : ℕ → NewCell) (n : ℕ) → links_of (map g (from_to 0 n)) ≡ upto (λ i. length (g i).into) n
links-upto g zero = refl
links-upto g (suc n) =
    ap (λ v. links_of (map g v)) (from_to-more 0 n)
    ∙ ap links_of (Rattle.std.proofs.lemmas.List.map-append g (from_to 0 n) ((0 + n) ∷ []))
    ∙ sum_by-append (λ (k : NewCell). length k.into) (map g (from_to 0 n)) (g (0 + n) ∷ [])
    ∙ ap₂ (λ a b. a + b) (links-upto g n) (sum_by-cons (λ (k : NewCell). length k.into) (g (0 + n)) []
    ∙ ap (λ v. length (g v).into + 0) (let e : 0 + n ≡ n = omega arith in e)
    ∙ (let e : length (g n).into + 0 ≡ length (g n).into = omega arith in e))

ones : (n : ℕ) → upto (λ i. 1) n ≡ n
ones zero = refl
ones (suc n) = ap (λ v. v + 1) (ones n) ∙ (let e : n + 1 ≡ suc n = omega arith in e)

-- the links of the way up
pub up-links : (s : StepContext) (root : ℕ) (o : AtomicOp) → 0 < count s → links_of (up s root o) ≡ count s + (count s - 1)
up-links s root o pos =
    links-upto (up_at s root o) (count s)
    ∙ upto-same (λ j. length (up_at s root o j).into) (λ j. 1 + child_count (count s) (count s - 1 - j)) (count s)
    (λ j h. length-map' (atomic s.length) (up_sources s root (count s - 1 - j))
    ∙ ap suc (length-map' (up_number s) (children (count s - 1 - j) (suc (count s - 1 - j)) (count s - suc (count s - 1 - j))))
    ∙ (let e : suc (child_count (count s) (count s - 1 - j)) ≡ 1 + child_count (count s) (count s - 1 - j) = omega arith in e))
    ∙ upto-turned (λ v. 1 + child_count (count s) v) (count s)
    ∙ upto-plus (λ v. 1) (child_count (count s)) (count s)
    ∙ ap₂ (λ a b. a + b) (ones (count s))
    (ap (λ n. upto (child_count n) n) (let e : count s ≡ suc (count s - 1) = omega arith in e) ∙ all-children (count s - 1))
