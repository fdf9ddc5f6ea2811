-- The possible steps by places are the possible steps.
use Rattle.std.proofs.Common.{ℕ, zero, suc, Bool, true, false, ◌≡◌, ◌<◌, ◌≤◌, ◌+◌, ◌*◌, ◌/◌, ◌%◌, ◌==◌, ◌∙◌, nat_lt, List, [], ◌∷◌, ◌++◌}
use Rattle.std.proofs.Common.{refl, ap, ap₂, sym, arith, filter, flat_map, count_by, if◌then◌else◌, append-nil, append_assoc}
use Rattle.std.proofs.lemmas.Grind.{flat_map-append}
use Rattle.std.proofs.lemmas.List.Elements.{filter-append}
use Rattle.std.proofs.lemmas.Nat.{div-mul-add, mod-mul-add}
use Rattle.ptl_types.specs.declared.headers.Lane.TheVariants.{Request, Answer}
use Rattle.plan_core.proofs.Growth.{from_to-append}
use Rattle.plan_core.specs.Plan.{from_to}
use Rattle.cuts.specs.histories.History.{is_start}
use Rattle.cuts.specs.histories.System.{System}
use Rattle.cuts.specs.orders.Chosen.{Scene, deliveries_between, firings_at, first_of, start_at}
use Rattle.cuts.specs.declared.orders.Step.{Step}
use Rattle.cuts.specs.declared.orders.Step.TheVariants.{Start}
use Rattle.cuts.specs.windows.Places.{delivery_at, delivery_on, steps_by_place}
use Rattle.cuts.specs.windows.Possible.{is_possible, possible_steps}

-- ---- lists
filter-flat : {X Y : Type 0} (p : Y → Bool) (f : X → List Y) (xs : List X) → filter p (flat_map f xs) ≡ flat_map (λ x. filter p (f x)) xs
filter-flat p f [] = refl
filter-flat p f (x ∷ xs) = filter-append p (f x) (flat_map f xs) ∙ ap (λ ys. filter p (f x) ++ ys) (filter-flat p f xs)

flat-same : {X Y : Type 0} (f g : X → List Y) (xs : List X) → ((x : X) → f x ≡ g x) → flat_map f xs ≡ flat_map g xs
flat-same f g [] e = refl
flat-same f g (x ∷ xs) e = ap₂ (λ a b. a ++ b) (e x) (flat-same f g xs e)

-- over numbers below a bound
flat-below : {Y : Type 0} (f g : ℕ → List Y) (a n : ℕ) → ((i : ℕ) → a ≤ i → i < a + n → f i ≡ g i) →
    flat_map f (from_to a n) ≡ flat_map g (from_to a n)
flat-below f g a zero e = refl
flat-below f g a (suc n) e = ap₂ (λ x y. x ++ y) (e a (omega arith) (omega arith))
    (flat-below f g (suc a) n (λ i low high. e i (omega arith) (omega arith)))

-- from another number on
flat-shift : {Y : Type 0} (f : ℕ → List Y) (b a n : ℕ) → flat_map f (from_to (b + a) n) ≡ flat_map (λ i. f (b + i)) (from_to a n)
flat-shift f b a zero = refl
flat-shift f b a (suc n) = ap (λ y. f (b + a) ++ y) (ap (λ c. flat_map f (from_to c n)) (let q : suc (b + a) ≡ b + suc a = omega arith in
    q) ∙ flat-shift f b (suc a) n)

-- two by two
flat-pairs : {Y : Type 0} (f : ℕ → List Y) (a n : ℕ) → flat_map f (from_to (2 * a) (2 * n)) ≡ flat_map (λ j. f (2 * j) ++ f (2 * j + 1))
    (from_to a n)
flat-pairs f a zero = refl
flat-pairs f a (suc n) =
    ap (λ m. flat_map f (from_to (2 * a) m)) (let q : 2 * suc n ≡ suc (suc (2 * n)) = omega arith in q)
    ∙ ap (λ y. f (2 * a) ++ y) (ap (λ c. f c ++ flat_map f (from_to (suc (suc (2 * a))) (2 * n))) (let q : suc (2 * a) ≡ 2 * a + 1 =
    omega arith in q))
    ∙ sym (append_assoc (f (2 * a)) (f (2 * a + 1)) (flat_map f (from_to (suc (suc (2 * a))) (2 * n))))
    ∙ ap (λ y. (f (2 * a) ++ f (2 * a + 1)) ++ y) (ap (λ c. flat_map f (from_to c (2 * n))) (let q : suc (suc (2 * a)) ≡ 2 * suc a =
    omega arith in q) ∙ flat-pairs f
    (suc a) n)

-- row by row
flat-rows : {Y : Type 0} (f : ℕ → List Y) (m n : ℕ) → flat_map f (from_to 0 (n * m)) ≡ flat_map
    (λ s. flat_map (λ d. f (s * m + d)) (from_to 0 m)) (from_to 0 n)
flat-rows f m zero = ap (λ k. flat_map f (from_to 0 k)) (let q : 0 * m ≡ 0 = omega arith in q)
flat-rows {Y} f m (suc n) =
    ap (λ k. flat_map f (from_to 0 k)) (times n m)
    ∙ ap (flat_map f) (from_to-append 0 (n * m) m) ∙ flat_map-append f (from_to 0 (n * m)) (from_to (0 + n * m) m)
    ∙ ap₂ (λ x y. x ++ y) (flat-rows f m n) (ap (λ c. flat_map f (from_to c m)) (let q : 0 + n * m ≡ n * m + 0 = omega arith in q)
    ∙ flat-shift f (n * m) 0 m)
    ∙ sym (last n)
  where
    row : ℕ → List Y
    row s = flat_map (λ d. f (s * m + d)) (from_to 0 m)

    times : (n m : ℕ) → suc n * m ≡ n * m + m
    times n m = grind arith

    last : (n : ℕ) → flat_map (λ s. flat_map (λ d. f (s * m + d)) (from_to 0 m)) (from_to 0 (suc n)) ≡ flat_map
        (λ s. flat_map (λ d. f (s * m + d)) (from_to 0 m)) (from_to 0 n) ++ flat_map (λ d. f (n * m + d)) (from_to 0 m)
    last n =
        ap (λ k. flat_map (λ s. flat_map (λ d. f (s * m + d)) (from_to 0 m)) (from_to 0 k)) (let q : suc n ≡ n + 1 = omega arith in q)
        ∙ ap (flat_map (λ s. flat_map (λ d. f (s * m + d)) (from_to 0 m))) (from_to-append 0 n 1)
        ∙ flat_map-append (λ s. flat_map (λ d. f (s * m + d)) (from_to 0 m)) (from_to 0 n) (from_to (0 + n) 1)
        ∙ ap (λ y. flat_map (λ s. flat_map (λ d. f (s * m + d)) (from_to 0 m)) (from_to 0 n) ++ y)
        (append-nil (flat_map (λ d. f ((0 + n) * m + d)) (from_to 0 m)) ∙ ap (λ c. flat_map (λ d. f (c * m + d)) (from_to 0 m))
        (let q : 0 + n ≡ n = omega arith in q))

-- ---- the parts of the list
module _ (k : System) (window : ℕ) (z : Scene) where
  abbrev p : Step → Bool
  p = is_possible k window z

  starts-pass : (r : ℕ) → filter p (start_at z r) ≡ start_at z r
  starts-pass r = at (nat_lt 0 (count_by is_start (z.world r)))
    where
      at : (b : Bool) → filter p (if b then [] else Start r ∷ []) ≡ (if b then [] else Start r ∷ [])
      at true = refl
      at false = refl

  between : (s d : ℕ) → filter p (deliveries_between z s d) ≡ delivery_on k window z s d Request ++ delivery_on k window z s d Answer
  between s d = filter-append p (first_of s d Request (z.held s d Request)) (first_of s d Answer (z.held s d Answer))

  -- the two lanes of a pair at their places
  pair-places : (s d : ℕ) → d < k.count → delivery_at k window z (2 * (s * k.count + d)) ++ delivery_at k window z
      (2 * (s * k.count + d) + 1) ≡ delivery_on k window z s d Request ++ delivery_on k window z s d Answer
  pair-places s d h = ap₂ (λ a b. a ++ b) (even (s * k.count + d) (div-mul-add s k.count d h) (mod-mul-add s k.count d h))
      (odd (s * k.count + d) (div-mul-add s k.count d h) (mod-mul-add s k.count d h))
    where
      even : (x : ℕ) → x / k.count ≡ s → x % k.count ≡ d → delivery_at k window z (2 * x) ≡ delivery_on k window z s d Request
      even x a b =
          let half : 2 * x / 2 ≡ x = omega arith in
          let rest : (2 * x % 2 == 0) ≡ true = grind arith in
          ap₂ (λ i c. delivery_on k window z (i / k.count) (i % k.count) (if c then Request else Answer)) half rest
          ∙ ap₂ (λ i j. delivery_on k window z i j Request) a b

      odd : (x : ℕ) → x / k.count ≡ s → x % k.count ≡ d → delivery_at k window z (2 * x + 1) ≡ delivery_on k window z s d Answer
      odd x a b =
          let half : (2 * x + 1) / 2 ≡ x = omega arith in
          let rest : ((2 * x + 1) % 2 == 0) ≡ false = grind arith in
          ap₂ (λ i c. delivery_on k window z (i / k.count) (i % k.count) (if c then Request else Answer)) half rest
          ∙ ap₂ (λ i j. delivery_on k window z i j Answer) a b

  deliveries-placed : flat_map (delivery_at k window z) (from_to 0 (2 * (k.count * k.count))) ≡ flat_map
      (λ s. flat_map (λ d. delivery_on k window z s d Request ++ delivery_on k window z s d Answer) (from_to 0 k.count)) (from_to 0 k.count)
  deliveries-placed =
      flat-pairs (delivery_at k window z) 0 (k.count * k.count)
      ∙ flat-rows (λ j. delivery_at k window z (2 * j) ++ delivery_at k window z (2 * j + 1)) k.count k.count
      ∙ flat-same _ _ (from_to 0 k.count) (λ s. flat-below _ _ 0 k.count (λ d low high. pair-places s d (omega arith)))

  pub by-places : possible_steps k window z ≡ steps_by_place k window z
  by-places =
      filter-append p (flat_map (start_at z) (from_to 0 k.count)) _
      ∙ ap₂ (λ a b. a ++ b)
      (filter-flat p (start_at z) (from_to 0 k.count) ∙ flat-same _ _ (from_to 0 k.count) starts-pass)
      (filter-append p (flat_map (λ s. flat_map (deliveries_between z s) (from_to 0 k.count)) (from_to 0 k.count))
      (flat_map (firings_at k z) (from_to 0 k.count))
      ∙ ap₂ (λ a b. a ++ b)
      (filter-flat p (λ s. flat_map (deliveries_between z s) (from_to 0 k.count)) (from_to 0 k.count)
      ∙ flat-same _ _ (from_to 0 k.count) (λ s. filter-flat p (deliveries_between z s) (from_to 0 k.count)
      ∙ flat-same _ _ (from_to 0 k.count) (between s))
      ∙ sym deliveries-placed)
      (filter-flat p (firings_at k z) (from_to 0 k.count)))
