-- Parts that are filled one after the other, in any order, make their concatenation.
use Rattle.std.proofs.Common.{ℕ, zero, suc, Bool, true, false, ◌+◌, ◌-◌, ◌*◌, ◌≡◌, ◌≤◌, ◌<◌, ◌⊎◌, List, [], ◌∷◌, ◌++◌, refl, length, map}
use Rattle.std.proofs.Common.{flat_map, drop, ap, ap₂, ◌∙◌, sym, subst, inl, inr, arith, rules, append_assoc, length-append, append-nil}
use Rattle.std.proofs.Math.Nat.{mul-le-mul_right}
use Rattle.std.proofs.lemmas.List.{places, same_lists, length-drop}
use Rattle.op_laws.proofs.Bytes.{length-written, written-apart}
use Rattle.plan_core.proofs.Links.{Distinct-from_to, In-from_to, from_to-In}
use Rattle.plan_core.proofs.Lists.{Distinct-map, In-map_cases, each, each-append, each_same, length-map'}
use Rattle.plan_core.proofs.Growth.{from_to-append}
use Rattle.plan_core.specs.Members.{In}
use Rattle.plan_core.specs.Plan.{from_to}
use Rattle.plan_steps.proofs.Grow.{length-from_to}
use Rattle.ptl_types.specs.Elements.{written}

each-map : {X Y Z : Type 0} (f : Y → Z → Z) (h : X → Y) (xs : List X) (z : Z) → each (λ x. f (h x)) xs z ≡ each f (map h xs) z
each-map f h [] z = refl
each-map f h (x ∷ xs) z = each-map f h xs (f (h x) z)

-- the places in another order
pub each-turned : {Z : Type 0} (f : ℕ → Z → Z) (P : Z → Type 0) (h : ℕ → ℕ) (m : ℕ) → ((i : ℕ) → i < m → h i < m) →
    ((i j : ℕ) → i < m → j < m → h i ≡ h j → i ≡ j)
    → ((a : ℕ) (z : Z) → a < m → P z → P (f a z)) → ((a b : ℕ) (z : Z) → a < m → b < m → P z → f a (f b z) ≡ f b (f a z)) → (z : Z) → P z
    → each (λ d. f (h d)) (from_to 0 m) z ≡ each f (from_to 0 m) z
each-turned f P h m below one keeps swaps z p =
    each-map f h (from_to 0 m) z
    ∙ each_same f P (map h (from_to 0 m)) (from_to 0 m)
    (Distinct-map h (from_to 0 m) (Distinct-from_to 0 m) (λ a b i j e. one a b (in_range a i) (in_range b j) e))
    (λ u i. let r = In-map_cases h u (from_to 0 m) i in subst (λ v. In v (from_to 0 m)) r.2
    (In-from_to 0 m (h r.0) (omega arith) (let b = below r.0 (in_range r.0 r.1) in omega arith)))
    (let e = length-map' h (from_to 0 m) in omega arith)
    (λ a v i q. keeps a v (in_range a i) q) (λ a b v i j q. swaps a b v (in_range a i) (in_range b j) q) z p
  where
    in_range : (a : ℕ) → In a (from_to 0 m) → a < m
    in_range a i = let q = from_to-In 0 m a i in omega arith

write-behind : (at : ℕ) (bs xs ys : List ℕ) → at ≡ length xs → length bs ≤ length ys →
    written at bs (xs ++ ys) ≡ xs ++ (bs ++ drop (length bs) ys)
write-behind at bs xs ys e h = same_lists _ _ (search (rules, places)) (λ i d l. grind (arith, places))

drop-more : (a b : ℕ) (xs : List ℕ) → drop a (drop b xs) ≡ drop (b + a) xs
drop-more a b xs = same_lists _ _ (search (rules, places)) (λ i d l. grind (arith, places))

drop-all : (a : ℕ) (xs : List ℕ) → length xs ≡ a → drop a xs ≡ []
drop-all a xs e = same_lists _ _ (search (rules, places)) (λ i d l. grind (arith, places))

-- ---- m parts of n bytes
module _ (n : ℕ) (y : ℕ → List ℕ) where
  abbrev pub put_at : ℕ → List ℕ → List ℕ
  put_at q z = written (q * n) (y q) z

  flat-append : (us vs : List ℕ) → flat_map y (us ++ vs) ≡ flat_map y us ++ flat_map y vs
  flat-append [] vs = refl
  flat-append (u ∷ us) vs = ap (λ v. y u ++ v) (flat-append us vs) ∙ sym (append_assoc (y u) (flat_map y us) (flat_map y vs))

  pub length-flat : (us : List ℕ) → ((q : ℕ) → In q us → length (y q) ≡ n) → length (flat_map y us) ≡ length us * n
  length-flat [] h = omega arith
  length-flat (u ∷ us) h = length-append (y u) (flat_map y us) ∙ ap₂ (λ a b. a + b) (h u (inl refl)) (length-flat us (λ q i. h q (inr i)))
      ∙ (let e : n + length us * n ≡ suc (length us) * n = omega arith in e)

  split : (m : ℕ) → from_to 0 (suc m) ≡ from_to 0 m ++ m ∷ []
  split m = ap (from_to 0) (let e : suc m ≡ m + 1 = omega arith in e) ∙ from_to-append 0 m 1
      ∙ ap (λ v. from_to 0 m ++ v ∷ []) (let e : 0 + m ≡ m = omega arith in e)

  in_order : (m : ℕ) → ((q : ℕ) → q < m → length (y q) ≡ n) → (z : List ℕ) → m * n ≤ length z →
      each (λ q z. written (q * n) (y q) z) (from_to 0 m) z ≡ flat_map y (from_to 0 m) ++ drop (m * n) z
  in_order zero h z l = ap (λ v. drop v z) (let e : 0 ≡ 0 * n = omega arith in e)
  in_order (suc m) h z l =
      let front = flat_map y (from_to 0 m) in
      let len : length (flat_map y (from_to 0 m)) ≡ m * n = length-flat (from_to 0 m) (λ q i. let r = from_to-In 0 m q i in
      h q (omega arith)) ∙ ap (λ v. v * n) (length-from_to 0 m) in
      let one = h m (omega arith) in
      let s : suc m * n ≡ m * n + n = omega arith in
      ap (λ us. each (λ q z. written (q * n) (y q) z) us z) (split m)
      ∙ each-append (λ q z. written (q * n) (y q) z) (from_to 0 m) (m ∷ []) z
      ∙ ap (written (m * n) (y m)) (in_order m (λ q i. h q (omega arith)) z (omega arith))
      ∙ write-behind (m * n) (y m) front (drop (m * n) z) (sym len) (let d = length-drop (m * n) z in omega arith)
      ∙ sym (append_assoc front (y m) (drop (length (y m)) (drop (m * n) z)))
      ∙ ap₂ (λ u v. u ++ v)
      (ap (λ v. front ++ v) (sym (append-nil (y m))) ∙ sym (flat-append (from_to 0 m) (m ∷ [])) ∙ ap (flat_map y) (sym (split m)))
      (drop-more (length (y m)) (m * n) z ∙ ap (λ v. drop v z) (let e : m * n + length (y m) ≡ suc m * n = omega arith in e))

  pub filled_by : (m : ℕ) → ((q : ℕ) → q < m → length (y q) ≡ n) → (z : List ℕ) → length z ≡ m * n →
      each (λ q z. written (q * n) (y q) z) (from_to 0 m) z ≡ flat_map y (from_to 0 m)
  filled_by m h z e = in_order m h z (omega arith) ∙ ap (λ v. flat_map y (from_to 0 m) ++ v) (drop-all (m * n) z e)
      ∙ append-nil (flat_map y (from_to 0 m))

  apart : (a b : ℕ) → a < b → a * n + n ≤ b * n
  apart a b h = let e : suc a * n ≡ a * n + n = omega arith in let l = mul-le-mul_right n h in omega (arith, l, e)

  inside : (a m : ℕ) → a < m → a * n + n ≤ m * n
  inside a m h = apart a m h

  pub written_turned : (m : ℕ) (h : ℕ → ℕ) → ((q : ℕ) → q < m → length (y q) ≡ n) → ((i : ℕ) → i < m → h i < m) →
      ((i j : ℕ) → i < m → j < m → h i ≡ h j → i ≡ j)
      → (z : List ℕ) → length z ≡ m * n → each (λ d z. written (h d * n) (y (h d)) z) (from_to 0 m) z ≡ flat_map y (from_to 0 m)
  written_turned m h len below one z e =
      each-turned (λ q z. written (q * n) (y q) z) (λ v. length v ≡ m * n) h m below one
      (λ a v i p. let l = len a i in let k = inside a m i in length-written (a * n) (y a) v (omega arith) ∙ p)
      (λ a b v i j p. swaps a b v i j p)
      z e
      ∙ filled_by m len z e
    where
      swaps : (a b : ℕ) (v : List ℕ) → a < m → b < m → length v ≡ m * n → written (a * n) (y a) (written (b * n) (y b) v) ≡ written
          (b * n) (y b) (written (a * n) (y a) v)
      swaps a b v i j p = at (order a b)
        where
          order : (a b : ℕ) → (a ≡ b) ⊎ ((a < b) ⊎ (b < a))
          order a b = at3 (Rattle.std.proofs.Common.nat_lt a b) refl
            where
              at3 : (t : Bool) → Rattle.std.proofs.Common.nat_lt a b ≡ t → (a ≡ b) ⊎ ((a < b) ⊎ (b < a))
              at3 true e = inr (inl (Rattle.std.proofs.lemmas.Bool.ltb-true _ _ e))
              at3 false e = elim (Rattle.std.proofs.Common.eq-or-lt_of_le (Rattle.std.proofs.lemmas.Bool.ltb-false _ _ e))
                  [ inl q ↦ inl (sym q) | inr q ↦ inr (inr q) ]

          at : (a ≡ b) ⊎ ((a < b) ⊎ (b < a)) → written (a * n) (y a) (written (b * n) (y b) v) ≡ written (b * n) (y b)
              (written (a * n) (y a) v)
          at (inl q) = ap₂ (λ c d. written (c * n) (y c) (written (d * n) (y d) v)) q (sym q)
          at (inr (inl l)) = let u = len a i in let w = len b j in let k = apart a b l in let t = inside b m j in
              written-apart (a * n) (y a) (b * n) (y b) v (omega arith) (omega arith)
          at (inr (inr l)) = let u = len a i in let w = len b j in let k = apart b a l in let t = inside a m i in
              sym (written-apart (b * n) (y b) (a * n) (y a) v (omega arith) (omega arith))
