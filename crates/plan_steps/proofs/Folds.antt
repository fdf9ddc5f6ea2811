-- Folds of lists: their parts may be joined and may change places; over a tree; over the places turned round.
use Rattle.std.proofs.Common.{ℕ, zero, suc, Bool, true, false, cond, ◌+◌, ◌-◌, ◌*◌, ◌%◌, ◌==◌, ◌≡◌, ◌≤◌, ◌<◌, List, [], ◌∷◌, ◌++◌, refl}
use Rattle.std.proofs.Common.{length, map, filter, flat_map, ap, ◌∙◌, sym, subst, inl, inr, arith, eqb-true, nat_lt, append_assoc}
use Rattle.std.proofs.Math.Nat.{mod-eq_of_lt, add-mul-mod_self_left}
use Rattle.std.proofs.lemmas.Bool.{ne_eqb, eqb-false, ltb-true, ltb-false}
use Rattle.op_laws.proofs.Bytes.{length-combined, length-repeated}
use Rattle.op_laws.proofs.OpLaws.{op_laws}
use Rattle.op_laws.proofs.Swaps.{combined-swaps}
use Rattle.op_laws.specs.Combining.{CombineSwaps}
use Rattle.plan_core.proofs.Links.{Distinct-from_to, In-from_to, from_to-In}
use Rattle.plan_core.proofs.Lists.{Distinct-map, In-map_cases, each, each_same, length-map'}
use Rattle.plan_core.proofs.Growth.{from_to-append}
use Rattle.plan_core.specs.Members.{Distinct, In, Within}
use Rattle.plan_core.specs.Plan.{from_to}
use Rattle.plan_steps.proofs.Join.{combined-assoc, combined-start}
use Rattle.coll_shape.specs.Folding.{folded}
use Rattle.ptl_types.specs.Elements.{combined, starting}
use Rattle.ptl_types.specs.Operations.{bytes_of}
use Rattle.ptl_types.specs.declared.elements.AtomicOp.{AtomicOp}
use Rattle.ptl_types.specs.declared.elements.ElemType.{ElemType}

pub swap : CombineSwaps
swap = combined-swaps op_laws

-- ---- sums of two numbers, turned round once
pub data Turned (a b m : ℕ) : Type 0 where
  Below : a + b < m → (a + b) % m ≡ a + b → Turned a b m
  Above : m ≤ a + b → (a + b) % m ≡ a + b - m → Turned a b m

less_once : (a m : ℕ) → m ≤ a → a - m < m → a % m ≡ a - m
less_once a m h l =
    let e : a ≡ a - m + m * 1 = omega arith in
    ap (λ v. v % m) e ∙ add-mul-mod_self_left (a - m) m 1 ∙ mod-eq_of_lt l

pub turn : (a b m : ℕ) → a < m → b ≤ m → Turned a b m
turn a b m h l = at (nat_lt (a + b) m) refl
  where
    at : (t : Bool) → nat_lt (a + b) m ≡ t → Turned a b m
    at true e = let i : a + b < m = ltb-true _ _ e in Below i (mod-eq_of_lt i)
    at false e = let i : m ≤ a + b = ltb-false _ _ e in Above i (less_once (a + b) m i (omega arith))

-- ---- folds
module _ (o : AtomicOp) (ty : ElemType) where
  pub folded-append : (xs ys : List (List ℕ)) (z : List ℕ) → folded o ty (xs ++ ys) z ≡ folded o ty ys (folded o ty xs z)
  folded-append [] ys z = refl
  folded-append (x ∷ xs) ys z = folded-append xs ys (combined o ty z x)

  pub folded-late : (xs : List (List ℕ)) (z a : List ℕ) → folded o ty xs (combined o ty z a) ≡ combined o ty (folded o ty xs z) a
  folded-late [] z a = refl
  folded-late (x ∷ xs) z a = ap (folded o ty xs) (swap o ty z a x) ∙ folded-late xs (combined o ty z x) a

  pub folded-swap : (xs ys : List (List ℕ)) (z : List ℕ) → folded o ty xs (folded o ty ys z) ≡ folded o ty ys (folded o ty xs z)
  folded-swap xs [] z = refl
  folded-swap xs (y ∷ ys) z = folded-swap xs ys (combined o ty z y) ∙ ap (folded o ty ys) (folded-late xs z y)

  pub length-folded : (xs : List (List ℕ)) (z : List ℕ) → length z % bytes_of ty ≡ 0 → length (folded o ty xs z) ≡ length z
  length-folded [] z w = refl
  length-folded (x ∷ xs) z w = let e = length-combined o ty z x w in
      length-folded xs (combined o ty z x) (ap (λ v. v % bytes_of ty) e ∙ w) ∙ e

  join_from : (xs : List (List ℕ)) (z y : List ℕ) → length z ≡ length y → length y % bytes_of ty ≡ 0 →
      combined o ty z (folded o ty xs y) ≡ folded o ty xs (combined o ty z y)
  join_from [] z y e w = refl
  join_from (x ∷ xs) z y e w =
      let k = length-combined o ty y x w in
      join_from xs z (combined o ty y x) (e ∙ sym k) (ap (λ v. v % bytes_of ty) k ∙ w) ∙ ap (folded o ty xs) (combined-assoc o ty z y x e)

  -- a partial result of one list and more counts as the lists themselves
  pub folded-join : (n : ℕ) → n % bytes_of ty ≡ 0 → (z x : List ℕ) (xs : List (List ℕ)) → length z ≡ n →
      combined o ty z (folded o ty (x ∷ xs) (starting o ty n)) ≡ folded o ty (x ∷ xs) z
  folded-join n w z x xs e =
      let l = length-repeated o ty n w in
      let k = length-combined o ty (starting o ty n) x (ap (λ v. v % bytes_of ty) l ∙ w) in
      join_from xs z (combined o ty (starting o ty n) x) (e ∙ sym (k ∙ l)) (ap (λ v. v % bytes_of ty) (k ∙ l) ∙ w)
      ∙ ap (folded o ty xs) (combined-start o ty n z x e w)

  -- over places
  pub folded-each : (x : ℕ → List ℕ) (us : List ℕ) (z : List ℕ) → folded o ty (map x us) z ≡ each (λ u v. combined o ty v (x u)) us z
  folded-each x [] z = refl
  folded-each x (u ∷ us) z = folded-each x us (combined o ty z (x u))

  pub folded-same : (x y : ℕ → List ℕ) (us : List ℕ) (z : List ℕ) → ((u : ℕ) → In u us → x u ≡ y u) →
      folded o ty (map x us) z ≡ folded o ty (map y us) z
  folded-same x y [] z h = refl
  folded-same x y (u ∷ us) z h = ap (λ v. folded o ty (map x us) (combined o ty z v)) (h u (inl refl))
      ∙ folded-same x y us (combined o ty z (y u)) (λ w i. h w (inr i))

  pub folded-members : (x : ℕ → List ℕ) (us vs : List ℕ) (z : List ℕ) → Distinct us → Within us vs → length vs ≤ length us →
      folded o ty (map x us) z ≡ folded o ty (map x vs) z
  folded-members x us vs z d w l =
      folded-each x us z
      ∙ each_same (λ u v. combined o ty v (x u)) (λ v. Unit {0}) us vs d w l (λ a v i p. tt) (λ a b v i j p. swap o ty v (x b) (x a)) z tt
      ∙ sym (folded-each x vs z)

  pub map-map : (x : ℕ → List ℕ) (h : ℕ → ℕ) (us : List ℕ) → map (λ v. x (h v)) us ≡ map x (map h us)
  map-map x h [] = refl
  map-map x h (u ∷ us) = ap (λ v. x (h u) ∷ v) (map-map x h us)

  -- the places in another order
  pub folded-turned : (x : ℕ → List ℕ) (h : ℕ → ℕ) (m : ℕ) (z : List ℕ) → ((i : ℕ) → i < m → h i < m) →
      ((i j : ℕ) → i < m → j < m → h i ≡ h j → i ≡ j)
      → folded o ty (map (λ v. x (h v)) (from_to 0 m)) z ≡ folded o ty (map x (from_to 0 m)) z
  folded-turned x h m z below one =
      ap (λ us. folded o ty us z) (map-map x h (from_to 0 m))
      ∙ folded-members x (map h (from_to 0 m)) (from_to 0 m) z
      (Distinct-map h (from_to 0 m) (Distinct-from_to 0 m) (λ a b i j e. let p = from_to-In 0 m a i in let q = from_to-In 0 m b j in
      one a b (omega arith) (omega arith) e))
      (λ u i. let r = In-map_cases h u (from_to 0 m) i in let q = from_to-In 0 m r.0 r.1 in
      subst (λ v. In v (from_to 0 m)) r.2 (In-from_to 0 m (h r.0) (omega arith) (let b = below r.0 (omega arith) in omega arith)))
      (let e = length-map' h (from_to 0 m) in omega arith)

-- ---- a tree: each place combines its own list and then its children's results; the root has the fold of all
module _ (o : AtomicOp) (ty : ElemType) (n m : ℕ) (whole : n % bytes_of ty ≡ 0) (par : ℕ → ℕ) (lower : (w : ℕ) → 0 < w → par w < w)
    (x : ℕ → List ℕ) (sum : ℕ → List ℕ)
    (sums : (v : ℕ) → v < m → sum v ≡ folded o ty (x v ∷ map sum (filter (λ w. par w == v) (from_to (suc v) (m - suc v))))
    (starting o ty n)) where
  abbrev kids : ℕ → ℕ → List ℕ
  kids t u = filter (λ w. par w == u) (from_to t (m - t))

  abbrev blocks : ℕ → List ℕ → List (List ℕ)
  blocks t us = flat_map (λ u. x u ∷ map sum (filter (λ w. par w == u) (from_to t (m - t)))) us

  abbrev total : ℕ → List ℕ → List ℕ → List ℕ
  total t us z = folded o ty (flat_map (λ u. x u ∷ map sum (filter (λ w. par w == u) (from_to t (m - t)))) us) z

  step-kids : (t u : ℕ) → t < m → filter (λ w. par w == u) (from_to t (m - t)) ≡ cond (par t == u)
      (t ∷ filter (λ w. par w == u) (from_to (suc t) (m - suc t))) (filter (λ w. par w == u) (from_to (suc t) (m - suc t)))
  step-kids t u h = ap (λ k. filter (λ w. par w == u) (from_to t k)) (let e : m - t ≡ suc (m - suc t) = omega arith in e)

  stays : (t : ℕ) → t < m → (us : List ℕ) → (In (par t) us → ⊥) → (z : List ℕ) → total t us z ≡ total (suc t) us z
  stays t h [] out z = refl
  stays t h (u ∷ us) out z =
      let e : filter (λ w. par w == u) (from_to t (m - t)) ≡ filter (λ w. par w == u) (from_to (suc t) (m - suc t)) = step-kids t u h
      ∙ ap (λ b. cond b (t ∷ filter (λ w. par w == u) (from_to (suc t) (m - suc t)))
      (filter (λ w. par w == u) (from_to (suc t) (m - suc t)))) (ne_eqb (par t) u (λ q. out (inl (sym q)))) in
      folded-append o ty (x u ∷ map sum (filter (λ w. par w == u) (from_to t (m - t))))
      (flat_map (λ u. x u ∷ map sum (filter (λ w. par w == u) (from_to t (m - t)))) us) z
      ∙ ap (λ ks. total t us (folded o ty (x u ∷ map sum ks) z)) e
      ∙ stays t h us (λ i. out (inr i)) (folded o ty (x u ∷ map sum (filter (λ w. par w == u) (from_to (suc t) (m - suc t)))) z)
      ∙ sym (folded-append o ty (x u ∷ map sum (filter (λ w. par w == u) (from_to (suc t) (m - suc t))))
      (flat_map (λ u. x u ∷ map sum (filter (λ w. par w == u) (from_to (suc t) (m - suc t)))) us) z)

  -- one partial result more, at its parent
  one_more : (t : ℕ) → t < m → (us : List ℕ) → Distinct us → In (par t) us → (z : List ℕ) →
      total t us z ≡ combined o ty (total (suc t) us z) (sum t)
  one_more t h [] d i z = absurd i
  one_more t h (u ∷ us) d i z = at (par t == u) refl i (one_more t h us d.1)
    where
      at : (b : Bool) → (par t == u) ≡ b → In (par t) (u ∷ us) →
          (In (par t) us → (z : List ℕ) → total t us z ≡ combined o ty (total (suc t) us z) (sum t)) →
          total t (u ∷ us) z ≡ combined o ty (total (suc t) (u ∷ us) z) (sum t)
      at true e i later =
          let k : kids t u ≡ t ∷ kids (suc t) u = step-kids t u h ∙ ap (λ b. cond b (t ∷ kids (suc t) u) (kids (suc t) u)) e in
          folded-append o ty (x u ∷ map sum (kids t u)) (blocks t us) z
          ∙ ap (λ ks. total t us (folded o ty (x u ∷ map sum ks) z)) k
          ∙ stays t h us (λ j. d.0 (subst (λ v. In v us) (eqb-true _ _ e) j)) (folded o ty (x u ∷ sum t ∷ map sum (kids (suc t) u)) z)
          ∙ ap (total (suc t) us) (folded-late o ty (map sum (kids (suc t) u)) (combined o ty z (x u)) (sum t))
          ∙ folded-late o ty (blocks (suc t) us) (folded o ty (map sum (kids (suc t) u)) (combined o ty z (x u))) (sum t)
          ∙ ap (λ v. combined o ty v (sum t)) (sym (folded-append o ty (x u ∷ map sum (kids (suc t) u)) (blocks (suc t) us) z))
      at false e (inl q) later = absurd (eqb-false _ _ e (sym q))
      at false e (inr j) later =
          let k : kids t u ≡ kids (suc t) u = step-kids t u h ∙ ap (λ b. cond b (t ∷ kids (suc t) u) (kids (suc t) u)) e in
          folded-append o ty (x u ∷ map sum (kids t u)) (blocks t us) z
          ∙ ap (λ ks. total t us (folded o ty (x u ∷ map sum ks) z)) k
          ∙ later j (folded o ty (x u ∷ map sum (kids (suc t) u)) z)
          ∙ ap (λ v. combined o ty v (sum t)) (sym (folded-append o ty (x u ∷ map sum (kids (suc t) u)) (blocks (suc t) us) z))

  flat-append : (f : ℕ → List (List ℕ)) (us vs : List ℕ) → flat_map f (us ++ vs) ≡ flat_map f us ++ flat_map f vs
  flat-append f [] vs = refl
  flat-append f (u ∷ us) vs = ap (λ v. f u ++ v) (flat-append f us vs) ∙ sym (append_assoc (f u) (flat_map f us) (flat_map f vs))

  start-length : length (starting o ty n) ≡ n
  start-length = length-repeated o ty n whole

  stage : (t : ℕ) → 0 < t → t < m → total (suc t) (from_to 0 (suc t)) (starting o ty n) ≡ total t (from_to 0 t) (starting o ty n)
  stage t pos h =
      let split : from_to 0 (suc t) ≡ from_to 0 t ++ t ∷ [] = ap (from_to 0) (let e : suc t ≡ t + 1 = omega arith in e)
      ∙ from_to-append 0 t 1 ∙ ap (λ v. from_to 0 t ++ v ∷ []) (let e : 0 + t ≡ t = omega arith in e) in
      let f : ℕ → List (List ℕ) = λ u. x u ∷ map sum (filter (λ w. par w == u) (from_to (suc t) (m - suc t))) in
      let inner : ℕ = length (folded o ty (flat_map f (from_to 0 t)) (starting o ty n)) in
      let len : length (folded o ty (flat_map f (from_to 0 t)) (starting o ty n)) ≡ n =
      length-folded o ty (flat_map f (from_to 0 t)) (starting o ty n) (ap (λ v. v % bytes_of ty) start-length ∙ whole)
      ∙ start-length in
      ap (λ us. folded o ty (flat_map f us) (starting o ty n)) split
      ∙ ap (λ xs. folded o ty xs (starting o ty n)) (flat-append f (from_to 0 t) (t ∷ []))
      ∙ folded-append o ty (flat_map f (from_to 0 t)) (f t ++ []) (starting o ty n)
      ∙ folded-append o ty (f t) [] (folded o ty (flat_map f (from_to 0 t)) (starting o ty n))
      ∙ sym (folded-join o ty n whole (folded o ty (flat_map f (from_to 0 t)) (starting o ty n)) (x t)
      (map sum (filter (λ w. par w == t) (from_to (suc t) (m - suc t)))) len)
      ∙ ap (combined o ty (folded o ty (flat_map f (from_to 0 t)) (starting o ty n))) (sym (sums t h))
      ∙ sym (one_more t h (from_to 0 t) (Distinct-from_to 0 t) (In-from_to 0 t (par t) (omega arith) (let l = lower t pos in omega arith))
      (starting o ty n))

  down_to : (k t : ℕ) → 0 < t → t + k ≡ m → total m (from_to 0 m) (starting o ty n) ≡ total t (from_to 0 t) (starting o ty n)
  down_to zero t pos e = ap (λ v. total v (from_to 0 v) (starting o ty n)) (let q : m ≡ t = omega arith in q)
  down_to (suc k) t pos e = down_to k (suc t) (omega arith) (omega arith) ∙ stage t pos (omega arith)

  none_left : (us : List ℕ) (z : List ℕ) → total m us z ≡ folded o ty (map x us) z
  none_left [] z = refl
  none_left (u ∷ us) z =
      folded-append o ty (x u ∷ map sum (filter (λ w. par w == u) (from_to m (m - m))))
      (flat_map (λ u. x u ∷ map sum (filter (λ w. par w == u) (from_to m (m - m)))) us) z
      ∙ ap (λ k. total m us (folded o ty (x u ∷ map sum (filter (λ w. par w == u) (from_to m k))) z)) (let e : m - m ≡ 0 = omega arith in e)
      ∙ none_left us (combined o ty z (x u))

  pub tree_sum : 0 < m → sum 0 ≡ folded o ty (map x (from_to 0 m)) (starting o ty n)
  tree_sum pos =
      sums 0 pos
      ∙ sym (folded-append o ty (x 0 ∷ map sum (filter (λ w. par w == 0) (from_to 1 (m - 1)))) [] (starting o ty n))
      ∙ sym (down_to (m - 1) 1 (omega arith) (omega arith))
      ∙ none_left (from_to 0 m) (starting o ty n)
