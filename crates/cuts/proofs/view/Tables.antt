-- The handles, numbers, counters and entries of an installed interface.
use Rattle.std.proofs.Common.{ℕ, suc, Bool, true, false, cond, ◌+◌, ◌-◌, ◌≡◌, ◌<◌, ◌⊎◌, ◌==◌, List, [], ◌∷◌, refl, length, ap, ap₂, ◌∙◌}
use Rattle.std.proofs.Common.{sym, subst, inl, inr, arith, map, find, Some, None, eqb-true, eq-eqb, min}
use Rattle.std.proofs.lemmas.Bool.{eqb-false, ne_eqb, and_from, cases_eq}
use Rattle.ptl_types.specs.declared.handles.Handle.{Handle}
use Rattle.ptl_types.specs.declared.handles.Count.{Count}
use Rattle.ptl_types.specs.Handles.{same_handle, top}
use Rattle.plan_core.specs.Members.{In}
use Rattle.ni_model.specs.Counts.{bump, successes}
use Rattle.ni_model.specs.Tables.{change, change_one, lookup}
use Rattle.plan_core.specs.Plan.{Plan, cell, out_links, own}
use Rattle.cuts.specs.view.Slots.{Slots, cell_ct, done_ct}
use Rattle.cuts.specs.view.View.{counter_of}
use Rattle.plan_core.specs.calls.RankOps.{number_of, RankOp, rank_ops}
use Rattle.cuts.specs.machine.Seen.{Seen, reached_count}
use Rattle.plan_core.specs.Places.{place_in}
use Rattle.plan_core.specs.calls.RankOps.RankOp.{ForLink, ForDone}
use Rattle.plan_core.proofs.Links.{own-In}
use Rattle.cuts.proofs.machine.RankOps.{rank_ops-along, rank_ops-tell}

-- ---- places in a list
pub place_in-one : (cs : List ℕ) (c d : ℕ) → In c cs → In d cs → place_in cs c ≡ place_in cs d → c ≡ d
place_in-one [] c d h i e = absurd h
place_in-one (k ∷ ks) c d h i e = at (k == c) (k == d) refl refl h i e (place_in-one ks c d)
  where
    at : (a b : Bool) → (k == c) ≡ a → (k == d) ≡ b → In c (k ∷ ks) → In d (k ∷ ks) →
        cond a 0 (suc (place_in ks c)) ≡ cond b 0 (suc (place_in ks d)) → (In c ks → In d ks → place_in ks c ≡ place_in ks d → c ≡ d) →
        c ≡ d
    at true true x y h i e rest = sym (eqb-true k c x) ∙ eqb-true k d y
    at true false x y h i e rest = cc
    at false true x y h i e rest = cc
    at false false x y (inl h) i e rest = absurd (eqb-false k c x h)
    at false false x y (inr h) (inl i) e rest = absurd (eqb-false k d y i)
    at false false x y (inr h) (inr i) e rest = rest h i (omega arith)

pub place_in-lt : (cs : List ℕ) (c : ℕ) → In c cs → place_in cs c < length cs
place_in-lt [] c h = absurd h
place_in-lt (k ∷ ks) c h = at (k == c) refl h (place_in-lt ks c)
  where
    at : (b : Bool) → (k == c) ≡ b → In c (k ∷ ks) → (In c ks → place_in ks c < length ks) →
        cond b 0 (suc (place_in ks c)) < suc (length ks)
    at true e h rest = omega arith
    at false e (inl h) rest = absurd (eqb-false k c e h)
    at false e (inr h) rest = let q = rest h in omega arith

-- ---- numbers of operations
pub number_of-one : (p : Plan) (r : ℕ) (v w : RankOp) → In v (rank_ops p r) → In w (rank_ops p r) → number_of p r v ≡ number_of p r w →
    v ≡ w
number_of-one p r (ForLink l) (ForLink m) h i e = ap ForLink
    (place_in-one (out_links p r) l m (rank_ops-along p r l h) (rank_ops-along p r m i) e)
number_of-one p r (ForDone c) (ForDone d) h i e = ap ForDone (place_in-one (own p r) c d (rank_ops-tell p r c h) (rank_ops-tell p r d i)
    (omega arith))
number_of-one p r (ForLink l) (ForDone d) h i e = let q = place_in-lt (out_links p r) l (rank_ops-along p r l h) in absurd (omega arith)
number_of-one p r (ForDone c) (ForLink m) h i e = let q = place_in-lt (out_links p r) m (rank_ops-along p r m i) in absurd (omega arith)

-- ---- the counters
bump_min : (n t : ℕ) → min n t + min 1 (t - (min n t + 0)) ≡ min (suc n) t
bump_min n t = omega arith

count-same : (a b c d : ℕ) → a ≡ b → c ≡ d → (let x : Count = record { success = a; failure = c } in x) ≡ record {
  success = b;
  failure =
      d;
}
count-same a b c d e f = ap₂ (λ x y. record { success = x; failure = y }) e f

pub bump-successes : (n : ℕ) → bump (successes 1) (successes (min n top)) ≡ successes (min (suc n) top)
bump-successes n = count-same _ _ _ _ (bump_min n top) (omega arith)

cell_handle : (p : Plan) (s : Slots) (r c d : ℕ) → In c (own p r) → In d (own p r) → (c ≡ d → ⊥) →
    same_handle (cell_ct p s c) (cell_ct p s d) ≡ false
cell_handle p s r c d h i differ =
    let hc = (own-In p r c h).1 in
    let hd = (own-In p r d i).1 in
    let ne : (suc (place_in (own p (cell p c).rank) c) == suc (place_in (own p (cell p d).rank) d)) ≡ false =
    ne_eqb _ _ (λ e. differ (place_in-one (own p r) c d h i (let q : place_in (own p (cell p c).rank) c ≡ place_in (own p (cell p d).rank)
    d = omega arith in subst
    (λ v. place_in (own p v) c ≡ place_in (own p r) d) hc
    (subst (λ v. place_in (own p (cell p c).rank) c ≡ place_in (own p v) d)
    hd q)))) in
    rw ne refl

pub same_handle-refl : (h : Handle) → same_handle h h ≡ true
same_handle-refl h = and_from _ _ (eq-eqb h.stamp h.stamp refl) (eq-eqb h.slot h.slot refl)

map-map-same : {X Y Z : Type 0} (f : X → Y) (h : Y → Z) (g : X → Z) (xs : List X) → ((x : X) → In x xs → h (f x) ≡ g x) →
    map h (map f xs) ≡ map g xs
map-map-same f h g [] e = refl
map-map-same f h g (x ∷ xs) e = ap₂ (λ a b. a ∷ b) (e x (inl refl)) (map-map-same f h g xs (λ y i. e y (inr i)))

-- one cell's counter rises
pub cell_rises : (p : Plan) (s : Slots) (r : ℕ) (g k : Seen) (c : ℕ) → In c (own p r) →
    reached_count p k r c ≡ suc (reached_count p g r c) → ((d : ℕ) → (d ≡ c → ⊥) → reached_count p k r d ≡ reached_count p g r d)
    → change (cell_ct p s c) (bump (successes 1)) (map (counter_of p s r g) (own p r)) ≡ map (counter_of p s r k) (own p r)
cell_rises p s r g k c h more others = map-map-same (counter_of p s r g) (change_one (cell_ct p s c) (bump (successes 1)))
    (counter_of p s r k) (own p r) (λ d i. one d i (cases_eq d c))
  where
    one : (d : ℕ) → In d (own p r) → ((d ≡ c) ⊎ (d ≡ c → ⊥)) → change_one (cell_ct p s c) (bump (successes 1)) (counter_of p s r g d)
        ≡ counter_of p s r k d
    one d i (inl e) =
        let t : same_handle (cell_ct p s d) (cell_ct p s c) ≡ true = subst (λ v. same_handle (cell_ct p s d) (cell_ct p s v) ≡ true) e
        (same_handle-refl (cell_ct p s d)) in
        let m : reached_count p k r d ≡ suc (reached_count p g r d) = subst (λ v. reached_count p k r v ≡ suc (reached_count p g r v))
        (sym e) more in
        ap (λ v. record { handle = cell_ct p s d; value = v })
        (ap (λ b. cond b (bump (successes 1) (successes (min (reached_count p g r d) top)))
        (successes (min (reached_count p g r d) top))) t ∙ bump-successes (reached_count p g r d)
        ∙ ap (λ n. successes (min n top)) (sym m))
    one d i (inr e) =
        let t = cell_handle p s r d c i h e in
        ap (λ v. record { handle = cell_ct p s d; value = v })
        (ap (λ b. cond b (bump (successes 1) (successes (min (reached_count p g r d) top)))
        (successes (min (reached_count p g r d) top))) t ∙ ap (λ n. successes (min n top)) (sym (others d e)))

pub cells_same : (p : Plan) (s : Slots) (r : ℕ) (g k : Seen) → ((d : ℕ) → reached_count p k r d ≡ reached_count p g r d) →
    map (counter_of p s r g) (own p r) ≡ map (counter_of p s r k) (own p r)
cells_same p s r g k e = go (own p r)
  where
    go : (cs : List ℕ) → map (counter_of p s r g) cs ≡ map (counter_of p s r k) cs
    go [] = refl
    go (c ∷ cs) = ap₂ (λ a b. a ∷ b) (ap (λ n. record { handle = cell_ct p s c; value = successes (min n top) }) (sym (e c))) (go cs)

-- the done counter is none of the cells'
pub done_change : (p : Plan) (s : Slots) (f : Count → Count) (cs : (List ℕ)) (h : ℕ → Count) →
    change (done_ct s) f (map (λ c. record { handle = cell_ct p s c; value = h c }) cs) ≡ map
    (λ c. record { handle = cell_ct p s c; value = h c }) cs
done_change p s f [] h = refl
done_change p s f (c ∷ cs) h =
    let e : (suc (place_in (own p (cell p c).rank) c) == 0) ≡ false = ne_eqb _ _ (λ i. absurd (omega arith)) in
    let t : same_handle (cell_ct p s c) (done_ct s) ≡ false = rw e refl in
    ap₂ (λ a b. a ∷ b) (ap (λ v. record { handle = cell_ct p s c; value = v }) (ap (λ b. cond b (f (h c)) (h c)) t))
    (done_change p s f cs h)

-- a cell's counter in the table
pub lookup_cell : (p : Plan) (s : Slots) (r : ℕ) (h : ℕ → Count) (c : ℕ) → In c (own p r) → (cs : List ℕ) →
    ((d : ℕ) → In d cs → In d (own p r)) → In c cs → lookup (cell_ct p s c) (map (λ d. record { handle = cell_ct p s d; value = h d }) cs)
    ≡ Some (h c)
lookup_cell p s r h c own_c [] sub i = absurd i
lookup_cell p s r h c own_c (k ∷ ks) sub i = at (cases_eq k c) i (lookup_cell p s r h c own_c ks (λ d j. sub d (inr j)))
  where
    at : ((k ≡ c) ⊎ (k ≡ c → ⊥)) → In c (k ∷ ks) → (In c ks →
        lookup (cell_ct p s c) (map (λ d. record { handle = cell_ct p s d; value = h d }) ks) ≡ Some (h c)) →
        lookup (cell_ct p s c) (map (λ d. record { handle = cell_ct p s d; value = h d }) (k ∷ ks)) ≡ Some (h c)
    at (inl e) i rest = subst (λ v. lookup (cell_ct p s v) (map (λ d. record { handle = cell_ct p s d; value = h d }) (k ∷ ks)) ≡ Some
        (h v)) e (rw (same_handle-refl (cell_ct p s k)) refl)
    at (inr e) (inl i) rest = absurd (e i)
    at (inr e) (inr i) rest = let t = cell_handle p s r k c (sub k (inl refl)) own_c e in rw t (rest i)

-- ---- finding
pub find-one : {X Y : Type 0} (t : Y → Bool) (f : X → Y) (xs : List X) (x : X) → In x xs → t (f x) ≡ true →
    ((y : X) → In y xs → t (f y) ≡ true → y ≡ x) → find t (map f xs) ≡ Some (f x)
find-one t f [] x h e only = absurd h
find-one t f (y ∷ ys) x h e only = at (t (f y)) refl h (λ i. find-one t f ys x i e (λ z j. only z (inr j)))
  where
    at : (b : Bool) → t (f y) ≡ b → In x (y ∷ ys) → (In x ys → find t (map f ys) ≡ Some (f x)) →
        cond b (Some (f y)) (find t (map f ys)) ≡ Some (f x)
    at true q h rest = ap (λ v. Some (f v)) (only y (inl refl) q)
    at false q (inl i) rest = cc (ap (λ v. t (f v)) i)
    at false q (inr i) rest = rest i

pub find-none : {X : Type 0} (t : X → Bool) (xs : List X) → ((x : X) → In x xs → t x ≡ false) → find t xs ≡ None
find-none t [] h = refl
find-none t (x ∷ xs) h = rw (h x (inl refl)) (find-none t xs (λ y i. h y (inr i)))

pub find-In : {X : Type 0} (t : X → Bool) (xs : List X) (x : X) → find t xs ≡ Some x → In x xs × (t x ≡ true)
find-In t [] x e = cc
find-In {X} t (y ∷ ys) x e = at (t y) refl e (find-In t ys x)
  where
    some_one : {a b : X} → Some a ≡ Some b → a ≡ b
    some_one e = cc

    at : (b : Bool) → t y ≡ b → cond b (Some y) (find t ys) ≡ Some x → (find t ys ≡ Some x → In x ys × (t x ≡ true)) → In x (y ∷ ys) ×
        (t x ≡ true)
    at true q e rest = let i : y ≡ x = some_one e in (inl i, sym (ap t i) ∙ q)
    at false q e rest = let k = rest e in (inr k.0, k.1)
