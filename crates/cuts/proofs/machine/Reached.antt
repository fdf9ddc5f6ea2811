-- A cell whose counter has reached its needs has all its incoming links, and holds its value.
use Rattle.std.proofs.Common.{ℕ, Bool, true, false, cond, ◌&&◌, ◌||◌, ◌+◌, ◌≡◌, ◌≤◌, ◌<◌, ◌==◌, List, [], ◌∷◌, ◌++◌, refl, length, ap, ◌∙◌}
use Rattle.std.proofs.Common.{sym, subst, inl, inr, arith, count_by, map, filter, eqb-true, eq-eqb, length-append, zero-le}
use Rattle.std.proofs.lemmas.Bool.{and_parts, or_cases, cases_lt, cases_eq, ne_eqb}
use Rattle.std.proofs.lemmas.List.Sums.{length-filter}
use Rattle.plan_core.specs.Members.{Distinct, In, Within}
use Rattle.op_laws.specs.Combining.{CombineSwaps}
use Rattle.plan_core.specs.Plan.{Plan, cell, in_links, is_bump, link}
use Rattle.plan_core.specs.declared.Cell.{Cell}
use Rattle.plan_core.specs.declared.LinkKind.{LinkKind}
use Rattle.plan_core.specs.Sound.{AreInputsOf, SoundPlan}
use Rattle.plan_core.specs.Values.{Inputs, initial, land, land_as, value, due}
use Rattle.plan_core.specs.declared.LinkKind.TheVariants.{Atomic, Bump, Put}
use Rattle.cuts.specs.machine.Seen.{Came, Seen, bumps, content, is_same_work, reached_count, to_cell, was_fired}
use Rattle.plan_core.specs.calls.RankOps.{RankOp, rank_ops}
use Rattle.plan_core.specs.calls.RankOps.RankOp.{ForLink, ForDone}
use Rattle.cuts.specs.machine.Machine.{Proper, link_of}
use Rattle.plan_core.proofs.Lists.{Distinct-append, Distinct-filter, Distinct-map, In-append_cases, In-filter, In-filter_cases, In-map}
use Rattle.plan_core.proofs.Lists.{In-map_cases, all_Within, each, each-append, each_same, length-map'}
use Rattle.plan_core.proofs.Links.{In-in_links, Lands, in_links-In, land_swaps, length-land, out_links-In}
use Rattle.cuts.proofs.machine.RankOps.{rank_ops-along}
use Rattle.plan_core.proofs.Values.{Lands-of, length-due, length-initial, length-value, step, value-eq}

-- ---- operations cs members
pub same_work : (v w : RankOp) → is_same_work v w ≡ true → v ≡ w
same_work (ForLink l) (ForLink m) e = ap ForLink (eqb-true l m e)
same_work (ForDone c) (ForDone d) e = ap ForDone (eqb-true c d e)
same_work (ForLink l) (ForDone d) e = cc
same_work (ForDone c) (ForLink m) e = cc

pub same_work-refl : (w : RankOp) → is_same_work w w ≡ true
same_work-refl (ForLink l) = eq-eqb l l refl
same_work-refl (ForDone c) = eq-eqb c c refl

pub fired-In : (vs : List RankOp) (w : RankOp) → was_fired vs w ≡ true → In w vs
fired-In [] w e = cc
fired-In (v ∷ vs) w e = elim (or_cases (is_same_work v w) (was_fired vs w) e)
    [ inl i ↦ inl (same_work v w i) | inr i ↦ inr (fired-In vs w i) ]

pub In-fired : (vs : List RankOp) (w : RankOp) → In w vs → was_fired vs w ≡ true
In-fired [] w h = absurd h
In-fired (v ∷ vs) w (inl e) = or_left_true _ _ (subst (λ u. is_same_work v u ≡ true) e (same_work-refl v))
  where
    or_left_true : (a b : Bool) → a ≡ true → (a || b) ≡ true
    or_left_true true b e = refl
    or_left_true false b e = cc
In-fired (v ∷ vs) w (inr h) = or_right_true _ _ (In-fired vs w h)
  where
    or_right_true : (a b : Bool) → b ≡ true → (a || b) ≡ true
    or_right_true true b e = refl
    or_right_true false b e = e

-- ---- the links that reached cell c: those whose message came, and those that were bumped here
abbrev pub came_to : Plan → ℕ → List Came → List ℕ
came_to p c cs = map link_of (filter (to_cell p c) cs)

abbrev pub link_along : RankOp → ℕ
link_along (ForLink l) = l
link_along (ForDone c) = 0

abbrev pub bumped_to : Plan → ℕ → List RankOp → List ℕ
bumped_to p c ws = map link_along (filter (bumps p c) ws)

abbrev pub reached_by : Plan → ℕ → Seen → List ℕ
reached_by p c g = came_to p c g.came ++ bumped_to p c g.fired

pub length-reached_by : (p : Plan) (c : ℕ) (g : Seen) → length (reached_by p c g) ≡ count_by (to_cell p c) g.came + count_by (bumps p c)
    g.fired
length-reached_by p c g = rw (length-append, length-map', length-map', length-filter, length-filter) refl

bumps-is : (p : Plan) (c : ℕ) (w : RankOp) → bumps p c w ≡ true → (l : ℕ) × (w ≡ ForLink l) × (is_bump (link p l).kind ≡ true) ×
    ((link p l).target ≡ c)
bumps-is p c (ForLink l) e = let q = and_parts _ _ e in (l, refl, q.0, eqb-true _ _ q.1)
bumps-is p c (ForDone d) e = cc

-- what is known of a rank's operations that were fired
pub record Ours (p : Plan) (r : ℕ) (ws : List RankOp) : Type 0 where
  pub ours : Within ws (rank_ops p r)
  pub once : Distinct ws

pub came_to-In : (p : Plan) (c : ℕ) (cs : List Came) (l : ℕ) → In l (came_to p c cs) → (a : Came) × In a cs × (a.link ≡ l) ×
    ((link p l).target ≡ c)
came_to-In p c cs l h =
    let k = In-map_cases link_of l (filter (to_cell p c) cs) h in
    let q = In-filter_cases (to_cell p c) k.0 cs k.1 in
    (k.0, q.0, k.2, subst (λ m. (link p m).target ≡ c) k.2 (eqb-true _ _ q.1))

pub In-came_to : (p : Plan) (c : ℕ) (cs : List Came) (a : Came) → In a cs → (link p a.link).target ≡ c → In a.link (came_to p c cs)
In-came_to p c cs a h e = In-map link_of a (filter (to_cell p c) cs) (In-filter (to_cell p c) a cs h (eq-eqb _ _ e))

pub bumped_to-In : (p : Plan) (c : ℕ) (ws : List RankOp) (l : ℕ) → In l (bumped_to p c ws) → In (ForLink l) ws ×
    (is_bump (link p l).kind ≡ true) × ((link p l).target ≡ c)
bumped_to-In p c ws l h =
    let k = In-map_cases link_along l (filter (bumps p c) ws) h in
    let q = In-filter_cases (bumps p c) k.0 ws k.1 in
    let b = bumps-is p c k.0 q.1 in
    let i : b.0 ≡ l = sym (ap link_along b.1) ∙ k.2 in (
      subst (λ m. In (ForLink m) ws) i (subst (λ w. In w ws) b.1 q.0),
      subst (λ m. is_bump (link p m).kind ≡ true) i b.2,
      subst (λ m. (link p m).target ≡ c) i b.3,
    )

pub In-bumped_to : (p : Plan) (c : ℕ) (ws : List RankOp) (l : ℕ) → In (ForLink l) ws → is_bump (link p l).kind ≡ true →
    (link p l).target ≡ c → In l (bumped_to p c ws)
In-bumped_to p c ws l h b e = In-map link_along (ForLink l) (filter (bumps p c) ws)
    (In-filter (bumps p c) (ForLink l) ws h (and_true _ _ b (eq-eqb _ _ e)))
  where
    and_true : (a b : Bool) → a ≡ true → b ≡ true → (a && b) ≡ true
    and_true true b e i = i
    and_true false b e i = e

-- ---- all incoming links
pub Distinct-map_filter : {X Y : Type 0} (f : X → Y) (t : X → Bool) (xs : List X) → Distinct (map f xs) → Distinct (map f (filter t xs))
Distinct-map_filter f t [] d = tt
Distinct-map_filter f t (x ∷ xs) d = at (t x) (Distinct-map_filter f t xs d.1)
  where
    at : (b : Bool) → Distinct (map f (filter t xs)) → Distinct (map f (cond b (x ∷ filter t xs) (filter t xs)))
    at true rest = (
      (λ h. let k = In-map_cases f (f x) (filter t xs) h in let q = In-filter_cases t k.0 xs k.1 in
          d.0 (subst (λ v. In v (map f xs)) k.2 (In-map f k.0 xs q.0))),
      rest,
    )
    at false rest = rest

along_bumped : (p : Plan) (c : ℕ) (a b : RankOp) → bumps p c a ≡ true → bumps p c b ≡ true → link_along a ≡ link_along b → a ≡ b
along_bumped p c (ForLink l) (ForLink m) i j e = ap ForLink e
along_bumped p c (ForLink l) (ForDone d) i j e = cc
along_bumped p c (ForDone d) b i j e = cc

Distinct-reached_by : (p : Plan) (r c : ℕ) (g : Seen) → Proper p r g → Ours p r g.fired → Distinct (reached_by p c g)
Distinct-reached_by p r c g proper mine =
    Distinct-append (came_to p c g.came) (bumped_to p c g.fired)
    (Distinct-map_filter link_of (to_cell p c) g.came proper.once)
    (Distinct-map link_along (filter (bumps p c) g.fired) (Distinct-filter (bumps p c) g.fired mine.once)
    (λ a b i j e. along_bumped p c a b (In-filter_cases (bumps p c) a g.fired i).1 (In-filter_cases (bumps p c) b g.fired j).1 e))
    (λ l i j.
    let k = came_to-In p c g.came l i in
    let q = bumped_to-In p c g.fired l j in
    let n = subst (λ m. is_bump (link p m).kind ≡ false) k.2 (proper.links k.0 k.1).1 in
    both q.1 n)
  where
    both : {b : Bool} → b ≡ true → b ≡ false → ⊥
    both e i = cc

reached_by-in : (p : Plan) (r c : ℕ) (g : Seen) → Proper p r g → Ours p r g.fired → Within (reached_by p c g) (in_links p c)
reached_by-in p r c g proper mine l h =
    elim (In-append_cases l (came_to p c g.came) (bumped_to p c g.fired) h) [
      | inl i ↦ (let k = came_to-In p c g.came l i in In-in_links p c l (subst (λ m. m < length p.links) k.2 (proper.links k.0 k.1).0) k.3)
      | inr i ↦ (let q = bumped_to-In p c g.fired l i in In-in_links p c l
          (out_links-In p r l (rank_ops-along p r l (mine.ours (ForLink l) q.0))).0 q.2)
    ]

pub count_unless_go : (p : Plan) (g : Seen) (r c : ℕ) → r < c → reached_count p g r c ≡ count_by (to_cell p c) g.came + count_by
    (bumps p c) g.fired
count_unless_go p g r c h =
    let e : (c == r) ≡ false = ne_eqb c r (λ i. omega arith) in
    rw e (omega arith)

enough : (p : Plan) (inputs : Inputs) → SoundPlan p (length inputs) → (r c : ℕ) (g : Seen) → r < p.ranks → c < length p.cells →
    (cell p c).needs ≤ reached_count p g r c → length (in_links p c) ≤ length (reached_by p c g)
enough p inputs sound r c g in_range h n = elim (cases_lt c p.ranks) [
  | inl l ↦ (let e : in_links p c ≡ [] = (sound.go_needs c l).1 in rw e zero-le)
  | inr l ↦ (let e = sound.needs c h l in let k = count_unless_go p g r c (omega arith) in let q = length-reached_by p c g in omega arith)
]

-- the links of a cell that has reached its needs have all come
pub all_in : (p : Plan) (inputs : Inputs) → SoundPlan p (length inputs) → (r c : ℕ) (g : Seen) → r < p.ranks → c < length p.cells →
    Proper p r g → Ours p r g.fired → (cell p c).needs ≤ reached_count p g r c → Within (in_links p c) (reached_by p c g)
all_in p inputs sound r c g in_range h proper mine n =
    all_Within (reached_by p c g) (in_links p c) (Distinct-reached_by p r c g proper mine) (reached_by-in p r c g proper mine)
    (enough p inputs sound r c g in_range h n)

-- ---- the value

-- what came to cell c is what its links carry
abbrev pub Good : Plan → Inputs → ℕ → Seen → Type 0
Good p inputs c g = (a : Came) → In a g.came → (link p a.link).target ≡ c → a.bytes ≡ due p inputs a.link

content-each : (p : Plan) (inputs : Inputs) (c : ℕ) (cs : List Came) →
    ((a : Came) → In a cs → (link p a.link).target ≡ c → a.bytes ≡ due p inputs a.link) → (x : List ℕ) →
    content p cs c x ≡ each (step p inputs) (came_to p c cs) x
content-each p inputs c [] good x = refl
content-each p inputs c (a ∷ cs) good x = at (to_cell p c a) refl (content-each p inputs c cs (λ b i. good b (inr i)))
  where
    at : (b : Bool) → to_cell p c a ≡ b → ((y : List ℕ) → content p cs c y ≡ each (step p inputs) (came_to p c cs) y)
        → content p cs c (cond b (land p a.link a.bytes x) x) ≡ each (step p inputs)
        (map link_of (cond b (a ∷ filter (to_cell p c) cs) (filter (to_cell p c) cs))) x
    at true e rest = rest (land p a.link a.bytes x) ∙ ap (λ v. each (step p inputs) (came_to p c cs) (land p a.link v x))
        (good a (inl refl) (eqb-true _ _ e))
    at false e rest = rest x

bump_idle : (k : LinkKind) (t : Cell) (at : ℕ) (bytes x : List ℕ) → is_bump k ≡ true → land_as k t at bytes x ≡ x
bump_idle Put t at bytes x e = cc
bump_idle Atomic t at bytes x e = cc
bump_idle Bump t at bytes x e = refl

each-idle : {X Z : Type 0} (f : X → Z → Z) (xs : List X) → ((a : X) (z : Z) → In a xs → f a z ≡ z) → (z : Z) → each f xs z ≡ z
each-idle f [] idle z = refl
each-idle f (x ∷ xs) idle z = ap (each f xs) (idle x z (inl refl)) ∙ each-idle f xs (λ a v i. idle a v (inr i)) z

due-length : (p : Plan) (inputs : Inputs) → SoundPlan p (length inputs) → AreInputsOf p inputs → (l : ℕ) → l < length p.links →
    length (due p inputs l) ≡ (link p l).length
due-length p inputs sound fit l h =
    let s = sound.links_sound l h in
    let up = s.rising in
    let top = s.cells in
    length-due p inputs l s (length-value p inputs sound fit (link p l).source (omega arith))

keeps : (p : Plan) (inputs : Inputs) → SoundPlan p (length inputs) → AreInputsOf p inputs → (c l : ℕ) (z : List ℕ) →
    (l < length p.links) × ((link p l).target ≡ c) → length z ≡ (cell p c).length → length (step p inputs l z) ≡ (cell p c).length
keeps p inputs sound fit c l z h e =
    let s = sound.links_sound l h.0 in
    subst (λ d. length z ≡ (cell p d).length → length (step p inputs l z) ≡ (cell p d).length) h.1
    (length-land (cell p (link p l).target) (link p l).kind (link p l).target_offset (due p inputs l) z
    (sound.whole (link p l).target s.cells) (Lands-of p l s (due p inputs l) (due-length p inputs sound fit l h.0))) e

apart_swap : CombineSwaps → (p : Plan) (inputs : Inputs) → SoundPlan p (length inputs) → AreInputsOf p inputs → (c l m : ℕ) (z : List ℕ) →
    (l < length p.links) × ((link p l).target ≡ c) → (m < length p.links) × ((link p m).target ≡ c) → (l ≡ m → ⊥) →
    length z ≡ (cell p c).length
    → step p inputs l (step p inputs m z) ≡ step p inputs m (step p inputs l z)
apart_swap swaps p inputs sound fit c l m z h k differ e =
    let s = sound.links_sound l h.0 in
    let t = sound.links_sound m k.0 in
    let el = due-length p inputs sound fit l h.0 in
    let em = due-length p inputs sound fit m k.0 in
    let same : (link p m).target ≡ (link p l).target = k.1 ∙ sym h.1 in
    let q = land_swaps swaps (cell p (link p l).target) (link p l).kind (link p m).kind (link p l).target_offset (link p m).target_offset
    (due p inputs l) (due p inputs m) z
    (sound.whole (link p l).target s.cells) (Lands-of p l s (due p inputs l) el)
    (subst (λ d. Lands (cell p d) (link p m).kind (link p m).target_offset (due p inputs m)) same (Lands-of p m t (due p inputs m) em))
    (λ i j. let a = sound.apart l m h.0 k.0 differ (sym same) i j in
    elim a [ inl v ↦ inl (omega (arith, el)) | inr v ↦ inr (omega (arith, em)) ])
    (e ∙ ap (λ d. (cell p d).length) (sym h.1)) in
    subst (λ d. land p l (due p inputs l) (land_as (link p m).kind (cell p d) (link p m).target_offset (due p inputs m) z) ≡ land_as
    (link p m).kind (cell p d) (link p m).target_offset (due p inputs m) (land p l (due p inputs l) z)) (sym same) q

may_swap : CombineSwaps → (p : Plan) (inputs : Inputs) → SoundPlan p (length inputs) → AreInputsOf p inputs → (c l m : ℕ) (z : List ℕ) →
    (l < length p.links) × ((link p l).target ≡ c) → (m < length p.links) × ((link p m).target ≡ c) → length z ≡ (cell p c).length
    → step p inputs l (step p inputs m z) ≡ step p inputs m (step p inputs l z)
may_swap swaps p inputs sound fit c l m z h k e = elim (cases_eq l m) [
  | inl i ↦ subst (λ n. step p inputs l (step p inputs n z) ≡ step p inputs n (step p inputs l z)) i refl
  | inr i ↦ apart_swap swaps p inputs sound fit c l m z h k i e
]

pub holds_value : CombineSwaps → (p : Plan) (inputs : Inputs) → SoundPlan p (length inputs) → AreInputsOf p inputs
    → (r c : ℕ) (g : Seen) → r < p.ranks → c < length p.cells → Proper p r g → Ours p r g.fired → Good p inputs c g
    → (cell p c).needs ≤ reached_count p g r c → content p g.came c (initial p inputs c) ≡ value p inputs c
holds_value swaps p inputs sound fit r c g in_range h proper mine good n =
    content-each p inputs c g.came good (initial p inputs c)
    ∙ sym (each-idle (step p inputs) (bumped_to p c g.fired)
    (λ l z i. bump_idle (link p l).kind (cell p (link p l).target) (link p l).target_offset (due p inputs l) z
    (bumped_to-In p c g.fired l i).1) (each (step p inputs) (came_to p c g.came) (initial p inputs c)))
    ∙ sym (each-append (step p inputs) (came_to p c g.came) (bumped_to p c g.fired) (initial p inputs c))
    ∙ each_same (step p inputs) (λ z. length z ≡ (cell p c).length) (reached_by p c g) (in_links p c)
    (Distinct-reached_by p r c g proper mine) (reached_by-in p r c g proper mine) (enough p inputs sound r c g in_range h n)
    (λ l z i e. keeps p inputs sound fit c l z (in_links-In p c l i) e)
    (λ l m z i j e. may_swap swaps p inputs sound fit c l m z (in_links-In p c l i) (in_links-In p c m j) e)
    (initial p inputs c) (length-initial p inputs sound fit c h)
    ∙ sym (value-eq p inputs sound.links_sound c)
