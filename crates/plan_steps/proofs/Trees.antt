-- Places turned round, and the ways down and up a tree: sound, and what they hold.
use Rattle.std.proofs.Common.{ℕ, zero, suc, Bool, true, false, cond, ◌+◌, ◌-◌, ◌%◌, ◌^◌, ◌≡◌, ◌≤◌, ◌<◌, ◌==◌, List, ◌∷◌, ◌++◌, refl, length}
use Rattle.std.proofs.Common.{map, filter, ap, ◌∙◌, sym, subst, inl, inr, arith, nat_le, mod-lt, pow_pos}
use Rattle.coll_shape.specs.Folding.{folded}
use Rattle.plan_core.proofs.Links.{from_to-In}
use Rattle.plan_core.proofs.Lists.{In-filter_cases, In-map_cases}
use Rattle.plan_core.specs.Draw.{NewCell, cell_of}
use Rattle.plan_core.specs.Members.{In}
use Rattle.plan_core.specs.Plan.{from_to}
use Rattle.plan_core.specs.declared.Cell.{Cell}
use Rattle.plan_steps.proofs.CellKinds.{combining-sound, combining-value, copying-sound, copying-value, taking-sound, taking-value}
use Rattle.plan_steps.proofs.Drawn.{each_front}
use Rattle.plan_steps.proofs.Entries.{IsCell, Known, each_places, entry-value, of_places}
use Rattle.plan_steps.proofs.Folds.{Turned, folded-same, folded-turned, map-map, tree_sum, turn}
use Rattle.plan_steps.proofs.Folds.Turned.{Above, Below}
use Rattle.plan_steps.specs.StepContext.{StepContext, count, entries, entry, full_entry, holding, places, rank_at, source_at}
use Rattle.plan_steps.specs.Sounding.{EachAt, SoundNewCell}
use Rattle.plan_steps.specs.Trees.{children, cleared, down_links, parent, turned, unturned, up, up_cell, up_number, down_cell}
use Rattle.ptl_types.specs.Elements.{starting}
use Rattle.ptl_types.specs.Operations.{bytes_of}
use Rattle.ptl_types.specs.declared.elements.AtomicOp.{AtomicOp}
use Rattle.std.proofs.lemmas.Bool.{leb-true}

-- the cells of the way down
abbrev pub down : StepContext → ℕ → ℕ → ℕ → (ℕ → ℕ) → List NewCell
down s root base top below = map (λ v. down_cell s root base top (below v) v) (places s)

-- ---- places turned round
pub turned-lt : (s : StepContext) (root v : ℕ) → 0 < count s → turned s root v < count s
turned-lt s root v pos = mod-lt (root + v) pos

pub turned-one : (s : StepContext) (root : ℕ) → root < count s → (v w : ℕ) → v < count s → w < count s →
    turned s root v ≡ turned s root w → v ≡ w
turned-one s root r v w h i e = at (turn root v (count s) r (let l : v ≤ count s = omega arith in l))
    (turn root w (count s) r (let l : w ≤ count s = omega arith in l))
  where
    at : Turned root v (count s) → Turned root w (count s) → v ≡ w
    at (Below a x) (Below b y) = omega (arith, x, y, e)
    at (Below a x) (Above b y) = omega (arith, x, y, e)
    at (Above a x) (Below b y) = omega (arith, x, y, e)
    at (Above a x) (Above b y) = omega (arith, x, y, e)

pub turned-back : (s : StepContext) (root : ℕ) → root < count s → (i : ℕ) → i < count s → turned s root (unturned s root i) ≡ i
turned-back s root r i h = at (turn i (count s - root) (count s) h (omega arith))
    (turn root (unturned s root i) (count s) r (let l = mod-lt (i + (count s - root)) (let pos : 0 < count s = omega arith in pos) in
    omega arith))
  where
    at : Turned i (count s - root) (count s) → Turned root (unturned s root i) (count s) → turned s root (unturned s root i) ≡ i
    at (Below a x) (Below b y) = omega (arith, x, y)
    at (Below a x) (Above b y) = omega (arith, x, y)
    at (Above a x) (Below b y) = omega (arith, x, y)
    at (Above a x) (Above b y) = omega (arith, x, y)

pub unturned-lt : (s : StepContext) (root i : ℕ) → 0 < count s → unturned s root i < count s
unturned-lt s root i pos = mod-lt (i + (count s - root)) pos

cleared-lower : (k v : ℕ) → 0 < v → cleared k v < v
cleared-lower zero v h = h
cleared-lower (suc k) v h = at (nat_le (2 ^ k) v) refl (cleared-lower k v h)
  where
    at : (b : Bool) → nat_le (2 ^ k) v ≡ b → cleared k v < v → cond b (v - 2 ^ k) (cleared k v) < v
    at true e l = let p : 0 < 2 ^ k = pow_pos k in let i = leb-true _ _ e in omega arith
    at false e l = l

pub parent-lower : (v : ℕ) → 0 < v → parent v < v
unfolding parent
parent-lower v h = cleared-lower 8 v h

-- ---- down a tree
module _ (k : ℕ → Cell) (s : StepContext) (root base top : ℕ) (below : ℕ → ℕ) where
  abbrev down_node : ℕ → NewCell
  down_node v = holding s s.length (rank_at s (turned s root v)) (down_links s base top (below v) v)

  pub down-sound : (ranks : ℕ) → 0 < count s → ((i : ℕ) → i < count s → rank_at s i < ranks) → s.length % bytes_of s.ty ≡ 0 → top < base →
      (k top).length ≡ s.length
      → ((v : ℕ) → v < count s → (below v < base) × ((k (below v)).rank ≡ rank_at s (turned s root v)))
      → EachAt (IsCell k) base (down s root base top below) → EachAt (SoundNewCell ranks k) base (down s root base top below)
  down-sound ranks pos known whole low long under cells = each_places (SoundNewCell ranks k) s base down_node one
    where
      one : (v : ℕ) → v < count s → SoundNewCell ranks k (base + v) (down_node v)
      one zero h = taking-sound ranks k (base + 0) s.ty s.length (rank_at s (turned s root 0)) top (known _ (turned-lt s root 0 pos))
          whole (omega arith) long
      one (suc v) h =
          let u = under (suc v) h in
          let l = parent-lower (suc v) (omega arith) in
          copying-sound ranks k (base + suc v) s.ty s.length (rank_at s (turned s root (suc v))) (below (suc v)) (base + parent (suc v))
          (known _ (turned-lt s root (suc v) pos)) whole
          (let a = u.0 in omega arith) u.1 (omega arith)
          (ap (λ (c : Cell). c.length) (of_places (IsCell k) s base down_node cells (parent (suc v)) (omega arith)).is_cell)

  pub down-cell : EachAt (IsCell k) base (down s root base top below) → (v : ℕ) → v < count s → k (base + v) ≡ cell_of (down_node v)
  down-cell cells v h = (of_places (IsCell k) s base down_node cells v h).is_cell

  module _ (val : ℕ → List ℕ) (known : EachAt (Known k val) base (down s root base top below)) (top_long : length (val top) ≡ s.length)
    where
      down_below : (n v : ℕ) → v < n → v < count s → val (base + v) ≡ val top
      down_below zero v h l = absurd (omega arith)
      down_below (suc n) zero h l = (of_places (Known k val) s base down_node known 0 l).is_value
          ∙ taking-value s.ty s.length (rank_at s (turned s root 0)) top val top_long
      down_below (suc n) (suc v) h l =
          let p = parent-lower (suc v) (omega arith) in
          (of_places (Known k val) s base down_node known (suc v) l).is_value
          ∙ copying-value s.ty s.length (rank_at s (turned s root (suc v))) (below (suc v)) (base + parent (suc v)) val
          (of_places (Known k val) s base down_node known (parent (suc v)) (omega arith)).is_long
          ∙ down_below n (parent (suc v)) (omega arith) (omega arith)

      -- each place has what the top has
      pub down-value : (v : ℕ) → v < count s → val (base + v) ≡ val top
      down-value v h = down_below (suc v) v (omega arith) h

-- ---- up a tree
module _ (k : ℕ → Cell) (s : StepContext) (root : ℕ) (o : AtomicOp) where
  abbrev falling : ℕ → NewCell
  falling j = up_cell s root o (count s - 1 - j)

  pub up-at : (P : ℕ → NewCell → Type 0) → EachAt P (s.first + count s) (up s root o) → (v : ℕ) → v < count s →
      P (up_number s v) (up_cell s root o v)
  up-at P h v l =
      let r = of_places P s (s.first + count s) falling h (count s - 1 - v) (omega arith) in
      subst (λ c. P c (up_cell s root o v)) (let e : s.first + count s + (count s - 1 - v) ≡ s.first + (count s + (count s - 1 - v)) =
      omega arith in e)
      (subst (λ w. P (s.first + count s + (count s - 1 - v)) (up_cell s root o w)) (let e : count s - 1 - (count s - 1 - v) ≡ v =
      omega arith in e) r)

  pub up-sound : (ranks : ℕ) → 0 < count s → ((i : ℕ) → i < count s → rank_at s i < ranks) → s.length % bytes_of s.ty ≡ 0 →
      ((i : ℕ) → i < count s → k (entry s i) ≡ cell_of (full_entry s i))
      → EachAt (IsCell k) (s.first + count s) (up s root o) → EachAt (SoundNewCell ranks k) (s.first + count s) (up s root o)
  up-sound ranks pos known whole ent cells = each_places (SoundNewCell ranks k) s (s.first + count s) falling
      (λ j h. let v = count s - 1 - j in
      combining-sound ranks k (s.first + count s + j) o s.ty s.length (rank_at s (turned s root v)) (entry s (turned s root v))
      (map (up_number s) (children v (suc v) (count s - suc v))) (known _ (turned-lt s root v pos)) whole
      (λ c i. source j h c i))
    where
      source : (j : ℕ) → j < count s → (c : ℕ) → In c (entry s (turned s root (count s - 1 - j)) ∷ map (up_number s)
          (children (count s - 1 - j) (suc (count s - 1 - j)) (count s - suc (count s - 1 - j)))) → (c < s.first + count s + j) ×
          ((k c).ty ≡ s.ty) × ((k c).length ≡ s.length)
      source j h c (inl e) =
          let l = turned-lt s root (count s - 1 - j) pos in
          let q = ent (turned s root (count s - 1 - j)) l in
          subst (λ c. (c < s.first + count s + j) × ((k c).ty ≡ s.ty) × ((k c).length ≡ s.length)) e
          (omega arith, ap (λ (x : Cell). x.ty) q, ap (λ (x : Cell). x.length) q)
      source j h c (inr i) =
          let r = In-map_cases (up_number s) c (children (count s - 1 - j) (suc (count s - 1 - j)) (count s - suc (count s - 1 - j))) i in
          let w = In-filter_cases _ r.0 (from_to (suc (count s - 1 - j)) (count s - suc (count s - 1 - j))) r.1 in
          let b = from_to-In (suc (count s - 1 - j)) (count s - suc (count s - 1 - j)) r.0 w.0 in
          let q = (up-at (IsCell k) cells r.0 (omega arith)).is_cell in
          subst (λ c. (c < s.first + count s + j) × ((k c).ty ≡ s.ty) × ((k c).length ≡ s.length)) r.2
          (omega arith, ap (λ (x : Cell). x.ty) q, ap (λ (x : Cell). x.length) q)

  -- C(0) has the fold of all places, in order
  pub up-value : (val x : ℕ → List ℕ) → root < count s → s.length % bytes_of s.ty ≡ 0 →
      ((i : ℕ) → i < count s → (val (entry s i) ≡ x i) × (length (val (entry s i)) ≡ s.length))
      → EachAt (Known k val) (s.first + count s) (up s root o) → val (up_number s 0) ≡ folded o s.ty (map x (from_to 0 (count s)))
      (starting o s.ty s.length)
  up-value val x root_in whole ent known =
      let pos : 0 < count s = omega arith in
      tree_sum o s.ty s.length (count s) whole parent parent-lower (λ v. val (entry s (turned s root v))) (λ v. val (up_number s v)) sums
      pos
      ∙ folded-same o s.ty (λ v. val (entry s (turned s root v))) (λ v. x (turned s root v)) (from_to 0 (count s))
      (starting o s.ty s.length) (λ v i. (ent (turned s root v) (turned-lt s root v pos)).0)
      ∙ folded-turned o s.ty x (turned s root) (count s) (starting o s.ty s.length) (λ v h. turned-lt s root v pos)
      (turned-one s root root_in)
    where
      sums : (v : ℕ) → v < count s → val (up_number s v) ≡ folded o s.ty
          (val (entry s (turned s root v)) ∷ map (λ v. val (up_number s v))
          (filter (λ w. parent w == v) (from_to (suc v) (count s - suc v)))) (starting o s.ty s.length)
      sums v h =
          (up-at (Known k val) known v h).is_value
          ∙ combining-value o s.ty s.length (rank_at s (turned s root v))
          (entry s (turned s root v) ∷ map (up_number s) (children v (suc v) (count s - suc v))) val whole (λ c i. long v h c i)
          ∙ ap (λ xs. folded o s.ty (val (entry s (turned s root v)) ∷ xs) (starting o s.ty s.length))
          (sym (map-map o s.ty val (up_number s) (children v (suc v) (count s - suc v))))
        where
          long : (v : ℕ) → v < count s → (c : ℕ) → In c (entry s (turned s root v) ∷ map (up_number s)
              (children v (suc v) (count s - suc v))) → length (val c) ≡ s.length
          long v h c (inl e) = subst (λ c. length (val c) ≡ s.length) e
              (ent (turned s root v) (turned-lt s root v (let pos : 0 < count s = omega arith in pos))).1
          long v h c (inr i) =
              let r = In-map_cases (up_number s) c (children v (suc v) (count s - suc v)) i in
              let w = In-filter_cases _ r.0 (from_to (suc v) (count s - suc v)) r.1 in
              let b = from_to-In (suc v) (count s - suc v) r.0 w.0 in
              subst (λ c. length (val c) ≡ s.length) r.2 (up-at (Known k val) known r.0 (omega arith)).is_long

-- ---- entries
pub entry-cells : (k : ℕ → Cell) (s : StepContext) (ns : List NewCell) → EachAt (IsCell k) s.first (entries s ++ ns) → (i : ℕ) →
    i < count s → k (entry s i) ≡ cell_of (full_entry s i)
entry-cells k s ns cells i h = (of_places (IsCell k) s s.first (full_entry s) (each_front (IsCell k) s.first (entries s) ns cells) i
    h).is_cell

pub entry-known : (k : ℕ → Cell) (val x : ℕ → List ℕ) (s : StepContext) (ns : List NewCell) →
    EachAt (Known k val) s.first (entries s ++ ns) → ((i : ℕ) → i < count s → (val (source_at s i) ≡ x i) ×
    (length (val (source_at s i)) ≡ s.length))
    → (i : ℕ) → i < count s → (val (entry s i) ≡ x i) × (length (val (entry s i)) ≡ s.length)
entry-known k val x s ns known has i h =
    let e = of_places (Known k val) s s.first (full_entry s) (each_front (Known k val) s.first (entries s) ns known) i h in
    let a = has i h in
    (entry-value k val s i e a.1 ∙ a.0, e.is_long)
