-- A broadcast is sound, and each place has what the root holds.
use Rattle.std.proofs.Common.{ℕ, Bool, true, false, cond, ◌+◌, ◌%◌, ◌≡◌, ◌<◌, ◌==◌, List, refl, length, map, ap, ◌∙◌, sym, subst, arith}
use Rattle.std.proofs.Common.{eqb-true, eq-eqb, zero, suc, ◌-◌, ◌*◌, ◌≤◌, ap₂}
use Rattle.plan_core.specs.Draw.{NewCell, cell_of, links_of, bytes_in}
use Rattle.plan_core.specs.declared.Cell.{Cell}
use Rattle.plan_steps.proofs.CellKinds.{bumped-sound, copying-sound}
use Rattle.plan_steps.proofs.Entries.{Ground, HasA, IsCell, Known, behind, both_parts, each_places, entry-value, of_places}
use Rattle.plan_steps.proofs.Trees.{down, down-sound, down-value, turned-lt, unturned-lt}
use Rattle.plan_steps.specs.Collectives.Broadcast.{broadcast_cells, copy_cell, first_cell}
use Rattle.plan_steps.specs.StepContext.{StepContext, bare_entry, count, entry, full_entry, further, places, rank_at, exit_at, source_at}
use Rattle.plan_steps.specs.Sounding.{EachAt, SoundNewCell}
use Rattle.plan_steps.specs.Trees.{turned, unturned}
use Rattle.ptl_types.specs.Operations.{bytes_of}
use Rattle.plan_steps.proofs.StepSizes.{links-append, bytes-append, bytes-row, links-one, first-bytes}
use Rattle.std.proofs.lemmas.Bool.{ne_eqb}

module _ (k : ℕ → Cell) (s : StepContext) (root : ℕ) (root_in : root < count s) where
  abbrev first_node : ℕ → NewCell
  first_node i = cond (i == root) (full_entry s i) (bare_entry s i)

  entry_rank : (i : ℕ) → k (entry s i) ≡ cell_of (first_node i) → (k (entry s i)).rank ≡ rank_at s i
  entry_rank i e = ap (λ (c : Cell). c.rank) e ∙ at (i == root)
    where
      at : (b : Bool) → (cell_of (cond b (full_entry s i) (bare_entry s i))).rank ≡ rank_at s i
      at true = refl
      at false = refl

  root_node : first_node root ≡ full_entry s root
  root_node = ap (λ b. cond b (full_entry s root) (bare_entry s root)) (eq-eqb root root refl)

  abbrev base : ℕ
  base = s.first + (count s + 0)

  shift : (P : ℕ → NewCell → Type 0) (ns : List NewCell) → EachAt P (s.first + count s) ns → EachAt P (further s 0) ns
  shift P ns h = subst (λ c. EachAt P c ns) (let e : s.first + count s ≡ s.first + (count s + 0) = omega arith in e) h

  unshift : (P : ℕ → NewCell → Type 0) (ns : List NewCell) → EachAt P (further s 0) ns → EachAt P (s.first + count s) ns
  unshift P ns h = subst (λ c. EachAt P c ns) (let e : s.first + (count s + 0) ≡ s.first + count s = omega arith in e) h

  abbrev down_part : List NewCell
  down_part = down s root (further s 0) (entry s root) (λ v. entry s (turned s root v))

  pub broadcast-sound : (ranks : ℕ) → Ground ranks k s → s.length % bytes_of s.ty ≡ 0 → HasA k s root →
      EachAt (IsCell k) s.first (broadcast_cells s root) → EachAt (SoundNewCell ranks k) s.first (broadcast_cells s root)
  broadcast-sound ranks ground whole has cells =
      let firsts = Rattle.plan_steps.proofs.Drawn.each_front (IsCell k) s.first (map first_node (places s)) down_part cells in
      let cell_at : (i : ℕ) → i < count s → k (entry s i) ≡ cell_of (first_node i) =
      λ i h. (of_places (IsCell k) s s.first first_node firsts i h).is_cell in
      both_parts (SoundNewCell ranks k) s s.first first_node down_part
      (each_places (SoundNewCell ranks k) s s.first first_node (λ i h. one i h (i == root) refl))
      (unshift (SoundNewCell ranks k) down_part
      (down-sound k s root (further s 0) (entry s root) (λ v. entry s (turned s root v)) ranks ground.some ground.members whole
      (omega arith)
      (ap (λ (c : Cell). c.length) (cell_at root root_in ∙ ap cell_of root_node))
      (λ v h. let l = turned-lt s root v ground.some in (omega arith, entry_rank (turned s root v) (cell_at (turned s root v) l)))
      (shift (IsCell k) down_part (behind (IsCell k) s s.first first_node down_part cells))))
    where
      one : (i : ℕ) → i < count s → (b : Bool) → (i == root) ≡ b →
          SoundNewCell ranks k (s.first + i) (cond b (full_entry s i) (bare_entry s i))
      one i h true e =
          let q : i ≡ root = eqb-true _ _ e in
          let a : HasA k s i = subst (HasA k s) (sym q) has in
          let l = a.low in let x = ground.exit_low i h in
          copying-sound ranks k (s.first + i) s.ty s.length (rank_at s i) (exit_at s i) (source_at s i) (ground.members i h) whole
          (omega arith) (ground.exit_rank i h) (omega arith) a.long
      one i h false e = let x = ground.exit_low i h in bumped-sound ranks k (s.first + i) (rank_at s i) (exit_at s i) (ground.members i h)
          (omega arith) (ground.exit_rank i h)

  -- each place has what the root holds
  pub broadcast-value : (val : ℕ → List ℕ) → 0 < count s → length (val (source_at s root)) ≡ s.length →
      EachAt (Known k val) s.first (broadcast_cells s root) → (i : ℕ) → i < count s →
      val (further s (unturned s root i)) ≡ val (source_at s root)
  broadcast-value val pos long known i h =
      let firsts = Rattle.plan_steps.proofs.Drawn.each_front (Known k val) s.first (map first_node (places s)) down_part known in
      let at_root : Known k val (entry s root) (full_entry s root) =
      subst (Known k val (entry s root)) root_node (of_places (Known k val) s s.first first_node firsts root root_in) in
      ap val (let e : s.first + (count s + unturned s root i) ≡ s.first + (count s + 0) + unturned s root i = omega arith in e)
      ∙ down-value k s root (further s 0) (entry s root) (λ v. entry s (turned s root v)) val
      (shift (Known k val) down_part (behind (Known k val) s s.first first_node down_part known)) at_root.is_long (unturned s root i)
      (unturned-lt s root i pos)
      ∙ entry-value k val s root at_root long

-- ---- its links and bytes, in closed form
pub broadcast-links : (s : StepContext) (root : ℕ) → root < count s →
    links_of (broadcast_cells s root) ≡ count s + 1 + (1 + 2 * (count s - 1))
broadcast-links s root h =
    let m = count s in
    let a = links-append (map (first_cell s root) (places s)) (map (copy_cell s root) (places s)) in
    let b = links-one (first_cell s root) 0 m root 2 1 (let z : 0 ≤ root = omega arith in z) (let z : root < 0 + m = omega arith in z)
    (ap (λ t. length (cond t (full_entry s root) (bare_entry s root)).into) (eq-eqb root root refl))
    (λ i n. ap (λ t. length (cond t (full_entry s i) (bare_entry s i)).into) (ne_eqb _ _ n)) in
    let c = links-one (copy_cell s root) 0 m 0 1 2 (let z : 0 ≤ 0 = omega arith in z) (let z : 0 < 0 + m = omega arith in z) refl
    (λ i n. further-two i n) in
    let q : m * 1 ≡ m = omega arith in
    let r : m * 2 ≡ m + m = omega arith in
    omega (arith, a, b, c, q, r)
  where
    further-two : (i : ℕ) → (i ≡ 0 → ⊥) → length (copy_cell s root i).into ≡ 2
    further-two zero n = absurd (n refl)
    further-two (suc i) n = refl

pub broadcast-bytes : (s : StepContext) (root : ℕ) → root < count s → bytes_in (broadcast_cells s root) ≡ s.length + count s * s.length
broadcast-bytes s root h =
    bytes-append (map (first_cell s root) (places s)) (map (copy_cell s root) (places s))
    ∙ ap₂ (λ x y. x + y) (first-bytes s root h) (bytes-row (copy_cell s root) 0 (count s) s.length (λ i. refl))
