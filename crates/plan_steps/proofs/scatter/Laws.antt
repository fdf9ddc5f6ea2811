-- A scatter is sound, and each place has its block of the root's list.
use Rattle.std.proofs.Common.{ℕ, Bool, true, false, cond, ◌+◌, ◌*◌, ◌%◌, ◌≡◌, ◌≤◌, ◌<◌, ◌==◌, List, [], ◌∷◌, refl, length, map, ap, ◌∙◌}
use Rattle.std.proofs.Common.{sym, subst, arith, eqb-true, eq-eqb, ◌-◌, ap₂, ◌/◌}
use Rattle.plan_core.specs.Draw.{NewCell, cell_of, links_of, bytes_in}
use Rattle.plan_core.specs.declared.Cell.{Cell}
use Rattle.plan_steps.proofs.CellKinds.{bumped-sound, copying-sound}
use Rattle.plan_steps.proofs.Cutting.{cutting-sound, cutting_after-sound, cutting-value, cutting_after-value, within}
use Rattle.plan_steps.proofs.Drawn.{each_front}
use Rattle.plan_steps.proofs.Entries.{behind, both_parts, each_places, entry-value, of_places}
use Rattle.plan_steps.specs.Collectives.Broadcast.{first_cell}
use Rattle.plan_steps.specs.Collectives.Scatter.{scatter_cells, scatter_put, scattered}
use Rattle.plan_steps.specs.StepContext.{StepContext, bare_entry, bump, count, entry, exit_at, full_entry, further, holding, places}
use Rattle.plan_steps.specs.StepContext.{rank_at, source_at, block_length}
use Rattle.plan_steps.specs.Sounding.{EachAt, Ground, HasA, IsCell, Known, SoundNewCell, new_value}
use Rattle.ptl_types.specs.Elements.{part}
use Rattle.ptl_types.specs.Operations.{bytes_of}
use Rattle.plan_steps.proofs.StepSizes.{links-append, bytes-append, bytes-row, links-one, first-bytes}
use Rattle.std.proofs.lemmas.Bool.{ne_eqb}

module _ (k : ℕ → Cell) (s : StepContext) (root : ℕ) (root_in : root < count s) where
  root_first : first_cell s root root ≡ full_entry s root
  root_first = ap (λ b. cond b (full_entry s root) (bare_entry s root)) (eq-eqb root root refl)

  entry_rank : (i : ℕ) → k (entry s i) ≡ cell_of (first_cell s root i) → (k (entry s i)).rank ≡ rank_at s i
  entry_rank i e = ap (λ (c : Cell). c.rank) e ∙ at (i == root)
    where
      at : (b : Bool) → (cell_of (cond b (full_entry s i) (bare_entry s i))).rank ≡ rank_at s i
      at true = refl
      at false = refl

  -- the cell of place r, where b tells whether it is the root
  abbrev block_cell : ℕ → Bool → NewCell
  block_cell r b = holding s (block_length s) (rank_at s r) (cond b (scatter_put s root r ∷ [])
      (bump (entry s r) ∷ scatter_put s root r ∷ []))

  pub scatter-sound : (ranks : ℕ) → Ground ranks k s → s.length % bytes_of s.ty ≡ 0 → block_length s % bytes_of s.ty ≡ 0 →
      s.length ≡ count s * block_length s → HasA k s root
      → EachAt (IsCell k) s.first (scatter_cells s root) → EachAt (SoundNewCell ranks k) s.first (scatter_cells s root)
  scatter-sound ranks ground whole whole' all has cells =
      both_parts (SoundNewCell ranks k) s s.first (first_cell s root) (map (scattered s root) (places s))
      (each_places (SoundNewCell ranks k) s s.first (first_cell s root) (λ i h. one i h (i == root) refl))
      (each_places (SoundNewCell ranks k) s (s.first + count s) (scattered s root) (λ r h. two r h (r == root)))
    where
      firsts : EachAt (IsCell k) s.first (map (first_cell s root) (places s))
      firsts = each_front (IsCell k) s.first (map (first_cell s root) (places s)) (map (scattered s root) (places s)) cells

      at_place : (i : ℕ) → i < count s → k (entry s i) ≡ cell_of (first_cell s root i)
      at_place i h = (of_places (IsCell k) s s.first (first_cell s root) firsts i h).is_cell

      one : (i : ℕ) → i < count s → (b : Bool) → (i == root) ≡ b →
          SoundNewCell ranks k (s.first + i) (cond b (full_entry s i) (bare_entry s i))
      one i h true e =
          let q : i ≡ root = eqb-true _ _ e in
          let a : HasA k s i = subst (HasA k s) (sym q) has in
          let l = a.low in let x = ground.exit_low i h in
          copying-sound ranks k (s.first + i) s.ty s.length (rank_at s i) (exit_at s i) (source_at s i) (ground.members i h) whole
          (omega arith) (ground.exit_rank i h) (omega arith) a.long
      one i h false e = let x = ground.exit_low i h in bumped-sound ranks k (s.first + i) (rank_at s i) (exit_at s i) (ground.members i h)
          (omega arith) (ground.exit_rank i h)

      fits : (r : ℕ) → r < count s → r * block_length s + block_length s ≤ (k (entry s root)).length
      fits r h = let l = ap (λ (c : Cell). c.length) (at_place root root_in ∙ ap cell_of root_first) in let w =
          within (count s) s.length r
          h all in omega (arith, l, w)

      two : (r : ℕ) → r < count s → (b : Bool) → SoundNewCell ranks k (s.first + count s + r) (block_cell r b)
      two r h true = cutting-sound ranks k (s.first + count s + r) s.ty (block_length s) (rank_at s r) (entry s root) (r * block_length s)
          (ground.members r h) whole' (omega arith) (fits r h)
      two r h false = cutting_after-sound ranks k (s.first + count s + r) s.ty (block_length s) (rank_at s r) (entry s r) (entry s root)
          (r * block_length s) (ground.members r h) whole' (omega arith) (entry_rank r (at_place r h)) (omega arith) (fits r h)

  -- each place has its block of the root's list
  pub scatter-value : (val : ℕ → List ℕ) → s.length ≡ count s * block_length s → length (val (source_at s root)) ≡ s.length →
      EachAt (Known k val) s.first (scatter_cells s root)
      → (r : ℕ) → r < count s → val (further s r) ≡ part (r * block_length s) (block_length s) (val (source_at s root))
  scatter-value val all long known r h =
      ap val (let e : s.first + (count s + r) ≡ s.first + count s + r = omega arith in e)
      ∙ (of_places (Known k val) s (s.first + count s) (scattered s root)
      (behind (Known k val) s s.first (first_cell s root) (map (scattered s root) (places s)) known) r h).is_value
      ∙ at (r == root)
      ∙ ap (part (r * block_length s) (block_length s)) (entry-value k val s root at_root long)
    where
      at_root : Known k val (entry s root) (full_entry s root)
      at_root = subst (Known k val (entry s root)) root_first
          (of_places (Known k val) s s.first (first_cell s root)
          (each_front (Known k val) s.first (map (first_cell s root) (places s)) (map (scattered s root) (places s)) known) root root_in)

      fits : r * block_length s + block_length s ≤ length (val (entry s root))
      fits = let l = at_root.is_long in let w = within (count s) s.length r h all in omega (arith, l, w)

      at : (b : Bool) → new_value (block_cell r b) val ≡ part (r * block_length s) (block_length s) (val (entry s root))
      at true = cutting-value s.ty (block_length s) (rank_at s r) (entry s root) (r * block_length s) val fits
      at false = cutting_after-value s.ty (block_length s) (rank_at s r) (entry s r) (entry s root) (r * block_length s) val fits

-- ---- its links and bytes, in closed form
pub scatter-links : (s : StepContext) (root : ℕ) → root < count s →
    links_of (scatter_cells s root) ≡ count s + 1 + (count s + (count s - 1))
scatter-links s root h =
    let m = count s in
    let a = links-append (map (first_cell s root) (places s)) (map (scattered s root) (places s)) in
    let b = links-one (first_cell s root) 0 m root 2 1 (let z : 0 ≤ root = omega arith in z) (let z : root < 0 + m = omega arith in z)
    (ap (λ t. length (cond t (full_entry s root) (bare_entry s root)).into) (eq-eqb root root refl))
    (λ i n. ap (λ t. length (cond t (full_entry s i) (bare_entry s i)).into) (ne_eqb _ _ n)) in
    let c = links-one (scattered s root) 0 m root 1 2 (let z : 0 ≤ root = omega arith in z) (let z : root < 0 + m = omega arith in z)
    (size root true (eq-eqb root root refl)) (λ i n. size i false (ne_eqb i root n)) in
    let q : m * 1 ≡ m = omega arith in
    let r : m * 2 ≡ m + m = omega arith in
    omega (arith, a, b, c, q, r)
  where
    size : (i : ℕ) (t : Bool) → (i == root) ≡ t → length (scattered s root i).into ≡ cond t 1 2
    size i t e = ap (λ v. length (cond v (one i ∷ []) (two i ∷ one i ∷ []))) e ∙ at t
      where
        one : ℕ → Rattle.plan_core.specs.declared.Incoming.Incoming
        one r = Rattle.plan_steps.specs.Collectives.Scatter.scatter_put s root r

        two : ℕ → Rattle.plan_core.specs.declared.Incoming.Incoming
        two r = Rattle.plan_steps.specs.StepContext.bump (Rattle.plan_steps.specs.StepContext.entry s r)

        at : (t : Bool) → length (cond t (one i ∷ []) (two i ∷ one i ∷ [])) ≡ cond t 1 2
        at true = refl
        at false = refl

pub scatter-bytes : (s : StepContext) (root : ℕ) → root < count s → bytes_in (scatter_cells s root) ≡ s.length + count s *
    (s.length / count s)
scatter-bytes s root h =
    bytes-append (map (first_cell s root) (places s)) (map (scattered s root) (places s))
    ∙ ap₂ (λ x y. x + y) (first-bytes s root h) (bytes-row (scattered s root) 0 (count s) (block_length s) (λ i. refl))
