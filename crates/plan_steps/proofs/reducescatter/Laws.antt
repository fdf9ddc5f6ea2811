-- A reduce-scatter is sound, and each place has its block of the fold.
use Rattle.std.proofs.Common.{ℕ, zero, suc, ◌+◌, ◌-◌, ◌*◌, ◌%◌, ◌≡◌, ◌≤◌, ◌<◌, List, ◌++◌, length, map, ap, ◌∙◌, sym, arith, append_assoc}
use Rattle.std.proofs.Common.{length-append, refl, ◌/◌}
use Rattle.coll_shape.specs.Folding.{folded}
use Rattle.plan_core.specs.Draw.{NewCell, cell_of, links_of, bytes_in}
use Rattle.plan_core.specs.Plan.{from_to}
use Rattle.plan_core.specs.declared.Cell.{Cell}
use Rattle.plan_steps.proofs.Cutting.{cutting-sound, cutting_after-sound, cutting-value, cutting_after-value, within, front_of, back_of}
use Rattle.plan_steps.proofs.Cutting.{whole_of}
use Rattle.plan_steps.proofs.Drawn.{length-map-from}
use Rattle.plan_steps.proofs.Entries.{Ground, HasA, IsCell, Known, behind, each_places, of_places}
use Rattle.plan_steps.proofs.Trees.{up-at}
use Rattle.plan_steps.proofs.reduce.Laws.{reduce-sound, reduce-value}
use Rattle.plan_steps.specs.Collectives.Reduce.{reduce_cells}
use Rattle.plan_steps.specs.Collectives.Reducescatter.{reducescatter_cells, result_block}
use Rattle.plan_steps.specs.StepContext.{StepContext, count, entries, full_entry, further, places, rank_at, source_at, block_length}
use Rattle.plan_steps.specs.Sounding.{EachAt, SoundNewCell, new_value}
use Rattle.plan_steps.specs.Trees.{turned, up, up_cell, up_number}
use Rattle.ptl_types.specs.Elements.{part, starting}
use Rattle.ptl_types.specs.Operations.{bytes_of}
use Rattle.ptl_types.specs.declared.elements.AtomicOp.{AtomicOp}
use Rattle.std.proofs.Math.Nat.{mod-eq_of_lt}
use Rattle.plan_steps.proofs.StepSizes.{links-append, bytes-append, bytes-row, first-shorter, entry-links, entry-bytes, up-bytes}
use Rattle.plan_steps.proofs.TreeSizes.{up-links}

module _ (k : ℕ → Cell) (s : StepContext) (o : AtomicOp) where
  abbrev blocks : List NewCell
  blocks = map (result_block s) (places s)

  regrouped : reducescatter_cells s o ≡ reduce_cells s 0 o ++ blocks
  regrouped = sym (append_assoc (entries s) (up s 0 o) blocks)

  long_front : s.first + length (reduce_cells s 0 o) ≡ further s (count s)
  long_front =
      let a = length-append (entries s) (up s 0 o) in
      let b = length-map-from (full_entry s) 0 (count s) in
      let c = length-map-from (λ j. up_cell s 0 o (count s - 1 - j)) 0 (count s) in
      omega (arith, a, b, c)

  same_place : (v : ℕ) → v < count s → turned s 0 v ≡ v
  same_place v h = ap (λ w. w % count s) (let e : 0 + v ≡ v = omega arith in e) ∙ mod-eq_of_lt h

  pub reducescatter-sound : (ranks : ℕ) → Ground ranks k s → s.length % bytes_of s.ty ≡ 0 → block_length s % bytes_of s.ty ≡ 0 →
      s.length ≡ count s * block_length s → ((i : ℕ) → i < count s → HasA k s i)
      → EachAt (IsCell k) s.first (reducescatter_cells s o) → EachAt (SoundNewCell ranks k) s.first (reducescatter_cells s o)
  reducescatter-sound ranks ground whole whole' all has cells =
      whole_of (SoundNewCell ranks k) s.first (further s (count s)) (reducescatter_cells s o) (reduce_cells s 0 o) blocks regrouped
      long_front
      (reduce-sound ranks k s 0 o ground whole has (front_of (IsCell k) s.first (reducescatter_cells s o) (reduce_cells s 0 o) blocks
      regrouped cells))
      (each_places (SoundNewCell ranks k) s (further s (count s)) (result_block s) one)
    where
      ups : EachAt (IsCell k) (s.first + count s) (up s 0 o)
      ups = behind (IsCell k) s s.first (full_entry s) (up s 0 o)
          (front_of (IsCell k) s.first (reducescatter_cells s o) (reduce_cells s 0 o) blocks regrouped cells)

      c_cell : (v : ℕ) → v < count s → k (up_number s v) ≡ cell_of (up_cell s 0 o v)
      c_cell v h = (up-at k s 0 o (IsCell k) ups v h).is_cell

      fits : (r : ℕ) → r < count s → r * block_length s + block_length s ≤ (k (up_number s 0)).length
      fits r h = let l = ap (λ (c : Cell). c.length) (c_cell 0 ground.some) in let w = within (count s) s.length r h all in
          omega (arith, l, w)

      one : (r : ℕ) → r < count s → SoundNewCell ranks k (further s (count s) + r) (result_block s r)
      one zero h = cutting-sound ranks k (further s (count s) + 0) s.ty (block_length s) (rank_at s 0) (up_number s 0)
          (0 * block_length s) (ground.members 0 h) whole' (omega arith) (fits 0 h)
      one (suc r) h =
          cutting_after-sound ranks k (further s (count s) + suc r) s.ty (block_length s) (rank_at s (suc r)) (up_number s (suc r))
          (up_number s 0) (suc r * block_length s) (ground.members (suc r) h) whole' (omega arith)
          (ap (λ (c : Cell). c.rank) (c_cell (suc r) h) ∙ ap (rank_at s) (same_place (suc r) h)) (omega arith) (fits (suc r) h)

  -- each place has its block of the fold
  pub reducescatter-value : (val x : ℕ → List ℕ) → 0 < count s → s.length % bytes_of s.ty ≡ 0 → s.length ≡ count s * block_length s
      → ((i : ℕ) → i < count s → (val (source_at s i) ≡ x i) × (length (val (source_at s i)) ≡ s.length)) →
      EachAt (Known k val) s.first (reducescatter_cells s o)
      → (i : ℕ) → i < count s → val (further s (count s + i)) ≡ part (i * block_length s) (block_length s)
      (folded o s.ty (map x (from_to 0 (count s))) (starting o s.ty s.length))
  reducescatter-value val x pos whole all has known i h =
      ap val (let e : s.first + (count s + (count s + i)) ≡ further s (count s) + i = omega arith in e)
      ∙ (of_places (Known k val) s (further s (count s)) (result_block s) last i h).is_value
      ∙ at i h
      ∙ ap (part (i * block_length s) (block_length s)) (reduce-value k val x s 0 o pos whole has firsts)
    where
      firsts : EachAt (Known k val) s.first (reduce_cells s 0 o)
      firsts = front_of (Known k val) s.first (reducescatter_cells s o) (reduce_cells s 0 o) blocks regrouped known

      last : EachAt (Known k val) (further s (count s)) blocks
      last = back_of (Known k val) s.first (further s (count s)) (reducescatter_cells s o) (reduce_cells s 0 o) blocks regrouped
          long_front known

      fits : (r : ℕ) → r < count s → r * block_length s + block_length s ≤ length (val (up_number s 0))
      fits r l =
          let e = (up-at k s 0 o (Known k val) (behind (Known k val) s s.first (full_entry s) (up s 0 o) firsts) 0 pos).is_long in
          let w = within (count s) s.length r l all in
          omega (arith, e, w)

      at : (r : ℕ) → r < count s → new_value (result_block s r) val ≡ part (r * block_length s) (block_length s) (val (up_number s 0))
      at zero l = cutting-value s.ty (block_length s) (rank_at s 0) (up_number s 0) (0 * block_length s) val (fits 0 l)
      at (suc r) l = cutting_after-value s.ty (block_length s) (rank_at s (suc r)) (up_number s (suc r)) (up_number s 0)
          (suc r * block_length s) val (fits (suc r) l)

-- ---- its links and bytes, in closed form
pub reducescatter-links : (s : StepContext) (o : AtomicOp) → 0 < count s → links_of (reducescatter_cells s o) ≡ 2 * count s
    + (count s + (count s - 1)) + (count s + (count s - 1))
reducescatter-links s o pos =
    let a = links-append (entries s) (up s 0 o ++ map (result_block s) (places s)) in
    let b = links-append (up s 0 o) (map (result_block s) (places s)) in
    let c = entry-links s in
    let d = up-links s 0 o pos in
    let e = first-shorter (result_block s) (count s) pos refl (λ i. refl) in
    omega (arith, a, b, c, d, e)

pub reducescatter-bytes : (s : StepContext) (o : AtomicOp) → bytes_in (reducescatter_cells s o) ≡ 2 * (count s * s.length) + count s *
    (s.length / count s)
reducescatter-bytes s o =
    let a = bytes-append (entries s) (up s 0 o ++ map (result_block s) (places s)) in
    let b = bytes-append (up s 0 o) (map (result_block s) (places s)) in
    let c = entry-bytes s in let d = up-bytes s 0 o in
    let e = bytes-row (result_block s) 0 (count s) (block_length s) (λ i. refl) in
    omega (arith, a, b, c, d, e)
