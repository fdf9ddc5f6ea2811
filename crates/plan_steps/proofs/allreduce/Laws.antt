-- An allreduce is sound, and each place has the fold of all.
use Rattle.std.proofs.Common.{ℕ, ◌+◌, ◌-◌, ◌%◌, ◌≡◌, ◌<◌, List, ◌++◌, length, map, ap, ◌∙◌, subst, arith, ◌*◌, refl}
use Rattle.coll_shape.specs.Folding.{folded}
use Rattle.plan_core.specs.Draw.{NewCell, cell_of, links_of, bytes_in}
use Rattle.plan_core.specs.Plan.{from_to}
use Rattle.plan_core.specs.declared.Cell.{Cell}
use Rattle.plan_steps.proofs.Entries.{Ground, HasA, IsCell, Known, behind, both_parts, entries-sound}
use Rattle.plan_steps.proofs.Trees.{down, down-sound, down-value, up-at, up-sound, up-value, entry-cells, entry-known}
use Rattle.plan_steps.specs.Collectives.Allreduce.{allreduce_cells, result_cell}
use Rattle.plan_steps.specs.StepContext.{StepContext, count, full_entry, further, source_at, places, entries}
use Rattle.plan_steps.specs.Sounding.{EachAt, SoundNewCell}
use Rattle.plan_steps.specs.Trees.{up, up_cell, up_number}
use Rattle.ptl_types.specs.Elements.{starting}
use Rattle.ptl_types.specs.Operations.{bytes_of}
use Rattle.ptl_types.specs.declared.elements.AtomicOp.{AtomicOp}
use Rattle.plan_steps.proofs.StepSizes.{links-append, bytes-append, bytes-row, first-shorter, entry-links, entry-bytes, up-bytes}
use Rattle.plan_steps.proofs.TreeSizes.{up-links}

module _ (k : ℕ → Cell) (s : StepContext) (o : AtomicOp) where
  abbrev back : List NewCell
  back = down s 0 (further s (count s)) (up_number s 0) (up_number s)

  last_part : (P : ℕ → NewCell → Type 0) → EachAt P (s.first + count s) (up s 0 o ++ back) → EachAt P (further s (count s)) back
  last_part P h = subst (λ c. EachAt P c back) (let e : s.first + count s + count s ≡ s.first + (count s + count s) = omega arith in e)
      (behind P s (s.first + count s) (λ j. up_cell s 0 o (count s - 1 - j)) back h)

  pub allreduce-sound : (ranks : ℕ) → Ground ranks k s → s.length % bytes_of s.ty ≡ 0 → ((i : ℕ) → i < count s → HasA k s i)
      → EachAt (IsCell k) s.first (allreduce_cells s o) → EachAt (SoundNewCell ranks k) s.first (allreduce_cells s o)
  allreduce-sound ranks ground whole has cells =
      let ups = behind (IsCell k) s s.first (full_entry s) (up s 0 o ++ back) cells in
      let firsts = Rattle.plan_steps.proofs.Drawn.each_front (IsCell k) (s.first + count s) (up s 0 o) back ups in
      let pos = ground.some in
      let c_cell : (v : ℕ) → v < count s → k (up_number s v) ≡ cell_of (up_cell s 0 o v) =
      λ v h. (up-at k s 0 o (IsCell k) firsts v h).is_cell in
      both_parts (SoundNewCell ranks k) s s.first (full_entry s) (up s 0 o ++ back)
      (entries-sound ranks k s ground whole has)
      (both_parts (SoundNewCell ranks k) s (s.first + count s) (λ j. up_cell s 0 o (count s - 1 - j)) back
      (up-sound k s 0 o ranks ground.some ground.members whole (entry-cells k s (up s 0 o ++ back) cells) firsts)
      (subst (λ c. EachAt (SoundNewCell ranks k) c back) (let e : s.first + (count s + count s) ≡ s.first + count s + count s =
      omega arith in e)
      (down-sound k s 0 (further s (count s)) (up_number s 0) (up_number s) ranks pos ground.members whole (omega arith)
      (ap (λ (c : Cell). c.length) (c_cell 0 pos))
      (λ v h. (omega arith, ap (λ (c : Cell). c.rank) (c_cell v h)))
      (last_part (IsCell k) ups))))

  pub allreduce-value : (val x : ℕ → List ℕ) → 0 < count s → s.length % bytes_of s.ty ≡ 0
      → ((i : ℕ) → i < count s → (val (source_at s i) ≡ x i) × (length (val (source_at s i)) ≡ s.length)) →
      EachAt (Known k val) s.first (allreduce_cells s o)
      → (i : ℕ) → i < count s → val (further s (count s + i)) ≡ folded o s.ty (map x (from_to 0 (count s))) (starting o s.ty s.length)
  allreduce-value val x pos whole has known i h =
      let ups = behind (Known k val) s s.first (full_entry s) (up s 0 o ++ back) known in
      let firsts = Rattle.plan_steps.proofs.Drawn.each_front (Known k val) (s.first + count s) (up s 0 o) back ups in
      ap val (let e : s.first + (count s + (count s + i)) ≡ s.first + (count s + count s) + i = omega arith in e)
      ∙ down-value k s 0 (further s (count s)) (up_number s 0) (up_number s) val (last_part (Known k val) ups)
      (up-at k s 0 o (Known k val) firsts 0 pos).is_long i h
      ∙ up-value k s 0 o val x pos whole (entry-known k val x s (up s 0 o ++ back) known has) firsts

-- ---- its links and bytes, in closed form
pub allreduce-links : (s : StepContext) (o : AtomicOp) → 0 < count s →
    links_of (allreduce_cells s o) ≡ 2 * count s + (count s + (count s - 1)) + (1 + 2 * (count s - 1))
allreduce-links s o pos =
    let a = links-append (entries s) (up s 0 o ++ map (result_cell s) (places s)) in
    let b = links-append (up s 0 o) (map (result_cell s) (places s)) in
    let c = entry-links s in
    let d = up-links s 0 o pos in
    let e = first-shorter (result_cell s) (count s) pos refl (λ i. refl) in
    omega (arith, a, b, c, d, e)

pub allreduce-bytes : (s : StepContext) (o : AtomicOp) → bytes_in (allreduce_cells s o) ≡ 3 * (count s * s.length)
allreduce-bytes s o =
    let a = bytes-append (entries s) (up s 0 o ++ map (result_cell s) (places s)) in
    let b = bytes-append (up s 0 o) (map (result_cell s) (places s)) in
    let c = entry-bytes s in let d = up-bytes s 0 o in
    let e = bytes-row (result_cell s) 0 (count s) s.length (λ i. refl) in
    omega (arith, a, b, c, d, e)
