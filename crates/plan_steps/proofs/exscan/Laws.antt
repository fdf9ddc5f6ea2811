-- An exclusive scan is sound, and each place but the first has the fold of those before it.
use Rattle.std.proofs.Common.{ℕ, suc, ◌+◌, ◌-◌, ◌*◌, ◌%◌, ◌≡◌, ◌≤◌, ◌<◌, List, ◌++◌, refl, length, map, ap, ◌∙◌, sym, subst, arith}
use Rattle.std.proofs.Common.{append_assoc, length-append, ◌^◌, sum_by, ap₂}
use Rattle.coll_shape.specs.Folding.{folded}
use Rattle.plan_core.specs.Draw.{NewCell, cell_of, links_of, bytes_in}
use Rattle.plan_core.specs.Plan.{from_to}
use Rattle.plan_core.specs.declared.Cell.{Cell}
use Rattle.plan_steps.proofs.CellKinds.{copying-sound, copying-value}
use Rattle.plan_steps.proofs.Cutting.{front_of, back_of, whole_of}
use Rattle.plan_steps.proofs.Drawn.{each_map, each_of_map, length-map-from, length-rows}
use Rattle.plan_steps.proofs.Entries.{Ground, HasA, IsCell, Known, behind}
use Rattle.plan_steps.proofs.scan.Laws.{scan-at, scan-sound, scan-value, scan-links}
use Rattle.plan_steps.specs.Collectives.Exscan.{exscan_cells, shifted}
use Rattle.plan_steps.specs.Rounds.{rounds}
use Rattle.plan_steps.specs.Collectives.Scan.{scan_cell, scan_cells, scan_number, scan_rows}
use Rattle.plan_steps.specs.StepContext.{StepContext, count, entries, full_entry, further, rank_at, source_at}
use Rattle.plan_steps.specs.Sounding.{EachAt, SoundNewCell}
use Rattle.ptl_types.specs.Elements.{starting}
use Rattle.ptl_types.specs.Operations.{bytes_of}
use Rattle.ptl_types.specs.declared.elements.AtomicOp.{AtomicOp}
use Rattle.plan_steps.proofs.StepSizes.{links-append, bytes-append, links-row, bytes-row, bytes-rows, entry-bytes}

module _ (k : ℕ → Cell) (s : StepContext) (o : AtomicOp) where
  abbrev last_cells : List NewCell
  last_cells = map (shifted s) (from_to 0 (count s - 1))

  abbrev base : ℕ
  base = further s (suc (rounds (count s)) * count s)

  rescanned : exscan_cells s o ≡ scan_cells s o ++ last_cells
  rescanned = sym (append_assoc (entries s) (scan_rows s o) last_cells)

  long_scan : s.first + length (scan_cells s o) ≡ base
  long_scan =
      let a = length-append (entries s) (scan_rows s o) in
      let b = length-map-from (full_entry s) 0 (count s) in
      let c = length-rows (scan_cell s o) (count s) 0 (suc (rounds (count s))) in
      omega (arith, a, b, c)

  rows_of : (P : ℕ → NewCell → Type 0) → EachAt P s.first (exscan_cells s o) → EachAt P (s.first + count s) (scan_rows s o)
  rows_of P h = behind P s s.first (full_entry s) (scan_rows s o)
      (front_of P s.first (exscan_cells s o) (scan_cells s o) last_cells rescanned h)

  below : (j : ℕ) → j < count s → (r : ℕ) → scan_number s (rounds (count s)) j < base + r
  below j h r = let e : suc (rounds (count s)) * count s ≡ rounds (count s) * count s + count s = omega arith in omega (arith, e)

  pub exscan-sound : (ranks : ℕ) → Ground ranks k s → s.length % bytes_of s.ty ≡ 0 → ((i : ℕ) → i < count s → HasA k s i)
      → EachAt (IsCell k) s.first (exscan_cells s o) → EachAt (SoundNewCell ranks k) s.first (exscan_cells s o)
  exscan-sound ranks ground whole has cells =
      whole_of (SoundNewCell ranks k) s.first base (exscan_cells s o) (scan_cells s o) last_cells rescanned long_scan
      (scan-sound k s o ranks ground whole has (front_of (IsCell k) s.first (exscan_cells s o) (scan_cells s o) last_cells rescanned cells))
      (each_map (SoundNewCell ranks k) base (shifted s) 0 (count s - 1)
      (λ j h. let z : j ≡ 0 + j = omega arith in subst (λ v. SoundNewCell ranks k (base + j) (shifted s v)) z (one j h)))
    where
      p_cell : (j : ℕ) → j < count s → k (scan_number s (rounds (count s)) j) ≡ cell_of (scan_cell s o (rounds (count s)) j)
      p_cell j h = (scan-at k s o (IsCell k) (rows_of (IsCell k) cells) (rounds (count s)) j (omega arith) h).is_cell

      at_rank : (q j : ℕ) → (cell_of (scan_cell s o q j)).rank ≡ rank_at s j
      at_rank q j = refl

      at_length : (q j : ℕ) → (cell_of (scan_cell s o q j)).length ≡ s.length
      at_length q j = refl

      one : (j : ℕ) → j < count s - 1 → SoundNewCell ranks k (base + j) (shifted s j)
      one j h =
          copying-sound ranks k (base + j) s.ty s.length (rank_at s (suc j)) (scan_number s (rounds (count s)) (suc j))
          (scan_number s (rounds (count s)) j) (ground.members (suc j) (omega arith)) whole
          (below (suc j) (omega arith) j) (ap (λ (c : Cell). c.rank) (p_cell (suc j) (omega arith)) ∙ at_rank (rounds (count s)) (suc j))
          (below j (omega arith) j) (ap (λ (c : Cell). c.length) (p_cell j (omega arith)) ∙ at_length (rounds (count s)) j)

  -- place j + 1 has the fold of the places up to j
  pub exscan-value : (val x : ℕ → List ℕ) → count s ≤ 256 → s.length % bytes_of s.ty ≡ 0
      → ((i : ℕ) → i < count s → (val (source_at s i) ≡ x i) × (length (val (source_at s i)) ≡ s.length)) →
      EachAt (Known k val) s.first (exscan_cells s o)
      → (j : ℕ) → suc j < count s → val (further s (suc (rounds (count s)) * count s + j)) ≡ folded o s.ty (map x (from_to 0 (suc j)))
      (starting o s.ty s.length)
  exscan-value val x small whole has known j h =
      let last = each_of_map (Known k val) base (shifted s) 0 (count s - 1)
      (back_of (Known k val) s.first base (exscan_cells s o) (scan_cells s o) last_cells rescanned long_scan known) j (omega arith) in
      let here : Known k val (base + j) (shifted s j) = subst (λ v. Known k val (base + j) (shifted s v))
      (let z : 0 + j ≡ j = omega arith in z) last in
      let firsts = front_of (Known k val) s.first (exscan_cells s o) (scan_cells s o) last_cells rescanned known in
      ap val (let e : s.first + (count s + (suc (rounds (count s)) * count s + j)) ≡ base + j = omega arith in e)
      ∙ here.is_value
      ∙ copying-value s.ty s.length (rank_at s (suc j)) (scan_number s (rounds (count s)) (suc j)) (scan_number s (rounds (count s)) j)
      val (scan-at k s o (Known k val) (rows_of (Known k val) known) (rounds (count s)) j (omega arith) (omega arith)).is_long
      ∙ scan-value k s o val x small whole has firsts j (omega arith)

-- ---- its links and bytes, in closed form
pub exscan-links : (s : StepContext) (o : AtomicOp) → links_of (exscan_cells s o) ≡ 2 * count s + count s + sum_by
    (λ k. count s + (count s - 2 ^ k)) (from_to 0 (rounds (count s))) + 2 * (count s - 1)
exscan-links s o =
    let a = links-append (entries s) (scan_rows s o ++ map (shifted s) (from_to 0 (count s - 1))) in
    let b = links-append (scan_rows s o) (map (shifted s) (from_to 0 (count s - 1))) in
    let c = links-append (entries s) (scan_rows s o) in
    let d = scan-links s o in
    let e = links-row (shifted s) 0 (count s - 1) 2 (λ i. refl) in
    omega (arith, a, b, c, d, e)

pub exscan-bytes : (s : StepContext) (o : AtomicOp) → bytes_in (exscan_cells s o) ≡ count s * s.length + suc (rounds (count s)) *
    (count s * s.length) + (count s - 1) * s.length
exscan-bytes s o =
    let a = bytes-append (entries s) (scan_rows s o ++ map (shifted s) (from_to 0 (count s - 1))) in
    let b = bytes-append (scan_rows s o) (map (shifted s) (from_to 0 (count s - 1))) in
    let c = entry-bytes s in
    let d = bytes-rows s (scan_cell s o) 0 (suc (rounds (count s))) s.length (λ k i. refl) in
    let e = bytes-row (shifted s) 0 (count s - 1) s.length (λ i. refl) in
    a ∙ ap₂ (λ x y. x + y) c (b ∙ ap₂ (λ x y. x + y) d e)
    ∙ (let z : count s * s.length + (suc (rounds (count s)) * (count s * s.length) + (count s - 1) * s.length) ≡ count s * s.length + suc
    (rounds (count s)) * (count s * s.length) + (count s - 1) * s.length =
    Rattle.std.proofs.Common.sym (Rattle.std.proofs.Common.add_assoc (count s * s.length)
    (suc (rounds (count s)) * (count s * s.length)) ((count s - 1) * s.length)) in z)
