-- An allgather is sound, and each place has all lists: they go round a ring.
use Rattle.std.proofs.Common.{ℕ, zero, suc, ◌+◌, ◌-◌, ◌*◌, ◌%◌, ◌≡◌, ◌<◌, List, ◌++◌, refl, length, map, flat_map, ap, ◌∙◌, sym, subst}
use Rattle.std.proofs.Common.{arith, mod-lt, ap₂}
use Rattle.op_laws.proofs.Bytes.{part_all}
use Rattle.plan_core.specs.Draw.{NewCell, links_of, bytes_in}
use Rattle.plan_core.specs.Plan.{from_to}
use Rattle.plan_core.specs.declared.Cell.{Cell}
use Rattle.plan_steps.proofs.CellKinds.{gathering-sound, gathering-value, taking-sound, taking-value}
use Rattle.plan_steps.proofs.Drawn.{each_append, each_back, each_front, each_of_rows, each_rows, length-rows}
use Rattle.plan_steps.proofs.Entries.{Ground, HasA, IsCell, Known, behind, both_parts, each_places, entries-sound, of_places}
use Rattle.plan_steps.proofs.Folds.{Turned, turn}
use Rattle.plan_steps.proofs.Folds.Turned.{Above, Below}
use Rattle.plan_steps.proofs.Trees.{entry-cells, entry-known}
use Rattle.plan_steps.specs.Collectives.Allgather.{allgather_cells, collected, origin, ring_cell, ring_node, collect_link}
use Rattle.plan_steps.specs.StepContext.{StepContext, count, entry, full_entry, further, places, rank_at, rows, source_at, entries}
use Rattle.plan_steps.specs.Sounding.{EachAt, SoundNewCell}
use Rattle.ptl_types.specs.Operations.{bytes_of}
use Rattle.std.proofs.Math.Nat.{mul-le-mul_right}
use Rattle.plan_core.proofs.Drawing.{length-row}
use Rattle.plan_steps.proofs.StepSizes.{links-append, bytes-append, links-row, bytes-row, links-rows, bytes-rows}

module _ (k : ℕ → Cell) (s : StepContext) where
  abbrev ring_rows : List NewCell
  ring_rows = rows s (ring_node s) 0 (count s)

  abbrev ends : List NewCell
  ends = map (collected s) (places s)

  ring_part : (P : ℕ → NewCell → Type 0) → EachAt P s.first (allgather_cells s) → EachAt P (s.first + count s) (ring_rows ++ ends)
  ring_part P h = behind P s s.first (full_entry s) (ring_rows ++ ends) h

  ring-at : (P : ℕ → NewCell → Type 0) → EachAt P s.first (allgather_cells s) → (d r : ℕ) → d < count s → r < count s →
      P (ring_cell s d r) (ring_node s d r)
  ring-at P h d r i j =
      let z : 0 + d ≡ d = omega arith in
      subst (λ c. P c (ring_node s d r)) (let e : s.first + count s + (d * count s + r) ≡ s.first + (count s + (d * count s + r)) =
      omega arith in e)
      (subst (λ e. P (s.first + count s + (d * count s + r)) (ring_node s e r)) z
      (each_of_rows P (s.first + count s) (ring_node s) (count s) 0 (count s)
      (each_front P (s.first + count s) ring_rows ends (ring_part P h)) d r i j))

  pub end_part : (P : ℕ → NewCell → Type 0) → EachAt P s.first (allgather_cells s) → EachAt P (s.first + count s + count s * count s) ends
  end_part P h = subst (λ v. EachAt P (s.first + count s + v) ends) (length-rows (ring_node s) (count s) 0 (count s))
      (each_back P (s.first + count s) ring_rows ends (ring_part P h))

  origin-lt : (d r : ℕ) → 0 < count s → origin s d r < count s
  origin-lt d r pos = mod-lt (r + (count s - d)) pos

  origin-one : (r : ℕ) → r < count s → (d e : ℕ) → d < count s → e < count s → origin s d r ≡ origin s e r → d ≡ e
  origin-one r h d e i j q = at (turn r (count s - d) (count s) h (omega arith)) (turn r (count s - e) (count s) h (omega arith))
    where
      at : Turned r (count s - d) (count s) → Turned r (count s - e) (count s) → d ≡ e
      at (Below a x) (Below b y) = omega (arith, x, y, q)
      at (Below a x) (Above b y) = omega (arith, x, y, q)
      at (Above a x) (Below b y) = omega (arith, x, y, q)
      at (Above a x) (Above b y) = omega (arith, x, y, q)

  -- one turn earlier the neighbour had it
  origin-next : (d r : ℕ) → suc d < count s → r < count s → origin s d ((r + (count s - 1)) % count s) ≡ origin s (suc d) r
  origin-next d r h i = at (turn r (count s - 1) (count s) i (omega arith)) (turn r (count s - suc d) (count s) i (omega arith))
      (turn ((r + (count s - 1)) % count s) (count s - d) (count s)
      (mod-lt (r + (count s - 1)) (let pos : 0 < count s = omega arith in pos)) (omega arith))
    where
      at : Turned r (count s - 1) (count s) → Turned r (count s - suc d) (count s) → Turned ((r + (count s - 1)) % count s) (count s - d)
          (count s) → origin s d ((r + (count s - 1)) % count s) ≡ origin s (suc d) r
      at (Below a x) (Below b y) (Below c z) = omega (arith, x, y, z)
      at (Below a x) (Below b y) (Above c z) = omega (arith, x, y, z)
      at (Below a x) (Above b y) (Below c z) = omega (arith, x, y, z)
      at (Below a x) (Above b y) (Above c z) = omega (arith, x, y, z)
      at (Above a x) (Below b y) (Below c z) = omega (arith, x, y, z)
      at (Above a x) (Below b y) (Above c z) = omega (arith, x, y, z)
      at (Above a x) (Above b y) (Below c z) = omega (arith, x, y, z)
      at (Above a x) (Above b y) (Above c z) = omega (arith, x, y, z)

  row_before : (d r : ℕ) → d < count s → r < count s → d * count s + r < count s * count s
  row_before d r h i = let e : suc d * count s ≡ d * count s + count s = omega arith in let l = mul-le-mul_right (count s) h in
      omega (arith, e, l)

  pub allgather-sound : (ranks : ℕ) → Ground ranks k s → s.length % bytes_of s.ty ≡ 0 → (count s * s.length) % bytes_of s.ty ≡ 0 →
      ((i : ℕ) → i < count s → HasA k s i)
      → EachAt (IsCell k) s.first (allgather_cells s) → EachAt (SoundNewCell ranks k) s.first (allgather_cells s)
  allgather-sound ranks ground whole whole' has cells =
      both_parts (SoundNewCell ranks k) s s.first (full_entry s) (ring_rows ++ ends)
      (entries-sound ranks k s ground whole has)
      (each_append (SoundNewCell ranks k) (s.first + count s) ring_rows ends
      (each_rows (SoundNewCell ranks k) (s.first + count s) (ring_node s) (count s) 0 (count s)
      (λ d r h i. let z : d ≡ 0 + d = omega arith in subst (λ e. SoundNewCell ranks k (s.first + count s + (d * count s + r))
      (ring_node s e r)) z (one d r h i)))
      (subst (λ v. EachAt (SoundNewCell ranks k) (s.first + count s + v) ends) (sym (length-rows (ring_node s) (count s) 0 (count s)))
      (each_places (SoundNewCell ranks k) s (s.first + count s + count s * count s) (collected s)
      (λ r h. gathering-sound ranks k (s.first + count s + count s * count s + r) s.ty (count s * s.length) s.length (count s)
      (rank_at s r) (λ d. ring_cell s d r) (λ d. 0) (λ d. origin s d r) (ground.members r h) whole' refl ground.some
      (λ d i. (
        (let l = row_before d r i h in omega (arith, l)),
        (let l = ap (λ (c : Cell). c.length) (ring-at (IsCell k) cells d r i h).is_cell in omega (arith, l)),
        origin-lt d r ground.some,
      ))
      (origin-one r h)))))
    where
      one : (d r : ℕ) → d < count s → r < count s → SoundNewCell ranks k (s.first + count s + (d * count s + r)) (ring_node s d r)
      one zero r h i = taking-sound ranks k (s.first + count s + (0 * count s + r)) s.ty s.length (rank_at s r) (entry s r)
          (ground.members r i) whole (omega arith) (ap (λ (c : Cell). c.length) (entry-cells k s (ring_rows ++ ends) cells r i))
      one (suc d) r h i =
          let n = mod-lt (r + (count s - 1)) ground.some in
          taking-sound ranks k (s.first + count s + (suc d * count s + r)) s.ty s.length (rank_at s r)
          (ring_cell s d ((r + (count s - 1)) % count s)) (ground.members r i) whole
          (let e : suc d * count s ≡ d * count s + count s = omega arith in omega (arith, e, n))
          (ap (λ (c : Cell). c.length) (ring-at (IsCell k) cells d ((r + (count s - 1)) % count s) (omega arith) n).is_cell)

  pub allgather-value : (val x : ℕ → List ℕ) → 0 < count s →
      ((i : ℕ) → i < count s → (val (source_at s i) ≡ x i) × (length (val (source_at s i)) ≡ s.length)) →
      EachAt (Known k val) s.first (allgather_cells s)
      → (r : ℕ) → r < count s → val (further s (count s * count s + r)) ≡ flat_map x (from_to 0 (count s))
  allgather-value val x pos has known r h =
      let last = of_places (Known k val) s (s.first + count s + count s * count s) (collected s) (end_part (Known k val) known) r h in
      ap val (let e : s.first + (count s + (count s * count s + r)) ≡ s.first + count s + count s * count s + r = omega arith in e)
      ∙ last.is_value
      ∙ gathering-value s.ty (count s * s.length) s.length (count s) (rank_at s r) (λ d. ring_cell s d r) (λ d. 0) (λ d. origin s d r) val
      x refl
      (λ q i. ap length (sym (ent q i).0) ∙ (ent q i).1)
      (λ d i. (origin-lt d r pos, part_all s.length (val (ring_cell s d r)) (ring-at (Known k val) known d r i h).is_long ∙ ring d r i h))
      (origin-one r h)
    where
      ent : (i : ℕ) → i < count s → (val (entry s i) ≡ x i) × (length (val (entry s i)) ≡ s.length)
      ent i l = entry-known k val x s (ring_rows ++ ends) known has i l

      -- after d turns place r has the list of the place d before it
      ring : (d r : ℕ) → d < count s → r < count s → val (ring_cell s d r) ≡ x (origin s d r)
      ring zero r h i =
          (ring-at (Known k val) known 0 r h i).is_value
          ∙ taking-value s.ty s.length (rank_at s r) (entry s r) val (ent r i).1
          ∙ (ent r i).0
          ∙ ap x (let q : r ≡ origin s 0 r = at (turn r (count s - 0) (count s) i (omega arith)) in q)
        where
          at : Turned r (count s - 0) (count s) → r ≡ origin s 0 r
          at (Below a y) = absurd (omega arith)
          at (Above a y) = omega (arith, y)
      ring (suc d) r h i =
          let n = mod-lt (r + (count s - 1)) pos in
          (ring-at (Known k val) known (suc d) r h i).is_value
          ∙ taking-value s.ty s.length (rank_at s r) (ring_cell s d ((r + (count s - 1)) % count s)) val
          (ring-at (Known k val) known d ((r + (count s - 1)) % count s) (omega arith) n).is_long
          ∙ ring d ((r + (count s - 1)) % count s) (omega arith) n
          ∙ ap x (origin-next d r h i)

-- ---- its links and bytes, in closed form
pub allgather-links : (s : StepContext) → links_of (allgather_cells s) ≡ 2 * count s + 2 * (count s * count s)
allgather-links s =
    let m = count s in
    let a = links-append (entries s) (rows s (ring_node s) 0 m ++ map (collected s) (places s)) in
    let b = links-append (rows s (ring_node s) 0 m) (map (collected s) (places s)) in
    let c = links-row (full_entry s) 0 m 2 (λ i. refl) in
    let d = links-rows s (ring_node s) 0 m 1 (λ k i. refl) in
    let e = links-row (collected s) 0 m m (λ i. length-row (collect_link s i) 0 m) in
    a ∙ ap₂ (λ x y. x + y) c (b ∙ ap₂ (λ x y. x + y) d e) ∙ (let z : m * 2 + (m * (m * 1) + m * m) ≡ 2 * m + 2 * (m * m) = omega arith in z)

pub allgather-bytes : (s : StepContext) → bytes_in (allgather_cells s) ≡ count s * s.length + 2 * (count s * (count s * s.length))
allgather-bytes s =
    let m = count s in
    let n = s.length in
    let a = bytes-append (entries s) (rows s (ring_node s) 0 m ++ map (collected s) (places s)) in
    let b = bytes-append (rows s (ring_node s) 0 m) (map (collected s) (places s)) in
    let c = bytes-row (full_entry s) 0 m n (λ i. refl) in
    let d = bytes-rows s (ring_node s) 0 m n (λ k i. refl) in
    let e = bytes-row (collected s) 0 m (m * n) (λ i. refl) in
    a ∙ ap₂ (λ x y. x + y) c (b ∙ ap₂ (λ x y. x + y) d e) ∙ (let z : m * n + (m * (m * n) + m * (m * n)) ≡ m * n + 2 * (m * (m * n)) =
    omega arith in z)
