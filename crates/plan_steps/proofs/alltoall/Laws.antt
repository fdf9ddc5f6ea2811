-- An alltoall is sound, and each place has its blocks: m bytes for each place.
use Rattle.std.proofs.Common.{ℕ, suc, ◌+◌, ◌*◌, ◌/◌, ◌%◌, ◌≡◌, ◌≤◌, ◌<◌, List, length, flat_map, ap, ◌∙◌, sym, arith, refl, map, ap₂}
use Rattle.op_laws.proofs.Bytes.{length-part}
use Rattle.plan_core.specs.Plan.{from_to}
use Rattle.plan_core.specs.declared.Cell.{Cell}
use Rattle.plan_steps.proofs.CellKinds.{gathering, gathering-sound, gathering-value}
use Rattle.plan_steps.proofs.Entries.{Ground, HasA, IsCell, Known, behind, both_parts, each_places, entries-sound, of_places}
use Rattle.plan_steps.proofs.Trees.{entry-cells, entry-known}
use Rattle.plan_steps.specs.Collectives.Alltoall.{alltoall_cells, exchange_link, exchanged}
use Rattle.plan_steps.specs.StepContext.{StepContext, count, entry, full_entry, further, rank_at, source_at, places, entries}
use Rattle.plan_steps.specs.Sounding.{EachAt, SoundNewCell}
use Rattle.ptl_types.specs.Elements.{part}
use Rattle.ptl_types.specs.Operations.{bytes_of}
use Rattle.std.proofs.Math.Nat.{mul-le-mul_right}
use Rattle.plan_core.proofs.Drawing.{length-row}
use Rattle.plan_core.specs.Draw.{links_of, bytes_in}
use Rattle.plan_steps.proofs.StepSizes.{links-append, bytes-append, links-row, bytes-row, entry-bytes}

module _ (k : ℕ → Cell) (s : StepContext) where
  pub alltoall-sound : (ranks m : ℕ) → Ground ranks k s → s.length % bytes_of s.ty ≡ 0 → s.length / count s ≡ m → s.length ≡ count s * m →
      ((i : ℕ) → i < count s → HasA k s i)
      → EachAt (IsCell k) s.first (alltoall_cells s) → EachAt (SoundNewCell ranks k) s.first (alltoall_cells s)
  alltoall-sound ranks m ground whole is_m all has cells =
      both_parts (SoundNewCell ranks k) s s.first (full_entry s) _
      (entries-sound ranks k s ground whole has)
      (each_places (SoundNewCell ranks k) s (s.first + count s) (λ r. gathering s.ty s.length (s.length / count s) (count s) (rank_at s r)
      (entry s) (λ q. r * (s.length / count s)) (λ q. q))
      (λ r h. gathering-sound ranks k (s.first + count s + r) s.ty s.length (s.length / count s) (count s) (rank_at s r) (entry s)
      (λ q. r * (s.length / count s)) (λ q. q) (ground.members r h) whole (all ∙ ap (λ v. count s * v) (sym is_m)) ground.some
      (λ d i. (
        omega arith,
        (let l = ap (λ (c : Cell). c.length) (entry-cells k s _ cells d i) in let w = before r h in
            omega (arith, l, w, all, is_m)),
        i,
      )) (λ d e i j q. q)))
    where
      before : (r : ℕ) → r < count s → r * (s.length / count s) + s.length / count s ≤ s.length
      before r h =
          let e : suc r * (s.length / count s) ≡ r * (s.length / count s) + s.length / count s = omega arith in
          let l = mul-le-mul_right (s.length / count s) h in
          let q : count s * (s.length / count s) ≡ s.length = ap (λ v. count s * v) is_m ∙ sym all in
          omega (arith, e, l, q)

  pub alltoall-value : (m : ℕ) (val x : ℕ → List ℕ) → s.length / count s ≡ m → s.length ≡ count s * m →
      ((i : ℕ) → i < count s → (val (source_at s i) ≡ x i) × (length (val (source_at s i)) ≡ s.length)) →
      EachAt (Known k val) s.first (alltoall_cells s)
      → (r : ℕ) → r < count s → val (further s r) ≡ flat_map (λ q. part (r * m) m (x q)) (from_to 0 (count s))
  alltoall-value m val x is_m all has known r h =
      let ent = entry-known k val x s _ known has in
      let last = of_places (Known k val) s (s.first + count s) _ (behind (Known k val) s s.first (full_entry s) _ known) r h in
      let full : s.length ≡ count s * (s.length / count s) = all ∙ ap (λ v. count s * v) (sym is_m) in
      ap val (let e : s.first + (count s + r) ≡ s.first + count s + r = omega arith in e)
      ∙ last.is_value
      ∙ gathering-value s.ty s.length (s.length / count s) (count s) (rank_at s r) (entry s) (λ q. r * (s.length / count s)) (λ q. q) val
      (λ q. part (r * (s.length / count s)) (s.length / count s) (x q)) full
      (λ q i. let l = ap length (sym (ent q i).0) ∙ (ent q i).1 in length-part (r * (s.length / count s)) (s.length / count s) (x q)
      (let w = before r h in omega (arith, l, w)))
      (λ d i. (i, ap (part (r * (s.length / count s)) (s.length / count s)) (ent d i).0)) (λ d e i j q. q)
      ∙ ap (λ v. flat_map (λ q. part (r * v) v (x q)) (from_to 0 (count s))) is_m
    where
      before : (r : ℕ) → r < count s → r * (s.length / count s) + s.length / count s ≤ s.length
      before r h =
          let e : suc r * (s.length / count s) ≡ r * (s.length / count s) + s.length / count s = omega arith in
          let l = mul-le-mul_right (s.length / count s) h in
          let q : count s * (s.length / count s) ≡ s.length = ap (λ v. count s * v) is_m ∙ sym all in
          omega (arith, e, l, q)

-- ---- its links and bytes, in closed form
pub alltoall-links : (s : StepContext) → links_of (alltoall_cells s) ≡ 2 * count s + count s * count s
alltoall-links s =
    let m = count s in
    links-append (entries s) (map (exchanged s) (places s))
    ∙ ap₂ (λ x y. x + y) (links-row (full_entry s) 0 m 2 (λ i. refl))
    (links-row (exchanged s) 0 m m (λ i. length-row (exchange_link s i) 0 m))
    ∙ (let z : m * 2 + m * m ≡ 2 * m + m * m = omega arith in z)

pub alltoall-bytes : (s : StepContext) → bytes_in (alltoall_cells s) ≡ 2 * (count s * s.length)
alltoall-bytes s =
    let a = bytes-append (entries s) (map (exchanged s) (places s)) in let b = entry-bytes s in
    let c = bytes-row (exchanged s) 0 (count s) s.length (λ i. refl) in
    omega (arith, a, b, c)
