-- A gather is sound, and the root has all lists, in order of places.
use Rattle.std.proofs.Common.{ℕ, ◌+◌, ◌*◌, ◌%◌, ◌≡◌, ◌<◌, List, refl, length, flat_map, ap, ◌∙◌, sym, arith, [], ◌∷◌, ap₂}
use Rattle.op_laws.proofs.Bytes.{part_all}
use Rattle.plan_core.specs.Plan.{from_to}
use Rattle.plan_core.specs.declared.Cell.{Cell}
use Rattle.plan_steps.proofs.CellKinds.{gathering-sound, gathering-value}
use Rattle.plan_steps.proofs.Entries.{Ground, HasA, IsCell, Known, behind, both_parts, entries-sound}
use Rattle.plan_steps.proofs.Trees.{entry-cells, entry-known}
use Rattle.plan_steps.specs.Collectives.Gather.{gather_cells, gather_link, gathered}
use Rattle.plan_steps.specs.StepContext.{StepContext, count, entry, full_entry, further, rank_at, source_at, entries}
use Rattle.plan_steps.specs.Sounding.{EachAt, SoundNewCell}
use Rattle.ptl_types.specs.Operations.{bytes_of}
use Rattle.plan_core.proofs.Drawing.{length-row}
use Rattle.plan_core.specs.Draw.{links_of, bytes_in}
use Rattle.plan_steps.proofs.StepSizes.{links-cons, links-append, bytes-cons, bytes-append, links-row, entry-bytes}

module _ (k : ℕ → Cell) (s : StepContext) where
  pub gather-sound : (ranks root : ℕ) → Ground ranks k s → root < count s → s.length % bytes_of s.ty ≡ 0 →
      (count s * s.length) % bytes_of s.ty ≡ 0 → ((i : ℕ) → i < count s → HasA k s i)
      → EachAt (IsCell k) s.first (gather_cells s root) → EachAt (SoundNewCell ranks k) s.first (gather_cells s root)
  gather-sound ranks root ground root_in whole whole' has cells =
      both_parts (SoundNewCell ranks k) s s.first (full_entry s) _
      (entries-sound ranks k s ground whole has) (
        gathering-sound ranks k (s.first + count s) s.ty (count s * s.length) s.length (count s) (rank_at s root) (entry s) (λ q. 0)
            (λ q. q) (ground.members root root_in) whole' refl ground.some
            (λ d h. (omega arith, (let l = ap (λ (c : Cell). c.length) (entry-cells k s _ cells d h) in omega (arith, l)), h))
            (λ d e h i q. q),
        tt,
      )

  pub gather-value : (root : ℕ) (val x : ℕ → List ℕ) → ((i : ℕ) → i < count s → (val (source_at s i) ≡ x i) ×
      (length (val (source_at s i)) ≡ s.length)) → EachAt (Known k val) s.first (gather_cells s root)
      → val (further s 0) ≡ flat_map x (from_to 0 (count s))
  gather-value root val x has known =
      let ent = entry-known k val x s _ known has in
      let last = behind (Known k val) s s.first (full_entry s) _ known in
      ap val (let e : s.first + (count s + 0) ≡ s.first + count s = omega arith in e)
      ∙ last.0.is_value
      ∙ gathering-value s.ty (count s * s.length) s.length (count s) (rank_at s root) (entry s) (λ q. 0) (λ q. q) val x refl
      (λ q h. ap length (sym (ent q h).0) ∙ (ent q h).1)
      (λ d h. (h, part_all s.length (val (entry s d)) (ent d h).1 ∙ (ent d h).0)) (λ d e h i q. q)

-- ---- its links and bytes, in closed form
pub gather-links : (s : StepContext) (root : ℕ) → links_of (gather_cells s root) ≡ 3 * count s
gather-links s root =
    let m = count s in
    links-append (entries s) (gathered s root ∷ [])
    ∙ ap₂ (λ x y. x + y) (links-row (full_entry s) 0 m 2 (λ i. refl)) (links-cons (gathered s root) []
    ∙ ap (λ v. v + 0) (length-row (gather_link s) 0 m))
    ∙ (let z : m * 2 + (m + 0) ≡ 3 * m = omega arith in z)

pub gather-bytes : (s : StepContext) (root : ℕ) → bytes_in (gather_cells s root) ≡ 2 * (count s * s.length)
gather-bytes s root =
    let a = bytes-append (entries s) (gathered s root ∷ []) in let b = entry-bytes s in
    let c = bytes-cons (gathered s root) [] in
    omega (arith, a, b, c)
