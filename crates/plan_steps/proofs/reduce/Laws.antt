-- A reduce is sound, and the root has the fold of all places.
use Rattle.std.proofs.Common.{ℕ, ◌%◌, ◌≡◌, ◌<◌, List, length, map, ◌+◌, ◌-◌, ◌*◌, ap₂, ◌∙◌, arith}
use Rattle.coll_shape.specs.Folding.{folded}
use Rattle.plan_core.specs.Plan.{from_to}
use Rattle.plan_core.specs.declared.Cell.{Cell}
use Rattle.plan_steps.proofs.Entries.{Ground, HasA, IsCell, Known, behind, both_parts, entries-sound}
use Rattle.plan_steps.proofs.Trees.{up-sound, up-value, entry-cells, entry-known}
use Rattle.plan_steps.specs.Collectives.Reduce.{reduce_cells}
use Rattle.plan_steps.specs.StepContext.{StepContext, count, full_entry, source_at, entries}
use Rattle.plan_steps.specs.Sounding.{EachAt, SoundNewCell}
use Rattle.plan_steps.specs.Trees.{up, up_number}
use Rattle.ptl_types.specs.Elements.{starting}
use Rattle.ptl_types.specs.Operations.{bytes_of}
use Rattle.ptl_types.specs.declared.elements.AtomicOp.{AtomicOp}
use Rattle.plan_core.specs.Draw.{links_of, bytes_in}
use Rattle.plan_steps.proofs.StepSizes.{links-append, bytes-append, entry-links, entry-bytes, up-bytes}
use Rattle.plan_steps.proofs.TreeSizes.{up-links}

pub reduce-sound : (ranks : ℕ) (k : ℕ → Cell) (s : StepContext) (root : ℕ) (o : AtomicOp) → Ground ranks k s →
    s.length % bytes_of s.ty ≡ 0 → ((i : ℕ) → i < count s → HasA k s i)
    → EachAt (IsCell k) s.first (reduce_cells s root o) → EachAt (SoundNewCell ranks k) s.first (reduce_cells s root o)
reduce-sound ranks k s root o ground whole has cells =
    both_parts (SoundNewCell ranks k) s s.first (full_entry s) (up s root o)
    (entries-sound ranks k s ground whole has)
    (up-sound k s root o ranks ground.some ground.members whole (entry-cells k s (up s root o) cells)
    (behind (IsCell k) s s.first (full_entry s) (up s root o) cells))

pub reduce-value : (k : ℕ → Cell) (val x : ℕ → List ℕ) (s : StepContext) (root : ℕ) (o : AtomicOp) → root < count s →
    s.length % bytes_of s.ty ≡ 0
    → ((i : ℕ) → i < count s → (val (source_at s i) ≡ x i) × (length (val (source_at s i)) ≡ s.length)) →
    EachAt (Known k val) s.first (reduce_cells s root o)
    → val (up_number s 0) ≡ folded o s.ty (map x (from_to 0 (count s))) (starting o s.ty s.length)
reduce-value k val x s root o root_in whole has known = up-value k s root o val x root_in whole
    (entry-known k val x s (up s root o) known has) (behind (Known k val) s s.first (full_entry s) (up s root o) known)

-- ---- its links and bytes, in closed form
pub reduce-links : (s : StepContext) (root : ℕ) (o : AtomicOp) → 0 < count s →
    links_of (reduce_cells s root o) ≡ 2 * count s + (count s + (count s - 1))
reduce-links s root o pos = links-append (entries s) (up s root o) ∙ ap₂ (λ x y. x + y) (entry-links s) (up-links s root o pos)

pub reduce-bytes : (s : StepContext) (root : ℕ) (o : AtomicOp) → bytes_in (reduce_cells s root o) ≡ 2 * (count s * s.length)
reduce-bytes s root o =
    let a = bytes-append (entries s) (up s root o) in let b = entry-bytes s in let c = up-bytes s root o in omega (arith, a, b, c)
