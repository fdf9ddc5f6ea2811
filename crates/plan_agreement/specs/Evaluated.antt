-- What the cells of a plan are computed from, slice by slice.
use Rattle.std.specs.Prelude.{ℕ, ◌+◌, ◌<◌, ◌≡◌, List, length}
use Rattle.plan_core.specs.Plan.{Plan}
use Rattle.plan_slices.specs.declared.cut.Cut.{Cut}
use Rattle.plan_slices.specs.Slices.{AreCuts, cut_at, sliced}
use Rattle.plan_terms.specs.terms.Terms.{Table}
use Rattle.plan_terms.specs.Cells.{AreCells}

-- how the cells are cut, and the places of a slice of each
pub record Evaluated : Type 0 where
  pub cuts : List Cut
  pub places : List (List ℕ)

-- the plan can be cut so, and at these places stands what the cells of a slice's plan hold
pub record IsEvaluated (p : Plan) (count : ℕ) (t : Table) (v : Evaluated) : Type 0 where
  pub cuts : AreCuts p v.cuts
  pub are : AreCells (sliced p v.cuts) count t (length (sliced p v.cuts).cells) v.places

-- the cells of so many lists after the go cells of so many ranks are cut alike
abbrev pub CutAlike : Evaluated → Evaluated → ℕ → ℕ → Type 0
CutAlike v w ranks lists = (i : ℕ) → i < lists → cut_at v.cuts (ranks + i) ≡ cut_at w.cuts (ranks + i)
