-- The buffers of a shape, as they stand in the memories of the ranks.
use Rattle.std.specs.Prelude.{ℕ, ◌≡◌, ◌<◌, List, length}
use Rattle.plan_core.specs.Values.{Inputs}
use Rattle.coll_shape.specs.Folding.{at}
use Rattle.coll_shape.specs.Meaning.{lists_of, meaning_of}
use Rattle.coll_shape.specs.Outline.{Outline}
use Rattle.schedule_compiler.specs.shapes.Drawing.{drawing_of, plan_of}
use Rattle.cuts.specs.cells.Cells.{result_in}

-- in these memories each buffer, printed or not, is at each rank what the shape means of the inputs
abbrev pub AreMeant : Outline → Inputs → (ℕ → List ℕ) → Type 0
AreMeant o inputs memory = (b r : ℕ) → b < length o.buffers → r < o.ranks
    → result_in (plan_of o) (drawing_of o).held b r (memory r) ≡ at (lists_of (meaning_of o inputs) b) r

-- in this memory of rank r each buffer is what the shape means of the inputs
abbrev pub AreMeantAt : Outline → Inputs → ℕ → List ℕ → Type 0
AreMeantAt o inputs r memory = (b : ℕ) → b < length o.buffers
    → result_in (plan_of o) (drawing_of o).held b r memory ≡ at (lists_of (meaning_of o inputs) b) r
