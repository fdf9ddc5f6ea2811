-- What the cell that holds a buffer at a rank is, and what it has.
use Rattle.std.specs.Prelude.{ℕ, ◌≡◌, ◌<◌, List, Option, Some, None, [], length}
use Rattle.plan_core.specs.Plan.{Plan, cell}
use Rattle.coll_shape.specs.declared.types.Buffer.{Buffer}
use Rattle.coll_shape.specs.Outline.{list_bytes}

-- a cell of the plan on the rank, of the buffer's type and as long as its lists
pub record IsResultCell (p : Plan) (x : Buffer) (r c : ℕ) : Type 0 where
  pub in_plan : c < length p.cells
  pub rank : (cell p c).rank ≡ r
  pub ty : (cell p c).ty ≡ x.ty
  pub long : (cell p c).length ≡ list_bytes x

-- the cell has the list; where no cell holds it the list is empty
pub data IsResult (val : ℕ → List ℕ) (list : List ℕ) : Option ℕ → Type 0 where
  Holds : (c : ℕ) → val c ≡ list → IsResult val list (Some c)
  IsEmpty : list ≡ [] → IsResult val list None
