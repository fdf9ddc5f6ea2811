-- Plans in which nothing is combined.
use Rattle.std.specs.Prelude.{ℕ, ◌<◌, ◌≡◌, None, length}
use Rattle.coll_shape.specs.Outline.{Outline}
use Rattle.given_lines.specs.declared.given.Mark.{Mark}
use Rattle.given_lines.specs.declared.given.Mark.TheVariants.{Result, Enter, Leave}
use Rattle.plan_core.specs.Plan.{Plan, cell}

-- no cell has an operation
abbrev pub IsBare : Plan → Type 0
IsBare p = (c : ℕ) → c < length p.cells → (cell p c).op ≡ None

-- where it is a result's, the line names a buffer of the shape, one of its ranks and a cell of the plan
abbrev pub IsNamed : Plan → Outline → Mark → Type 0
IsNamed p o (Result b r c) = (b < length o.buffers) × ((r < o.ranks) × (c < length p.cells))
IsNamed p o (Enter s r c) = Unit {0}
IsNamed p o (Leave s r c) = Unit {0}
