-- What a step of a shape begins with, and the cells that hold what it makes.
use Rattle.std.specs.Prelude.{ℕ, List, Option, Some, None, length, map, get_or}
use Rattle.plan_core.specs.Plan.{Plan}
use Rattle.plan_core.specs.Draw.{HeldCells, held_cell}
use Rattle.coll_shape.specs.Outline.{Outline, list_bytes, read_buffer}
use Rattle.coll_shape.specs.Collectives.{holding_places}
use Rattle.plan_steps.specs.declared.ends.StepExit.{StepExit}
use Rattle.plan_steps.specs.StepContext.{StepContext}
use Rattle.plan_steps.specs.Steps.{held_by}

-- a cell that isn't there reads as cell 0: where a step reads a buffer, a cell holds it
abbrev pub or_0 : Option ℕ → ℕ
or_0 None = 0
or_0 (Some c) = c

-- its cell at rank r
abbrev pub source_in : HeldCells → Option ℕ → ℕ → ℕ
source_in h None r = 0
source_in h (Some a) r = or_0 (held_cell h a r)

-- what a step on the members g begins with, that reads buffer a
abbrev pub site_of : Outline → Plan → HeldCells → List ℕ → Option ℕ → List ℕ → StepContext
site_of o p h e a g = record {
  members = g;
  first = length p.cells;
  exits = map (λ r. get_or e r 0) g;
  sources = map (source_in h a) g;
  ty = (read_buffer o a).ty;
  length = list_bytes (read_buffer o a);
  holding = holding_places g (read_buffer o a).spread.holders;
}

-- the cells that hold the new buffer, if one is made
abbrev pub held_after : Option ℕ → HeldCells → List ℕ → List StepExit → HeldCells
held_after None h g ends = h
held_after (Some b) h g ends = held_by h g ends b (length g)
