-- What is seen of a schedule: the plan, the cells that hold its results, by buffer and rank, and for how many inputs it is.
use Rattle.std.specs.Prelude.{ℕ}
use Rattle.plan_core.specs.Plan.{Plan}
use Rattle.plan_core.specs.Draw.{HeldCells}
use Rattle.coll_shape.specs.Outline.{Outline}
use Rattle.schedule_compiler.specs.shapes.Drawing.{drawing_of, plan_of}

pub record ScheduleOf : Type 0 where
  pub plan : Plan
  pub held : HeldCells
  pub inputs : ℕ

-- of these parts
abbrev pub scheduled : Plan → HeldCells → ℕ → ScheduleOf
scheduled p h n = record { plan = p; held = h; inputs = n }

-- that of a shape is that of its plan
abbrev pub schedule_of : Outline → ScheduleOf
schedule_of o = scheduled (plan_of o) (drawing_of o).held o.inputs
