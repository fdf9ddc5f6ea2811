-- What `compile` answers, and where a cell lies.
use Rattle.std.specs.Prelude.{ℕ, ◌≡◌, Result}
use Rattle.plan_core.specs.Plan.{Plan, cell}
use Rattle.plan_core.specs.calls.Calls.{cell_start}
use Rattle.coll_shape.specs.Outline.{Outline}
use Rattle.schedule_compiler.specs.declared.shapes.faults.CompileFault.{CompileFault}
use Rattle.schedule_compiler.specs.shapes.Compiling.{Answers}
use Rattle.schedule_compiler.specs.declared.schedule.Place.{Place}
use Rattle.schedule_compiler.specs.Schedules.{ScheduleOf, schedule_of}

-- exactly the refusal, or else the shape's schedule, which is that of its plan
abbrev pub Compiles : Outline → Result ScheduleOf CompileFault → Type 0
Compiles o result = Answers o (λ s. s ≡ schedule_of o) result

-- in its rank's region
abbrev pub place_of : Plan → ℕ → Place
place_of p c = record { rank = (cell p c).rank; start = cell_start p c; length = (cell p c).length }
