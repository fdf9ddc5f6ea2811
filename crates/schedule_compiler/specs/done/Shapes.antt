-- What is answered of a shape.
use Rattle.std.specs.Prelude.{◌≡◌, Result}
use Rattle.coll_shape.specs.Outline.{Outline}
use Rattle.plan_core.specs.Plan.{Plan}
use Rattle.schedule_compiler.specs.declared.shapes.faults.CompileFault.{CompileFault}
use Rattle.schedule_compiler.specs.shapes.Drawing.{plan_of}
use Rattle.schedule_compiler.specs.shapes.Compiling.{Answers}

-- exactly the refusal, or else the plan, which a counted plan is seen as
abbrev pub Counts : Outline → Result Plan CompileFault → Type 0
Counts o result = Answers o (λ plan. plan ≡ plan_of o) result
