-- What is answered of a shape.
use Rattle.std.specs.Prelude.{◌≡◌, Result, Ok, Err, Some, None}
use Rattle.coll_shape.specs.Outline.{Outline}
use Rattle.schedule_compiler.specs.declared.shapes.drawing.DrawnShape.{DrawnShape}
use Rattle.schedule_compiler.specs.declared.shapes.faults.CompileFault.{CompileFault}
use Rattle.schedule_compiler.specs.declared.shapes.faults.CompileFault.TheVariants.{TooMany, TooLarge, NoMemory}
use Rattle.schedule_compiler.specs.shapes.Drawing.{drawing_of, plan_of}
use Rattle.schedule_compiler.specs.shapes.Footprint.{refusal}
use Rattle.schedule_compiler.specs.shapes.Footprint.Excess.{Links, Bytes}

-- exactly the refusal, or else a value of which P holds
abbrev pub Answers : {X : Type 0} → Outline → (X → Type 0) → Result X CompileFault → Type 0
Answers o P (Ok x) = (refusal o ≡ None) × P x
Answers o P (Err (TooMany k)) = refusal o ≡ Some (record { step = k; name = Links })
Answers o P (Err (TooLarge k)) = refusal o ≡ Some (record { step = k; name = Bytes })
Answers o P (Err NoMemory) = refusal o ≡ None

-- exactly the refusal, or else the plan
abbrev pub Draws : Outline → Result DrawnShape CompileFault → Type 0
Draws o result = Answers o (λ c. (c.plan ≡ plan_of o) × (c.held ≡ (drawing_of o).held)) result
