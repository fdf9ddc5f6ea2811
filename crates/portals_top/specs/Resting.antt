-- A world of the plan of a shape, and such a world at rest.
use Rattle.std.specs.Prelude.{◌≡◌, None}
use Rattle.coll_shape.specs.Meaning.{AreInputs}
use Rattle.coll_shape.specs.Outline.{Outline}
use Rattle.coll_shape.specs.WellFormed.{IsWellFormed}
use Rattle.schedule_compiler.specs.shapes.Footprint.{refusal}
use Rattle.schedule_compiler.specs.Schedules.{schedule_of}
use Rattle.job_laws.specs.Results.{AreMeant}
use Rattle.worlds.specs.World.{WorldState, memory_in}

-- the shape isn't refused, the world is of its plan, and the world's inputs are its
pub record IsOfShape (o : Outline) (w : WorldState) : Type 0 where
  pub formed : IsWellFormed o
  pub accepted : refusal o ≡ None
  pub given : AreInputs o w.inputs
  pub schedule : w.schedule ≡ schedule_of o

-- and its buffers are what the shape means of them
pub record IsResting (o : Outline) (w : WorldState) : Type 0 where
  pub of_shape : IsOfShape o w
  pub meant : AreMeant o w.inputs (memory_in w)
