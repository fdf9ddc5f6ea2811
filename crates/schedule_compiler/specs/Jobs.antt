-- A job: a schedule with the values of its inputs.
use Rattle.std.specs.Prelude.{ℕ, ◌<◌, ◌≡◌, None, [], length, get_or}
use Rattle.plan_core.specs.Sound.{AreInputsOf}
use Rattle.plan_core.specs.Values.{Inputs}
use Rattle.coll_shape.specs.Meaning.{AreInputs}
use Rattle.coll_shape.specs.Outline.{Outline}
use Rattle.schedule_compiler.specs.shapes.Footprint.{refusal}
use Rattle.schedule_compiler.specs.Schedules.{ScheduleOf, schedule_of}

pub record JobOf : Type 0 where
  pub schedule : ScheduleOf
  pub inputs : Inputs

-- inputs of a schedule: as many as it asks for, each with a list for each rank, of the length of its cell
pub record AreInputsFor (s : ScheduleOf) (inputs : Inputs) : Type 0 where
  pub many : length inputs ≡ s.inputs
  pub lists : (b : ℕ) → b < length inputs → length (get_or inputs b []) ≡ s.plan.ranks
  pub fit : AreInputsOf s.plan inputs

-- a job of a shape is a job of its plan
abbrev pub job_of : Outline → Inputs → JobOf
job_of o inputs = record { schedule = schedule_of o; inputs = inputs }

-- ---- with its shape
pub record ShapeJobOf : Type 0 where
  pub shape : Outline
  pub inputs : Inputs

-- the shape isn't refused, the inputs are its, and the job is that of its plan
pub record IsJobOf (o : Outline) (job : JobOf) : Type 0 where
  pub accepted : refusal o ≡ None
  pub made : job ≡ job_of o job.inputs
  pub given : AreInputs o job.inputs
