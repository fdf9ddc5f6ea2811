-- A job that can be run.
use Rattle.std.specs.Prelude.{length}
use Rattle.plan_core.specs.Sound.{AreInputsOf, SoundPlan}
use Rattle.schedule_compiler.specs.Jobs.{JobOf}

-- its plan is sound, and its inputs are of it
pub record IsSound (job : JobOf) : Type 0 where
  pub plan : SoundPlan job.schedule.plan (length job.inputs)
  pub inputs : AreInputsOf job.schedule.plan job.inputs
