-- What is seen of a frame, and what its fields keep.
use Rattle.std.specs.Prelude.{◌≡◌, List}
use Rattle.pair_wires.specs.Lanes.{Plain}
use Rattle.plan_core.specs.Values.{Inputs}
use Rattle.schedule_compiler.specs.Schedules.{ScheduleOf}
use Rattle.schedule_compiler.specs.Jobs.{JobOf}
use Rattle.worlds.specs.declared.parts.traffic.Traffic.{Traffic}
use Rattle.worlds.specs.opening.Frames.{IsBare, frame_setting}

-- the schedule and its inputs, and the lanes by source, target, request before answer
pub record FrameState : Type 0 where
  pub schedule : ScheduleOf
  pub inputs : Inputs
  pub lanes : List Plain

pub record AreFramed (job : JobOf) (t : Traffic) : Type 0 where
  pub setting : t.setting ≡ frame_setting job.schedule.plan.ranks
  pub bare : IsBare job.schedule.plan job.inputs t
