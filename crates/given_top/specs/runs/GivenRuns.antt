-- A run of a given plan: what is written of it, and the world that it leaves.
use Rattle.std.specs.Prelude.{ℕ, ◌≡◌, List, [], ◌++◌, Option, Some, None}
use Rattle.port_io.specs.Ends.{Outflow}
use Rattle.coll_shape.specs.Outline.{Outline}
use Rattle.cuts.specs.cells.Cells.{AreValues}
use Rattle.job_runs.specs.declared.modes.Mode.{Mode}
use Rattle.job_runs.specs.declared.modes.Mode.TheVariants.{Once, Sim, Run, Trace, Steady}
use Rattle.job_runs.specs.Orders.{orders_in}
use Rattle.job_runs.specs.Runs.{IsInOrder, IsJobRun, IsOfSteady, IsOfWorkers, IsReachedWorld}
use Rattle.run_text.specs.declared.status.Status.TheVariants.{Done, NoMemory, WriteFault}
use Rattle.run_text.specs.Ending.{Written, done}
use Rattle.run_text.specs.Lines.{text_of}
use Rattle.schedule_compiler.specs.Jobs.{JobOf}
use Rattle.worlds.specs.World.{WorldState, memory_in}
use Rattle.given_top.specs.declared.runs.running.GivenRun.{GivenRun}
use Rattle.verdict_laws.specs.GivenJobs.{FitsShape, given_lists}

-- A world of such a schedule in whose memories each cell holds its value.
pub record HoldsGiven (o : Outline) (w : WorldState) : Type 0 where
  pub fits : FitsShape o w.schedule
  pub values : AreValues w.schedule.plan w.inputs (memory_in w)

-- the lists of the results, which the plan and the inputs determine
abbrev pub results_text : Outline → JobOf → List ℕ
results_text o job = text_of o (given_lists job.schedule.plan job.schedule.held job.inputs)

abbrev pub job_in : WorldState → JobOf
job_in w = record { schedule = w.schedule; inputs = w.inputs }

-- what is written of a run that leaves this world
abbrev pub given_text : Mode → Outline → WorldState → List ℕ
given_text Once o w = results_text o (job_in w)
given_text (Sim seed) o w = results_text o (job_in w) ++ orders_in w
given_text (Run workers) o w = results_text o (job_in w)
given_text (Trace workers) o w = results_text o (job_in w) ++ orders_in w
given_text (Steady workers) o w = results_text o (job_in w)

-- how the world came about
abbrev pub RanIn : Mode → WorldState → Type 0
RanIn Once w = IsReachedWorld w
RanIn (Sim seed) w = IsReachedWorld w × IsInOrder seed w
RanIn (Run workers) w = IsOfWorkers workers w
RanIn (Trace workers) w = IsOfWorkers workers w
RanIn (Steady workers) w = IsOfSteady workers w

-- a world of the job at rest, every rank complete, run as the mode asks for it
abbrev pub LeavesGiven : Mode → JobOf → Option WorldState → Type 0
LeavesGiven mode job None = ⊥
LeavesGiven mode job (Some w) = IsJobRun job w × RanIn mode w

-- what is owed where this world is left; without one nothing is
abbrev pub owed_text : Mode → Outline → Option WorldState → List ℕ
owed_text mode o None = []
owed_text mode o (Some w) = given_text mode o w

-- no world is left
abbrev pub RanNothing : GivenRun → Type 0
RanNothing run = run.world ≡ None

-- the text that is due was written, and where it was written whole, or the sink failed, the world whose text it is is handed back;
-- without memory nothing was written and none is
pub record IsGivenRun (mode : Mode) (o : Outline) (job : JobOf) (sink sink' : Outflow) (run : GivenRun) : Type 0 where
  pub written : Written (done (owed_text mode o run.world)) sink sink' run.status
  pub world : run.status ≡ Done → LeavesGiven mode job run.world
  pub world_at_fault : run.status ≡ WriteFault → LeavesGiven mode job run.world
  pub no_memory : run.status ≡ NoMemory → RanNothing run
