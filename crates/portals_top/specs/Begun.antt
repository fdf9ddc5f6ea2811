-- What a call comes to by one thread: it is answered, or a run is left to workers.
use Rattle.std.specs.Prelude.{◌≡◌, ℕ, List, Option, Some, None, Result, Ok, Err}
use Rattle.port_io.specs.Ends.{Inflow, Outflow}
use Rattle.coll_shape.specs.Outline.{Outline}
use Rattle.coll_shape.specs.Meaning.{Lists}
use Rattle.coll_lang.specs.declared.fault.Refusal.{Refusal}
use Rattle.coll_lang.specs.Generated.{generated}
use Rattle.coll_lang.specs.Program.{Chosen, Program}
use Rattle.schedule_compiler.specs.Jobs.{ShapeJobOf}
use Rattle.schedule_compiler.specs.shapes.Footprint.{Refused as Excessive, refusal}
use Rattle.portals_top.specs.declared.begun.Begun.{Begun}
use Rattle.portals_top.specs.declared.begun.Begun.TheVariants as begun
use Rattle.portals_top.specs.declared.begun.Crew.{Crew}
use Rattle.portals_top.specs.declared.begun.Crew.TheVariants as crews
use Rattle.portals_top.specs.declared.ran.Ran.{Ran}
use Rattle.run_text.specs.declared.status.Status.TheVariants.{Done}
use Rattle.job_runs.specs.declared.modes.Mode.{Mode}
use Rattle.job_runs.specs.declared.modes.Mode.TheVariants.{Run, Trace, Steady}
use Rattle.portals_top.specs.declared.words.Command.{Command}
use Rattle.portals_top.specs.declared.words.Command.TheVariants.{Execute, Plan}
use Rattle.portals_top.specs.declared.words.Task.{Task}
use Rattle.portals_top.specs.declared.words.Request.{Request}
use Rattle.portals_top.specs.declared.words.Request.TheVariants.{Do, Large}
use Rattle.run_text.specs.Ending.{Due, Leaves, Written}
use Rattle.portals_top.specs.Answered.{HandsBack}
use Rattle.portals_top.specs.Checked.{AnswersTo}
use Rattle.portals_top.specs.Due.{unread}
use Rattle.portals_top.specs.Formats.{read_as}
use Rattle.portals_top.specs.Left.{nothing_ran}
use Rattle.job_runs.specs.Modes.{HasWorkers}
use Rattle.portals_top.specs.Words.{CanAnswer}

-- the mode in which these workers run
abbrev pub mode_of : Crew → Mode
mode_of (crews.Run workers) = Run workers
mode_of (crews.Trace workers) = Trace workers
mode_of (crews.Steady workers) = Steady workers

-- The workers are those whom the command asks for, there is one, and the job is that of the description, whose plan isn't too large.
abbrev pub IsLeft : Command → Outline → Lists → Option Excessive → Crew → ShapeJobOf → Type 0
IsLeft (Execute mode) o inputs None crew job =
    (mode ≡ mode_of crew) × HasWorkers (mode_of crew) × (job ≡ record { shape = o; inputs = inputs })
IsLeft (Execute mode) o inputs (Some r) crew job = ⊥
IsLeft Plan o inputs r crew job = ⊥

-- no choice text is left to workers, and no text that is refused
abbrev pub IsLeftOfDescribed : Command → Program → Option Chosen → Crew → ShapeJobOf → Type 0
IsLeftOfDescribed c d None crew job = IsLeft c d.shape d.inputs (refusal d.shape) crew job
IsLeftOfDescribed c d (Some choices) crew job = ⊥

abbrev pub IsLeftOf : Command → Result Program (ℕ × Refusal) → Crew → ShapeJobOf → Type 0
IsLeftOf c (Ok d) crew job = IsLeftOfDescribed c d d.choices crew job
IsLeftOf c (Err refusal) crew job = ⊥

-- What a part of a call gives that reads nothing: an answer, or a run that is left to workers, and then nothing is written.
abbrev pub Begins : (Ran → Due) → (Ran → Type 0) → (Crew → ShapeJobOf → Type 0) → Outflow → Outflow → Ran → Begun → Type 0
Begins owed leaves left sink sink' ran (begun.Answered status) =
    Written (owed ran) sink sink' status × HandsBack status (owed ran).status leaves ran
Begins owed leaves left sink sink' ran (begun.Run crew job) = left crew job × (sink' ≡ sink) × (ran ≡ nothing_ran)
Begins owed leaves left sink sink' ran (begun.Large number workers job) = ⊥

-- A run of the text is left to workers, as the words ask: the source was read to its end.
pub record IsLeftRun (r : Option Request) (bytes : List ℕ) (source' : Inflow) (crew : Crew) (job : ShapeJobOf) : Type 0 where
  pub task : Task
  pub asked : r ≡ Some (Do task)
  pub left : IsLeftOf task.command (read_as task.format bytes) crew job
  pub read : Leaves Done source' (unread (Some task) bytes)

-- The run of the description that a number chooses is left to workers, as the words ask: nothing was read.
pub record IsLeftLarge (r : Option Request) (source source' : Inflow) (number workers : ℕ) (job : ShapeJobOf) : Type 0 where
  pub asked : r ≡ Some (Large number workers)
  pub possible : CanAnswer (Large number workers)
  pub shape : job.shape ≡ (generated number).shape
  pub inputs : job.inputs ≡ (generated number).inputs
  pub untouched : source' ≡ source

-- All that holds after the beginning of a call with these words, the source having these bytes: it is answered; or a run is left to
-- workers, the sink took nothing, and no world is handed back.
abbrev pub BeginsCall : Option Request → List ℕ → Inflow → Inflow → Outflow → Outflow → Ran → Begun → Type 0
BeginsCall r bytes source source' sink sink' ran (begun.Answered status) = AnswersTo r bytes source source' sink sink' ran status
BeginsCall r bytes source source' sink sink' ran (begun.Run crew job) =
    IsLeftRun r bytes source' crew job × (sink' ≡ sink) × (ran ≡ nothing_ran)
BeginsCall r bytes source source' sink sink' ran (begun.Large number workers job) =
    IsLeftLarge r source source' number workers job × (sink' ≡ sink) × (ran ≡ nothing_ran)
