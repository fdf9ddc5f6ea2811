-- A call that was begun by one thread, and what workers then leave.
use Rattle.std.proofs.Common.{◌≡◌, ℕ, List, ◌≤◌, length, Option, Some, None, Result, Ok, Err, refl, sym, subst}
use Rattle.port_io.specs.Ends.{Inflow, Outflow}
use Rattle.coll_lang.specs.declared.fault.Refusal.{Refusal}
use Rattle.coll_lang.specs.Generated.{generated}
use Rattle.coll_lang.specs.Program.{Chosen, Program}
use Rattle.coll_lang.specs.declared.whole.TheConstants.{LONGEST_TEXT}
use Rattle.coll_shape.specs.Outline.{Outline}
use Rattle.coll_shape.specs.Meaning.{Lists}
use Rattle.schedule_compiler.specs.Jobs.{ShapeJobOf}
use Rattle.schedule_compiler.specs.shapes.Footprint.{Refused as Excessive, refusal}
use Rattle.portals_top.specs.declared.begun.Begun.{Begun}
use Rattle.portals_top.specs.declared.begun.Begun.TheVariants as begun
use Rattle.portals_top.specs.declared.begun.Crew.{Crew}
use Rattle.portals_top.specs.declared.ran.Ran.{Ran}
use Rattle.run_text.specs.declared.status.Status.{Status}
use Rattle.run_text.specs.declared.status.Status.TheVariants.{Done, Usage, Refused, ReadFault, WriteFault, NoMemory}
use Rattle.portals_top.specs.declared.words.Command.{Command}
use Rattle.portals_top.specs.declared.words.Command.TheVariants.{Execute, Plan}
use Rattle.job_runs.specs.declared.modes.Mode.{Mode}
use Rattle.job_runs.specs.declared.modes.Mode.TheVariants.{Run}
use Rattle.portals_top.specs.declared.words.Request.{Request}
use Rattle.portals_top.specs.declared.words.Request.TheVariants.{Do}
use Rattle.portals_top.specs.declared.words.Task.{Task}
use Rattle.run_text.specs.Ending.{Leaves, Stands, Written, done}
use Rattle.portals_top.specs.Answered.{Answered, HandsBack, LeavesDescribed, LeavesOf, LeavesWorld}
use Rattle.portals_top.specs.Begun.{Begins, BeginsCall, IsLeft, IsLeftLarge, IsLeftOf, IsLeftOfDescribed, IsLeftRun, mode_of}
use Rattle.portals_top.specs.Checked.{AnswersTo}
use Rattle.portals_top.specs.Due.{due_compiled, due_described, due_of, mode_text, unread}
use Rattle.portals_top.specs.Formats.{read_as}
use Rattle.portals_top.specs.Large.{Summed, summary_text}
use Rattle.portals_top.specs.Left.{nothing_ran}
use Rattle.run_text.proofs.Ended.{leaves}
use Rattle.portals_top.proofs.Answering.{answered-read}
use Rattle.run_text.proofs.Told.{Told, short-text}
use Rattle.portals_top.proofs.Alike.{read-long, same-read}

-- a text that is left to workers isn't refused, so it isn't too long
left-short : (task : Task) (text : List ℕ) (crew : Crew) (job : ShapeJobOf) → IsLeftOf task.command (read_as task.format text) crew job
    → length text ≤ LONGEST_TEXT
left-short task text crew job left =
    short-text LONGEST_TEXT text (λ long. subst (λ r. IsLeftOf task.command r crew job) (read-long task.format text long) left)

-- after a text was read, what was begun
pub begun-read : (task : Task) (text : List ℕ) (source source' : Inflow) (sink sink' : Outflow) (ran : Ran) (b : Begun)
    (told : Told LONGEST_TEXT source.left source'.left text)
    → Begins (λ after. due_of task.command after (read_as task.format text)) (LeavesOf task.command (read_as task.format text))
    (IsLeftOf task.command (read_as task.format text)) sink sink' ran b
    → BeginsCall (Some (Do task)) told.bytes source source' sink sink' ran b
begun-read task text source source' sink sink' ran (begun.Answered status) told both =
    answered-read task text source source' sink sink' ran status told both.0 both.1
begun-read task text source source' sink sink' ran (begun.Run crew job) told left = (
  record {
    task = task;
    asked = refl;
    left = subst (λ r. IsLeftOf task.command r crew job) (sym (same-read task.format told.bytes text told.alike)) left.0;
    read = leaves LONGEST_TEXT Done Done text source source' told (λ is. left-short task text crew job left.0) refl;
  },
  left.1,
  left.2,
)
begun-read task text source source' sink sink' ran (begun.Large number workers job) told none = absurd none

-- ---- what workers leave is what is owed
module _ (crew : Crew) (job : ShapeJobOf) (ran : Ran) (sink sink' : Outflow) (status : Status)
    (written : Written (done (mode_text (mode_of crew) job.shape job.inputs ran.world)) sink sink' status)
    (handed : HandsBack status Done (LeavesWorld (Execute (mode_of crew)) job.shape job.inputs) ran) where
  -- for the job of this shape and these inputs, in the crew's mode
  of-job : (mode : Mode) (o : Outline) (inputs : Lists) (j : ShapeJobOf) → mode ≡ mode_of crew → job ≡ j
      → j ≡ record { shape = o; inputs = inputs }
      → Written (done (mode_text mode o inputs ran.world)) sink sink' status × HandsBack status Done (LeavesWorld (Execute mode) o inputs)
      ran
  of-job mode o inputs j same is parts =
      subst (λ m. Written (done (mode_text m o inputs ran.world)) sink sink' status ×
      HandsBack status Done (LeavesWorld (Execute m) o inputs) ran)
      (sym same)
      (subst (λ (x : ShapeJobOf). Written (done (mode_text (mode_of crew) x.shape x.inputs ran.world)) sink sink' status
      × HandsBack status Done (LeavesWorld (Execute (mode_of crew)) x.shape x.inputs) ran) (subst (λ x. job ≡ x) parts is)
      (written, handed))

  of-compiled : (c : Command) (o : Outline) (inputs : Lists) (r : Option Excessive) → IsLeft c o inputs r crew job
      → Written (due_compiled c o inputs ran.world r) sink sink' status
      × HandsBack status (due_compiled c o inputs ran.world r).status (LeavesWorld c o inputs) ran
  of-compiled (Execute mode) o inputs None left = of-job mode o inputs job left.0 refl left.2
  of-compiled (Execute mode) o inputs (Some r) left = absurd left
  of-compiled Plan o inputs r left = absurd left

  of-described : (c : Command) (d : Program) (choices : Option Chosen) → IsLeftOfDescribed c d choices crew job
      → Written (due_described c d ran choices) sink sink' status
      × HandsBack status (due_described c d ran choices).status (LeavesDescribed c d choices) ran
  of-described c d None left = of-compiled c d.shape d.inputs (refusal d.shape) left
  of-described c d (Some choices) left = absurd left

  of-text : (c : Command) (r : Result Program (ℕ × Refusal)) → IsLeftOf c r crew job
      → Written (due_of c ran r) sink sink' status × HandsBack status (due_of c ran r).status (LeavesOf c r) ran
  of-text c (Ok d) left = of-described c d d.choices left
  of-text c (Err refusal) left = absurd left

-- what stays in the source was read before
stays-read : (status : Status) (source' : Inflow) (rest : List ℕ) → Leaves Done source' rest → Leaves status source' rest
stays-read Done source' rest read = read
stays-read Usage source' rest read = read.0
stays-read Refused source' rest read = read.0
stays-read ReadFault source' rest read = tt
stays-read WriteFault source' rest read = read.0
stays-read NoMemory source' rest read = tt

-- the answer of a run that was left to workers
pub answered-left : (r : Option Request) (bytes : List ℕ) (source source' : Inflow) (sink between sink' : Outflow) (ran : Ran)
    (status : Status)
    (crew : Crew) (job : ShapeJobOf) → IsLeftRun r bytes source' crew job → between ≡ sink
    → Written (done (mode_text (mode_of crew) job.shape job.inputs ran.world)) between sink' status
    → HandsBack status Done (LeavesWorld (Execute (mode_of crew)) job.shape job.inputs) ran
    → AnswersTo r bytes source source' sink sink' ran status
answered-left r bytes source source' sink between sink' ran status crew job left same written handed =
    let task = left.task in
    let both = of-text crew job ran sink sink' status
    (subst (λ s. Written (done (mode_text (mode_of crew) job.shape job.inputs ran.world)) s sink' status) same written) handed
    task.command (read_as task.format bytes) left.left in
    let answered : Answered (Some task) bytes source source' sink sink' ran status = record {
      allowed = both.0.allowed;
      read_fault = λ is. absurd (both.0.no_read is);
      write_fault = λ is. (subst (λ s. Stands s sink sink' (due_of task.command ran (read_as task.format bytes)).text) is both.0.text).rose;
      text = both.0.text;
      rest = stays-read status source' (unread (Some task) bytes) left.read;
      untouched = λ is. absurd (cc);
      world = both.1;
    } in
    subst (λ x. AnswersTo x bytes source source' sink sink' ran status) (sym left.asked) answered

-- the answer of a run of the generated description
pub answered-large : (r : Option Request) (bytes : List ℕ) (source source' : Inflow) (sink between sink' : Outflow) (ran : Ran)
    (status : Status)
    (number workers : ℕ) (job : ShapeJobOf) → IsLeftLarge r source source' number workers job → between ≡ sink
    → Written (done (summary_text number)) between sink' status
    → HandsBack status Done (LeavesWorld (Execute (Run workers)) (generated number).shape (generated number).inputs) ran
    → AnswersTo r bytes source source' sink sink' ran status
answered-large r bytes source source' sink between sink' ran status number workers job left same written handed =
    let own = subst (λ s. Written (done (summary_text number)) s sink' status) same written in
    let summed : Summed number workers source source' sink sink' ran status = record {
      written = own;
      write_fault = λ is. (subst (λ s. Stands s sink sink' (summary_text number)) is own.text).rose;
      untouched = left.untouched;
      world = handed;
    } in
    subst (λ x. AnswersTo x bytes source source' sink sink' ran status) (sym left.asked) summed

-- where there was no memory for the generated description
pub summed-no_memory : (number workers : ℕ) (source : Inflow) (sink : Outflow)
    → Summed number workers source source sink sink nothing_ran NoMemory
summed-no_memory number workers source sink = record {
  written = record { allowed = λ is. absurd (cc); no_read = λ is. absurd (cc); text = refl };
  write_fault = λ is. absurd (cc);
  untouched = refl;
  world = refl;
}
