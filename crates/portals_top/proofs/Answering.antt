-- What holds for the text that was read holds for the bytes of the source.
use Rattle.std.proofs.Common.{◌≡◌, ◌≢◌, ℕ, ◌≤◌, List, [], length, Option, Some, None, Result, Ok, Err, refl, sym, subst}
use Rattle.port_io.specs.Counts.{Rose}
use Rattle.port_io.specs.Ends.{Inflow, Outflow}
use Rattle.coll_lang.specs.declared.fault.Refusal.{Refusal}
use Rattle.coll_lang.specs.Program.{Chosen, Program}
use Rattle.coll_lang.specs.declared.whole.TheConstants.{LONGEST_TEXT}
use Rattle.coll_shape.specs.Outline.{Outline}
use Rattle.coll_shape.specs.Meaning.{Lists}
use Rattle.plan_core.specs.Plan.{Plan as Drawn}
use Rattle.schedule_compiler.specs.shapes.Drawing.{plan_of}
use Rattle.schedule_compiler.specs.shapes.Footprint.{Excess, Refused as Excessive, refusal}
use Rattle.run_text.specs.Plans.{plan_text}
use Rattle.worlds.specs.World.{WorldState}
use Rattle.plan_choice.specs.World.{ChoiceState}
use Rattle.portals_top.specs.declared.ran.Ran.{Ran}
use Rattle.run_text.specs.declared.status.Status.{Status}
use Rattle.run_text.specs.declared.status.Status.TheVariants.{Done, Usage, Refused, ReadFault, WriteFault, NoMemory}
use Rattle.portals_top.specs.declared.words.Command.{Command}
use Rattle.portals_top.specs.declared.words.Command.TheVariants.{Execute, Plan}
use Rattle.job_runs.specs.declared.modes.Mode.{Mode}
use Rattle.job_runs.specs.declared.modes.Mode.TheVariants.{Once, Sim, Run, Trace, Steady}
use Rattle.run_text.specs.Ending.{IsTold, MayAnswer, Stands, Written, done, refused}
use Rattle.run_text.specs.Refused.{step_line}
use Rattle.portals_top.specs.Due.{due, due_chosen, due_compiled, due_described, due_in_mode, due_of, excess_name}
use Rattle.portals_top.specs.declared.words.Task.{Task}
use Rattle.portals_top.specs.Formats.{read_as}
use Rattle.portals_top.specs.Left.{nothing_ran}
use Rattle.portals_top.specs.Answered.{LeavesOf, HandsBack, Answered}
use Rattle.run_text.proofs.Ended.{leaves, stays}
use Rattle.run_text.proofs.Told.{Told, short-text, told-any}
use Rattle.portals_top.proofs.Alike.{read-long, same-read}

done-short : (task : Task) (ran : Ran) (text : List ℕ) → (due_of task.command ran (read_as task.format text)).status ≡ Done →
    length text ≤ LONGEST_TEXT
done-short task ran text done =
    short-text LONGEST_TEXT text (λ long.
    let refused : Refused ≡ Done = subst (λ r. (due_of task.command ran r).status ≡ Done) (read-long task.format text long) done in
    absurd (cc))

-- after a text was read, and answered
pub answered-read : (task : Task) (text : List ℕ) (source source' : Inflow) (sink sink' : Outflow) (ran : Ran) (status : Status)
    (told : Told LONGEST_TEXT source.left source'.left text)
    → Written (due_of task.command ran (read_as task.format text)) sink sink' status →
    HandsBack status (due_of task.command ran (read_as task.format text)).status (LeavesOf task.command (read_as task.format text)) ran
    → Answered (Some task) told.bytes source source' sink sink' ran status
answered-read task text source source' sink sink' ran status told written handed = let same =
    sym (same-read task.format told.bytes text
    told.alike) in record {
      allowed = subst (λ r. MayAnswer status (due_of task.command ran r).status) same written.allowed;
      read_fault = λ is. absurd (written.no_read is);
      write_fault = λ is. (subst (λ s. Stands s sink sink' (due_of task.command ran (read_as task.format text)).text) is written.text).rose;
      text = subst (λ r. Stands status sink sink' (due_of task.command ran r).text) same written.text;
      rest = leaves LONGEST_TEXT (due_of task.command ran (read_as task.format text)).status status text source source' told
          (done-short task ran text) written.allowed;
      untouched = λ is. absurd (cc);
      world = subst (λ r. HandsBack status (due_of task.command ran r).status (LeavesOf task.command r) ran) same handed;
    }

compiled-owed : (command : Command) (o : Outline) (inputs : Lists) (ran : Option WorldState) (r : Option Excessive) →
    (due_compiled command o inputs ran r).status ≢ Usage
compiled-owed command o inputs ran None = λ is. absurd (cc)
compiled-owed command o inputs ran (Some r) = λ is. absurd (cc)

mode-owed : (mode : Mode) (c : Chosen) (ran : Option ChoiceState) → (due_in_mode mode c ran).status ≢ Usage
mode-owed Once c ran = λ is. absurd (cc)
mode-owed (Sim seed) c ran = λ is. absurd (cc)
mode-owed (Run workers) c ran = λ is. absurd (cc)
mode-owed (Trace workers) c ran = λ is. absurd (cc)
mode-owed (Steady workers) c ran = λ is. absurd (cc)

chosen-owed : (command : Command) (c : Chosen) (ran : Option ChoiceState) → (due_chosen command c ran).status ≢ Usage
chosen-owed (Execute mode) c ran = mode-owed mode c ran
chosen-owed Plan c ran = λ is. absurd (cc)

described-owed : (command : Command) (d : Program) (ran : Ran) (choices : Option Chosen) →
    (due_described command d ran choices).status ≢ Usage
described-owed command d ran None = compiled-owed command d.shape d.inputs ran.world (refusal d.shape)
described-owed command d ran (Some choices) = chosen-owed command choices ran.choice

-- a command owes no usage line
pub reads-owed : (command : Command) (ran : Ran) (r : Result Program (ℕ × Refusal)) → (due_of command ran r).status ≢ Usage
reads-owed command ran (Ok d) = described-owed command d ran d.choices
reads-owed command ran (Err refusal) = λ is. absurd (cc)

-- the source failed
pub answered-failed : (task : Task) (source source' : Inflow) (sink : Outflow) → Rose source.faults source'.faults
    → (bytes : List ℕ) × IsTold source.left bytes × Answered (Some task) bytes source source' sink sink nothing_ran ReadFault
answered-failed task source source' sink rose =
    let any = told-any source.left in (
      any.0,
      any.1,
      record {
        allowed = reads-owed task.command nothing_ran (read_as task.format any.0);
        read_fault = λ is. rose;
        write_fault = λ is. absurd (cc);
        text = refl;
        rest = tt;
        untouched = λ is. absurd (cc);
        world = refl;
      },
    )

-- there was no memory to read
pub answered-no_memory : (task : Task) (source source' : Inflow) (sink : Outflow)
    → (bytes : List ℕ) × IsTold source.left bytes × Answered (Some task) bytes source source' sink sink nothing_ran NoMemory
answered-no_memory task source source' sink =
    let any = told-any source.left in (
      any.0,
      any.1,
      record {
        allowed = reads-owed task.command nothing_ran (read_as task.format any.0);
        read_fault = λ is. absurd (cc);
        write_fault = λ is. absurd (cc);
        text = refl;
        rest = tt;
        untouched = λ is. absurd (cc);
        world = refl;
      },
    )

no-world-usage : (leaves : Ran → Type 0) (status : Status) → MayAnswer status Usage → HandsBack status Usage leaves nothing_ran
no-world-usage leaves Done allowed = absurd (cc)
no-world-usage leaves Usage allowed = refl
no-world-usage leaves Refused allowed = refl
no-world-usage leaves ReadFault allowed = refl
no-world-usage leaves WriteFault allowed = refl
no-world-usage leaves NoMemory allowed = refl

-- where a text is refused, no world is handed back
pub no-world-refused : (leaves : Ran → Type 0) (status : Status) → MayAnswer status Refused → HandsBack status Refused leaves nothing_ran
no-world-refused leaves Done allowed = absurd (cc)
no-world-refused leaves Usage allowed = refl
no-world-refused leaves Refused allowed = refl
no-world-refused leaves ReadFault allowed = refl
no-world-refused leaves WriteFault allowed = refl
no-world-refused leaves NoMemory allowed = refl

-- where none is to be left, none is handed back
pub no-world : (leaves : Ran → Type 0) (status owed : Status) → leaves nothing_ran → HandsBack status owed leaves nothing_ran
no-world leaves Done owed none = none
no-world leaves Usage owed none = refl
no-world leaves Refused owed none = refl
no-world leaves ReadFault owed none = refl
no-world leaves WriteFault Done none = none
no-world leaves WriteFault Usage none = refl
no-world leaves WriteFault Refused none = refl
no-world leaves WriteFault ReadFault none = refl
no-world leaves WriteFault WriteFault none = refl
no-world leaves WriteFault NoMemory none = refl
no-world leaves NoMemory owed none = refl

-- nor where the plan is too large, or there was no memory
pub no-world-excess : (leaves : Ran → Type 0) (command : Command) (o : Outline) (inputs : Lists) (ran : Option WorldState)
    (r : Option Excessive) (status : Status)
    → MayAnswer status (due_compiled command o inputs ran r).status → (r ≡ None → status ≡ NoMemory) →
    HandsBack status (due_compiled command o inputs ran r).status leaves nothing_ran
no-world-excess leaves command o inputs ran None status allowed memory = subst (λ s. HandsBack s Done leaves nothing_ran)
    (sym (memory refl)) refl
no-world-excess leaves command o inputs ran (Some r) status allowed memory = no-world-refused leaves status allowed

-- what is owed where the plan is too large, where there was no memory, and where it was written
pub excess-owed : (o : Outline) (k : ℕ) (name : Excess) (r : Option Excessive) → r ≡ Some (record { step = k; name = name }) →
    (command : Command) (inputs : Lists) (ran : Option WorldState)
    (sink sink' : Outflow) (status : Status) → Written (refused (step_line o k) (excess_name name)) sink sink' status →
    Written (due_compiled command o inputs ran r) sink sink' status
excess-owed o k name r is command inputs ran sink sink' status written =
    subst (λ x. Written (due_compiled command o inputs ran x) sink sink' status) (sym is) written

pub memory-owed : (o : Outline) (r : Option Excessive) → r ≡ None → (command : Command) (inputs : Lists) (ran : Option WorldState)
    (sink : Outflow)
    → Written (due_compiled command o inputs ran r) sink sink NoMemory
memory-owed o r is command inputs ran sink = record {
  allowed = compiled-owed command o inputs ran r;
  no_read = λ is. absurd (cc);
  text = refl;
}

pub plan-owed : (o : Outline) (r : Option Excessive) (plan : Drawn) → r ≡ None → plan ≡ plan_of o →
    (inputs : Lists) (ran : Option WorldState)
    (sink sink' : Outflow) (status : Status) → Written (done (plan_text plan)) sink sink' status →
    Written (due_compiled Plan o inputs ran r) sink sink' status
plan-owed o r plan is same inputs ran sink sink' status written =
    subst (λ x. Written (due_compiled Plan o inputs ran x) sink sink' status) (sym is)
    (subst (λ p. Written (done (plan_text p)) sink sink' status) same written)

-- the words are no command
pub answered-usage : (source : Inflow) (sink sink' : Outflow) (status : Status) → Written (due None [] nothing_ran) sink sink' status
    → (bytes : List ℕ) × IsTold source.left bytes × Answered None bytes source source sink sink' nothing_ran status
answered-usage source sink sink' status written =
    let any = told-any source.left in (
      any.0,
      any.1,
      record {
        allowed = written.allowed;
        read_fault = λ is. absurd (written.no_read is);
        write_fault = λ is. (subst (λ s. Stands s sink sink' (due None [] nothing_ran).text) is written.text).rose;
        text = written.text;
        rest = stays status source any.0 any.1 written.allowed;
        untouched = λ is. refl;
        world = no-world-usage _ status written.allowed;
      },
    )
