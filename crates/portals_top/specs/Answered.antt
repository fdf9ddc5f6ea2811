-- What the top call answers, and what it leaves.
use Rattle.std.specs.Prelude.{◌≡◌, ℕ, List, Option, Some, None, Result, Ok, Err}
use Rattle.port_io.specs.Counts.{Rose}
use Rattle.port_io.specs.Ends.{Inflow, Outflow}
use Rattle.coll_shape.specs.Outline.{Outline}
use Rattle.coll_shape.specs.Meaning.{Lists}
use Rattle.coll_lang.specs.declared.fault.Refusal.{Refusal}
use Rattle.coll_lang.specs.Program.{Chosen, Program}
use Rattle.worlds.specs.World.{WorldState}
use Rattle.plan_choice.specs.World.{ChoiceState}
use Rattle.job_runs.specs.Runs.{IsInOrder, IsOfSteady, IsOfWorkers, IsReachedWorld}
use Rattle.portals_top.specs.declared.ran.Ran.{Ran}
use Rattle.run_text.specs.declared.status.Status.{Status}
use Rattle.run_text.specs.declared.status.Status.TheVariants.{Done, Usage, Refused, ReadFault, WriteFault, NoMemory}
use Rattle.job_runs.specs.declared.modes.Mode.{Mode}
use Rattle.job_runs.specs.declared.modes.Mode.TheVariants.{Once, Sim, Run, Trace, Steady}
use Rattle.portals_top.specs.declared.words.Command.{Command}
use Rattle.portals_top.specs.declared.words.Command.TheVariants.{Execute, Plan}
use Rattle.portals_top.specs.declared.words.Task.{Task}
use Rattle.portals_top.specs.Choosing.{IsChoiceInOrder, IsChoiceRun}
use Rattle.run_text.specs.Ending.{Leaves, MayAnswer, Stands}
use Rattle.portals_top.specs.Due.{due, unread}
use Rattle.portals_top.specs.Formats.{read_as}
use Rattle.portals_top.specs.Left.{nothing_ran}
use Rattle.portals_top.specs.Runs.{IsRun}

-- Whether a world ran as a mode asks for: on one thread it is one to which steps led, and `sim` chooses their order. Of workers it is as
-- many as are asked for, and what they left is made to its end.
abbrev pub IsInMode : Mode → WorldState → Type 0
IsInMode Once w = IsReachedWorld w
IsInMode (Sim seed) w = IsReachedWorld w × IsInOrder seed w
IsInMode (Run workers) w = IsOfWorkers workers w
IsInMode (Trace workers) w = IsOfWorkers workers w
IsInMode (Steady workers) w = IsOfSteady workers w

-- the world that a run of a description leaves
abbrev pub LeavesRun : Mode → Outline → Lists → Option WorldState → Type 0
LeavesRun mode o inputs None = ⊥
LeavesRun mode o inputs (Some w) = IsRun o inputs w × IsInMode mode w

abbrev pub LeavesWorld : Command → Outline → Lists → Ran → Type 0
LeavesWorld (Execute mode) o inputs ran = LeavesRun mode o inputs ran.world × (ran.choice ≡ None)
LeavesWorld Plan o inputs ran = ran ≡ nothing_ran

-- Whether a choice world ran in the order that a mode asks for: `sim` chooses one, and `once` takes any.
abbrev pub IsChoiceInMode : Mode → ChoiceState → Type 0
IsChoiceInMode Once w = Unit {0}
IsChoiceInMode (Sim seed) w = IsChoiceInOrder seed w
IsChoiceInMode (Run workers) w = ⊥
IsChoiceInMode (Trace workers) w = ⊥
IsChoiceInMode (Steady workers) w = ⊥

-- the choice world that a run of a choice text on n ranks leaves
abbrev pub LeavesChoice : Mode → ℕ → Chosen → Option ChoiceState → Type 0
LeavesChoice mode n c None = ⊥
LeavesChoice mode n c (Some w) = IsChoiceRun n c w × IsChoiceInMode mode w

abbrev pub LeavesChosen : Command → ℕ → Chosen → Ran → Type 0
LeavesChosen (Execute mode) n c ran = LeavesChoice mode n c ran.choice × (ran.world ≡ None)
LeavesChosen Plan n c ran = ran ≡ nothing_ran

-- a world of the description, or of its choices where it is a choice text
abbrev pub LeavesDescribed : Command → Program → Option Chosen → Ran → Type 0
LeavesDescribed c d None ran = LeavesWorld c d.shape d.inputs ran
LeavesDescribed c d (Some choices) ran = LeavesChosen c d.shape.ranks choices ran

abbrev pub LeavesOf : Command → Result Program (ℕ × Refusal) → Ran → Type 0
LeavesOf c (Ok d) ran = LeavesDescribed c d d.choices ran
LeavesOf c (Err refusal) ran = ran ≡ nothing_ran

abbrev pub RunLeaves : Option Task → List ℕ → Ran → Type 0
RunLeaves None bytes ran = ran ≡ nothing_ran
RunLeaves (Some t) bytes ran = LeavesOf t.command (read_as t.format bytes) ran

-- What is handed back: what the run leaves, where a result was owed, and it or a beginning of it was written; and else none.
abbrev pub HandsBack : Status → Status → (Ran → Type 0) → Ran → Type 0
HandsBack Done owed leaves ran = leaves ran
HandsBack WriteFault Done leaves ran = leaves ran
HandsBack WriteFault Usage leaves ran = ran ≡ nothing_ran
HandsBack WriteFault Refused leaves ran = ran ≡ nothing_ran
HandsBack WriteFault ReadFault leaves ran = ran ≡ nothing_ran
HandsBack WriteFault WriteFault leaves ran = ran ≡ nothing_ran
HandsBack WriteFault NoMemory leaves ran = ran ≡ nothing_ran
HandsBack Usage owed leaves ran = ran ≡ nothing_ran
HandsBack Refused owed leaves ran = ran ≡ nothing_ran
HandsBack ReadFault owed leaves ran = ran ≡ nothing_ran
HandsBack NoMemory owed leaves ran = ran ≡ nothing_ran

-- All that holds after a call with this task, the source having these bytes.
pub record Answered (task : Option Task) (bytes : List ℕ) (source source' : Inflow) (sink sink' : Outflow)
    (ran : Ran) (status : Status) : Type 0 where
  pub allowed : MayAnswer status (due task bytes ran).status
  pub read_fault : status ≡ ReadFault → Rose source.faults source'.faults
  pub write_fault : status ≡ WriteFault → Rose sink.faults sink'.faults
  pub text : Stands status sink sink' (due task bytes ran).text
  pub rest : Leaves status source' (unread task bytes)
  pub untouched : task ≡ None → source' ≡ source
  pub world : HandsBack status (due task bytes ran).status (RunLeaves task bytes) ran
