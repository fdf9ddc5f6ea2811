-- What the program owes for its words and the bytes that it is given.
use Rattle.std.specs.Prelude.{ℕ, ◌+◌, List, [], ◌∷◌, ◌++◌, Option, Some, None, Result, Ok, Err, drop, codes}
use Rattle.coll_text.specs.Text.{line}
use Rattle.coll_shape.specs.Outline.{Outline}
use Rattle.coll_shape.specs.Meaning.{Lists}
use Rattle.coll_lang.specs.declared.fault.Refusal.{Refusal}
use Rattle.coll_lang.specs.declared.fault.Refusal.TheVariants.{TooMany, TooLarge, OneThread}
use Rattle.coll_lang.specs.Program.{Chosen, Program}
use Rattle.coll_lang.specs.declared.whole.TheConstants.{LONGEST_TEXT}
use Rattle.schedule_compiler.specs.shapes.Drawing.{plan_of}
use Rattle.schedule_compiler.specs.shapes.Footprint.{Excess, Refused as Excessive, refusal}
use Rattle.schedule_compiler.specs.shapes.Footprint.Excess.{Links, Bytes}
use Rattle.run_text.specs.Ending.{Due, done, refused}
use Rattle.run_text.specs.Lines.{result_text}
use Rattle.run_text.specs.Plans.{plan_text}
use Rattle.run_text.specs.Refused.{step_line}
use Rattle.worlds.specs.World.{WorldState}
use Rattle.job_runs.specs.Orders.{orders_in}
use Rattle.plan_choice.specs.World.{ChoiceState}
use Rattle.run_text.specs.declared.status.Status.TheVariants.{Usage}
use Rattle.job_runs.specs.declared.modes.Mode.{Mode}
use Rattle.job_runs.specs.declared.modes.Mode.TheVariants.{Once, Sim, Run, Trace, Steady}
use Rattle.portals_top.specs.declared.words.Command.{Command}
use Rattle.portals_top.specs.declared.words.Command.TheVariants.{Execute, Plan}
use Rattle.portals_top.specs.declared.words.Task.{Task}
use Rattle.portals_top.specs.declared.ran.Ran.{Ran}
use Rattle.portals_top.specs.Choosing.{choice_orders_of, values_of}
use Rattle.portals_top.specs.Formats.{read_as}

abbrev pub usage_line : List ℕ
usage_line = line (codes "usage: portals_run once | sim X | plan | run W | trace W | large K W | check | steady W | json W" ∷ [])

-- too many links, too many bytes
abbrev pub excess_name : Excess → Refusal
excess_name Links = TooMany
excess_name Bytes = TooLarge

-- the steps that each rank of a world made
abbrev pub orders_of : Option WorldState → List ℕ
orders_of None = []
orders_of (Some w) = orders_in w

-- What is written of a run, which leaves a world.
abbrev pub mode_text : Mode → Outline → Lists → Option WorldState → List ℕ
mode_text Once o inputs ran = result_text o inputs
mode_text (Sim seed) o inputs ran = result_text o inputs ++ orders_of ran
mode_text (Run workers) o inputs ran = result_text o inputs
mode_text (Trace workers) o inputs ran = result_text o inputs ++ orders_of ran
mode_text (Steady workers) o inputs ran = result_text o inputs

-- what is written of a description whose shape isn't refused
abbrev pub done_text : Command → Outline → Lists → Option WorldState → List ℕ
done_text (Execute mode) o inputs ran = mode_text mode o inputs ran
done_text Plan o inputs ran = plan_text (plan_of o)

-- the plan may be too large, from a step on
abbrev pub due_compiled : Command → Outline → Lists → Option WorldState → Option Excessive → Due
due_compiled c o inputs ran None = done (done_text c o inputs ran)
due_compiled c o inputs ran (Some r) = refused (step_line o r.step) (excess_name r.name)

-- A choice text is run on one thread alone: its results, and by `sim` the order too.
abbrev pub due_in_mode : Mode → Chosen → Option ChoiceState → Due
due_in_mode Once c ran = done (values_of c ran)
due_in_mode (Sim seed) c ran = done (values_of c ran ++ choice_orders_of ran)
due_in_mode (Run workers) c ran = refused 0 OneThread
due_in_mode (Trace workers) c ran = refused 0 OneThread
due_in_mode (Steady workers) c ran = refused 0 OneThread

-- its steps have no plan
abbrev pub due_chosen : Command → Chosen → Option ChoiceState → Due
due_chosen (Execute mode) c ran = due_in_mode mode c ran
due_chosen Plan c ran = refused 0 OneThread

-- for the description, or for its choices where it is a choice text
abbrev pub due_described : Command → Program → Ran → Option Chosen → Due
due_described c d ran None = due_compiled c d.shape d.inputs ran.world (refusal d.shape)
due_described c d ran (Some choices) = due_chosen c choices ran.choice

-- what is read as a description, or its first refusal with its line
abbrev pub due_of : Command → Ran → Result Program (ℕ × Refusal) → Due
due_of c ran (Ok d) = due_described c d ran d.choices
due_of c ran (Err refusal) = refused refusal.0 refusal.1

-- where the call leaves this
abbrev pub due : Option Task → List ℕ → Ran → Due
due None bytes ran = record { status = Usage; text = usage_line }
due (Some t) bytes ran = due_of t.command ran (read_as t.format bytes)

-- what stays in the source: one byte more than the longest description is read, and for other words nothing
abbrev pub unread : Option Task → List ℕ → List ℕ
unread None bytes = bytes
unread (Some t) bytes = drop (LONGEST_TEXT + 1) bytes
