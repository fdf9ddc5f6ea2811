-- What `sim` owes for a description, told without a world.
use Rattle.std.specs.Prelude.{ℕ, ◌≡◌, ◌++◌, List, Some, None, Ok, map}
use Rattle.std.specs.List.{flat_map}
use Rattle.number_lists.specs.Numbers.{from_to}
use Rattle.coll_lang.specs.Language.{read}
use Rattle.coll_lang.specs.Program.{Chosen, Program}
use Rattle.coll_lang.specs.Readable.{chosen_name}
use Rattle.cuts.specs.histories.System.{Histories, System, state_at}
use Rattle.cuts.specs.orders.Taking.{listed}
use Rattle.plan_choice.specs.texts.view.Install.{Slots}
use Rattle.plan_choice.specs.texts.laws.Decided.{choice_system, result_of}
use Rattle.plan_choice.specs.ranks.Seats.{kinds_of}
use Rattle.run_text.specs.Lines.{rest_line, value_line}
use Rattle.run_text.specs.Orders.{order_text}
use Rattle.schedule_compiler.specs.shapes.Footprint.{refusal}
use Rattle.portals_top.specs.declared.words.Command.TheVariants.{Execute}
use Rattle.job_runs.specs.declared.modes.Mode.TheVariants.{Sim}
use Rattle.portals_top.specs.declared.words.Task.{Task}
use Rattle.portals_top.specs.Words.{text_task}

-- what `sim` with this seed asks for
abbrev pub sim_task : ℕ → Task
sim_task seed = text_task (Execute (Sim seed))

-- the bytes are this description, which is run by its plan: it is no choice text, and its plan isn't too large
pub record IsPlanned (bytes : List ℕ) (d : Program) : Type 0 where
  pub is : read bytes ≡ Ok d
  pub plain : d.choices ≡ None
  pub accepted : refusal d.shape ≡ None

-- the bytes are this choice text
pub record IsChoosing (bytes : List ℕ) (d : Program) (c : Chosen) : Type 0 where
  pub is : read bytes ≡ Ok d
  pub choices : d.choices ≡ Some c

-- its ranks: what each begins with, and what its start does, where its tables give these slots
abbrev pub choosers_of : Program → Chosen → (ℕ → Slots) → System
choosers_of d c slots = choice_system d.shape.ranks (kinds_of c.steps) slots

-- the results of a step in a run of these ranks, a line for each rank
abbrev pub run_lines : Program → Chosen → (ℕ → Slots) → Histories → ℕ → List ℕ
run_lines d c slots run s =
    flat_map (λ r. value_line (chosen_name c s) r (result_of s (state_at (choosers_of d c slots) run r))) (from_to 0 d.shape.ranks)

-- of each step that is printed, in order, and the end
abbrev pub run_values : Program → Chosen → (ℕ → Slots) → Histories → List ℕ
run_values d c slots run = flat_map (run_lines d c slots run) c.prints ++ rest_line

-- the local steps of each rank in a run, as they are written
abbrev pub run_orders : Program → Histories → List ℕ
run_orders d run = order_text d.shape.ranks (λ r. map listed (run r))
