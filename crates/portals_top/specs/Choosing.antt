-- What a run of a choice text leaves, and what is written of it.
use Rattle.std.specs.Prelude.{ℕ, ◌≡◌, List, [], ◌++◌, map, Option, Some, None}
use Rattle.std.specs.List.{flat_map}
use Rattle.number_lists.specs.Numbers.{from_to}
use Rattle.ptl_types.specs.declared.steps.LocalStep.{LocalStep}
use Rattle.cuts.specs.orders.Chosen.{IsChosen}
use Rattle.cuts.specs.orders.Taking.{listed}
use Rattle.coll_lang.specs.Program.{Chosen}
use Rattle.coll_lang.specs.Readable.{chosen_name}
use Rattle.run_text.specs.Lines.{rest_line, value_line}
use Rattle.run_text.specs.Orders.{order_text}
use Rattle.plan_choice.specs.ranks.Seats.{kinds_of}
use Rattle.plan_choice.specs.World.{ChoiceState, IsDecidedWorld, IsStanding, histories_in, ranks_in, steps_in, value_in}
use Rattle.job_runs.specs.Runs.{word}

-- A choice world of n ranks and of this text's steps, at rest: no step is left; each done counter stands at the number of steps, each
-- elect names one rank at every rank, and the results of each tickets are the numbers of the ranks, each once.
pub record IsChoiceRun (n : ℕ) (c : Chosen) (w : ChoiceState) : Type 0 where
  pub ranks : w.ranks ≡ n
  pub kinds : w.kinds ≡ kinds_of c.steps
  -- its histories and lanes are those of a moment to which steps led
  pub standing : IsStanding w
  pub none : steps_in w ≡ []
  pub decided : IsDecidedWorld w

-- its histories are those of the chosen run of the words: each names one of the enabled steps, until there is none
abbrev pub IsChoiceInOrder : ℕ → ChoiceState → Type 0
IsChoiceInOrder seed w = IsChosen (ranks_in w) (word seed) (histories_in w)

-- ---- what is written

-- the results of a step, a line for each rank
abbrev pub step_lines : Chosen → ChoiceState → ℕ → List ℕ
step_lines c w s = flat_map (λ r. value_line (chosen_name c s) r (value_in w s r)) (from_to 0 w.ranks)

-- of each step that is printed, in order, and the end
abbrev pub values_text : Chosen → ChoiceState → List ℕ
values_text c w = flat_map (step_lines c w) c.prints ++ rest_line

-- the steps that a rank made
abbrev pub choice_steps : ChoiceState → ℕ → List LocalStep
choice_steps w r = map listed (histories_in w r)

-- of the world that ran, if any
abbrev pub values_of : Chosen → Option ChoiceState → List ℕ
values_of c None = []
values_of c (Some w) = values_text c w

abbrev pub choice_orders_of : Option ChoiceState → List ℕ
choice_orders_of None = []
choice_orders_of (Some w) = order_text w.ranks (choice_steps w)
