-- Which status and text are owed.
use Rattle.std.specs.Prelude.{ℕ, true, false, ◌≡◌, List, [], ◌∷◌, ◌++◌, Some, None, Err, codes, drop, refl}
use Rattle.std.specs.Fmt.{digits}
use Rattle.coll_shape.specs.declared.types.Version.TheVariants.{Two}
use Rattle.coll_shape.specs.Outline.{Outline}
use Rattle.coll_lang.specs.declared.fault.Refusal.TheVariants.{BadRanks, OneThread, TooLarge, TooMany}
use Rattle.coll_lang.specs.Program.{Chosen}
use Rattle.schedule_compiler.specs.shapes.Footprint.Excess.{Bytes, Links}
use Rattle.portals_top.specs.declared.ran.Ran.{Ran}
use Rattle.run_text.specs.declared.status.Status.TheVariants.{Done, NoMemory, ReadFault, Refused, Usage, WriteFault}
use Rattle.portals_top.specs.declared.words.Command.TheVariants.{Execute, Plan}
use Rattle.portals_top.specs.declared.words.Format.TheVariants.{Json}
use Rattle.job_runs.specs.declared.modes.Mode.TheVariants.{Once, Run, Sim, Steady, Trace}
use Rattle.run_text.specs.Ending.{number_of}
use Rattle.run_text.specs.Refused.{step_line}
use Rattle.portals_top.specs.Due.{due, due_chosen, due_compiled, due_in_mode, due_of, excess_name, unread}

abbrev ends : List ℕ → List ℕ
ends bytes = bytes ++ 10 ∷ []

-- two groups and two inputs on three ranks
abbrev large : Outline
large = record {
  version = Two;
  ranks = 3;
  remote = true;
  groups = record { name = codes "g"; members = 0 ∷ 2 ∷ [] } ∷ record { name = codes "h"; members = 1 ∷ [] } ∷ [];
  buffers = [];
  inputs = 2;
  steps = [];
  on = [];
  prints = [];
}

-- coll, ranks, complete remote, two groups, and for each input a line and three of values: 13 lines before the first step
line_of_a_step : (step_line large 0 ≡ 14) × (step_line large 5 ≡ 19) × (step_line (record large { remote = false }) 0 ≡ 13)
    × (step_line (record large { groups = [] }) 0 ≡ 12) × (step_line (record large { inputs = 0 }) 0 ≡ 6)
line_of_a_step = (refl, refl, refl, refl, refl)

names_of_excess : (excess_name Links ≡ TooMany) × (excess_name Bytes ≡ TooLarge)
names_of_excess = (refl, refl)

too_large_at_step_2 : due_compiled Plan large [] None (Some (record { step = 2; name = Bytes }))
    ≡ record { status = Refused; text = ends (codes "refused 16 TooLarge") }
unfolding digits
too_large_at_step_2 = refl

too_many_at_step_0 : due_compiled (Execute Once) large [] None (Some (record { step = 0; name = Links }))
    ≡ record { status = Refused; text = ends (codes "refused 14 TooMany") }
unfolding digits
too_many_at_step_0 = refl

-- ---- what is refused of a text, and of its words
refused_in_line_2 : (ran : Ran)
    → due_of (Execute Once) ran (Err (2, BadRanks)) ≡ record { status = Refused; text = ends (codes "refused 2 BadRanks") }
unfolding digits
refused_in_line_2 ran = refl

other_words : (bytes : List ℕ) (ran : Ran) → due None bytes ran ≡ record {
  status = Usage;
  text = ends (codes "usage: portals_run once | sim X | plan | run W | trace W | large K W | check | steady W | json W");
}
other_words bytes ran = refl

-- ---- choice texts: on one thread alone
abbrev nothing_chosen : Chosen
nothing_chosen = record { steps = []; prints = [] }

on_threads : (due_in_mode (Run 4) nothing_chosen None ≡ record { status = Refused; text = ends (codes "refused 0 OneThread") })
    × (due_in_mode (Trace 4) nothing_chosen None ≡ record { status = Refused; text = ends (codes "refused 0 OneThread") })
    × (due_in_mode (Steady 4) nothing_chosen None ≡ record { status = Refused; text = ends (codes "refused 0 OneThread") })
    × (due_chosen Plan nothing_chosen None ≡ record { status = Refused; text = ends (codes "refused 0 OneThread") })
unfolding digits
on_threads = (refl, refl, refl, refl)

on_one : (due_in_mode Once nothing_chosen None ≡ record { status = Done; text = [] })
    × (due_in_mode (Sim 7) nothing_chosen None ≡ record { status = Done; text = [] })
on_one = (refl, refl)

-- ---- what stays in the source: one byte more than the longest text is read
one_more_is_read : (bytes : List ℕ) → unread (Some (record { format = Json; command = Plan })) bytes ≡ drop 1048577 bytes
one_more_is_read bytes = refl

nothing_is_read : unread None (1 ∷ 2 ∷ []) ≡ 1 ∷ 2 ∷ []
nothing_is_read = refl

numbers : (number_of Done ≡ 0) × (number_of Usage ≡ 2) × (number_of Refused ≡ 3) × (number_of ReadFault ≡ 4) × (number_of WriteFault ≡ 5)
    × (number_of NoMemory ≡ 6)
numbers = (refl, refl, refl, refl, refl, refl)
