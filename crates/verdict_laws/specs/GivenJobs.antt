-- The job of a plan that is given for a description, and what its results hold in the end.
use Rattle.std.specs.Prelude.{ℕ, ◌≡◌, ◌<◌, ◌*◌, List, [], ◌∷◌, Option, Some, None, length, map, replicate}
use Rattle.coll_shape.specs.Meaning.{Lists}
use Rattle.coll_shape.specs.Outline.{Outline}
use Rattle.given_lines.specs.declared.given.Mark.{Mark}
use Rattle.given_lines.specs.declared.given.Mark.TheVariants.{Result, Enter, Leave}
use Rattle.given_lines.specs.Given.{Given}
use Rattle.given_verdicts.specs.declared.answer.FlawlessText.{FlawlessText}
use Rattle.number_lists.specs.Numbers.{from_to}
use Rattle.plan_core.specs.Draw.{HeldCells, held_cell, hold}
use Rattle.plan_core.specs.Members.{In}
use Rattle.plan_core.specs.Plan.{Plan}
use Rattle.plan_core.specs.Values.{Inputs, value}
use Rattle.schedule_compiler.specs.Jobs.{JobOf}
use Rattle.schedule_compiler.specs.Keeping.{AreHeld}
use Rattle.schedule_compiler.specs.Schedules.{ScheduleOf, scheduled}

-- ---- the cells that are named

-- no cell for any buffer at any rank
abbrev pub no_cells : Outline → HeldCells
no_cells o = record { buffers = length o.buffers; ranks = o.ranks; cells = replicate (length o.buffers * o.ranks) None }

-- those that the lines `result` name; of two lines for one buffer and rank, the later
unfoldable pub named_cells : HeldCells → List Mark → HeldCells
named_cells h [] = h
named_cells h (Result b r c ∷ ms) = named_cells (hold h b r c) ms
named_cells h (Enter s r c ∷ ms) = named_cells h ms
named_cells h (Leave s r c ∷ ms) = named_cells h ms

abbrev pub results_of : Outline → List Mark → HeldCells
results_of o ms = named_cells (no_cells o) ms

-- each line `result` names a buffer and a rank of the description
abbrev pub AreWithin : Outline → List Mark → Type 0
AreWithin o ms = (b r c : ℕ) → In (Result b r c) ms → (b < length o.buffers) × (r < o.ranks)

-- ---- the job

-- the plan's schedule, with these inputs
abbrev pub given_job : Outline → Given → Inputs → JobOf
given_job o g inputs = record { schedule = scheduled g.plan (results_of o g.marks) o.inputs; inputs = inputs }

-- of a text in which no flaw was found: its plan's, with the inputs of its description
abbrev pub flawless_job : FlawlessText → JobOf
flawless_job t = given_job t.description.shape t.given t.description.inputs

-- ---- the results

-- what a cell holds in the end; nothing where there is none
abbrev pub held_list : Plan → Inputs → Option ℕ → List ℕ
held_list p inputs None = []
held_list p inputs (Some c) = value p inputs c

-- for each buffer its list at each rank: the value of the cell that holds it
abbrev pub given_lists : Plan → HeldCells → Inputs → Lists
given_lists p h inputs = map (λ b. map (λ r. held_list p inputs (held_cell h b r)) (from_to 0 h.ranks)) (from_to 0 h.buffers)

-- a schedule is for as many buffers and ranks as a description has, and each of its results is a cell of its plan on the result's rank
pub record FitsShape (o : Outline) (s : ScheduleOf) : Type 0 where
  pub buffers : s.held.buffers ≡ length o.buffers
  pub ranks : s.plan.ranks ≡ o.ranks
  pub held : AreHeld s.plan s.held
