-- Where a rank's steps begin and end in the plan of a shape.
use Rattle.std.specs.Prelude.{ℕ, ◌<◌, ◌≡◌, length, get_or}
use Rattle.coll_shape.specs.Outline.{Outline, group_at, step_at}
use Rattle.plan_steps.specs.StepContext.{StepContext, entry}
use Rattle.schedule_compiler.specs.shapes.Drawing.{drawn_upto}
use Rattle.plan_steps.specs.Drawing.{site}
use Rattle.plan_steps.specs.Collectives.{end_of}

-- rank r is a member of step k, at place i
pub record IsAt (o : Outline) (k i r : ℕ) : Type 0 where
  pub step : k < length o.steps
  pub place : i < length (group_at o k)
  pub member : get_or (group_at o k) i 0 ≡ r

-- what step k begins with
abbrev pub site_at : Outline → ℕ → StepContext
site_at o k = site o (drawn_upto o k) (step_at o k) (group_at o k)

-- the cell in which the member at place i begins step k, and the one in which it ends it
abbrev pub entry_cell : Outline → ℕ → ℕ → ℕ
entry_cell o k i = entry (site_at o k) i

abbrev pub exit_cell : Outline → ℕ → ℕ → ℕ
exit_cell o k i = (end_of (site_at o k) (step_at o k) i).exit
