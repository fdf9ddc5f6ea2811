-- A plan that is drawn step by step: what a step begins with, and what it leaves.
use Rattle.std.specs.Prelude.{ℕ, ◌<◌, ◌≡◌, ◌^◌, List, length}
use Rattle.plan_core.specs.Draw.{NewCell, add_all}
use Rattle.coll_shape.specs.declared.types.CollStep.{CollStep}
use Rattle.coll_shape.specs.Outline.{Outline}
use Rattle.coll_shape.specs.Collectives.{IsRoot, result_of, source_of}
use Rattle.coll_shape.specs.WellFormed.{AreMembers, IsNumber}
use Rattle.plan_steps.specs.declared.drawing.Drawing.{Drawing}
use Rattle.plan_steps.specs.declared.ends.StepExit.{StepExit}
use Rattle.plan_steps.specs.StepContext.{StepContext}
use Rattle.plan_steps.specs.Steps.{exits_by}
use Rattle.plan_steps.specs.Beginning.{held_after, site_of}
use Rattle.plan_steps.specs.Collectives.{cells_of, ends_of}

-- what a step on the members g begins with
abbrev pub site : Outline → Drawing → CollStep → List ℕ → StepContext
site o d step g = site_of o d.plan d.held d.exits (source_of step) g

-- what a step leaves that has these cells and ends
abbrev pub drawn_as : Drawing → CollStep → List ℕ → List NewCell → List StepExit → Drawing
drawn_as d step g cells ends = record {
  plan = add_all d.plan cells;
  held = held_after (result_of step) d.held g ends;
  exits = exits_by d.exits g ends (length g);
}

abbrev pub drawn_step : Outline → Drawing → CollStep → List ℕ → Drawing
drawn_step o d step g = drawn_as d step g (cells_of (site o d step g) step) (ends_of (site o d step g) step)

-- the drawing is of the shape's ranks and buffers, and the members are ranks
pub record IsBegun (o : Outline) (d : Drawing) (step : CollStep) (g : List ℕ) : Type 0 where
  pub members : AreMembers o.ranks g
  pub root : IsRoot step (length g)
  pub source : IsNumber o (source_of step)
  pub result : IsNumber o (result_of step)
  pub exits : length d.exits ≡ o.ranks
  pub ranks : d.held.ranks ≡ o.ranks
  pub buffers : d.held.buffers ≡ length o.buffers
  pub cells : length d.plan.cells < 2 ^ 24
