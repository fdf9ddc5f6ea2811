use Rattle.std.proofs.Common.{◌≡◌}
use Rattle.plan_core.specs.Draw.{add_all}
use Rattle.plan_steps.specs.StepContext.{rows}
use Rattle.plan_steps.proofs.row.draw_rows.Given as goal

abbrev pub invariant-loop-number : goal.invariant-loop-number
invariant-loop-number g l = l.plan ≡ add_all l.initial.plan (rows l.site (g.R.Rows.cell l.cells l.site) 0 l.number)
