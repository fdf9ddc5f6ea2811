use Rattle.std.proofs.Common.{◌≡◌, map}
use Rattle.plan_core.specs.Plan.{from_to}
use Rattle.plan_core.specs.Draw.{add_all}
use Rattle.plan_steps.proofs.row.draw_cells.Given as goal

abbrev pub invariant-loop-place : goal.invariant-loop-place
invariant-loop-place g l = l.plan ≡ add_all l.initial.plan (map (g.R.Rows.cell l.cells l.site l.number) (from_to 0 l.place))
