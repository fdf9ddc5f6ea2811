use Rattle.std.proofs.Common.{◌≡◌, map}
use Rattle.plan_core.specs.Plan.{from_to}
use Rattle.plan_core.specs.Draw.{add_links}
use Rattle.plan_steps.proofs.wide.draw_wide.Given as goal

abbrev pub invariant-loop-number : goal.invariant-loop-number
invariant-loop-number g l = l.plan ≡ add_links l.initial.plan l.cell (map (g.L.Links.link l.links l.site) (from_to 0 l.number))
