-- The parts one after the other.
use Rattle.std.proofs.Common.{◌∷◌, []}
use Rattle.plan_core.proofs.Drawing.{room-next, joined-one}
use Rattle.plan_steps.specs.Collectives.Gather.{gathered}
use Rattle.plan_steps.specs.StepContext.{entries}
use Rattle.plan_steps.proofs.gather.GatherCollective.draw.Goals as goal

pub draw_gathered-requires-clause-room : goal.draw_gathered-requires-clause-room
draw_gathered-requires-clause-room c =
    let s = c.args.site.now in
    room-next c.args.plan.now c.draw_row.new.plan (entries s) (gathered s c.args.self.now.root ∷ [])
    c.requires.room c.in_ok-draw_row.ensures

pub returns : goal.returns
returns c =
    let s = c.args.site.now in
    joined-one c.args.plan.now c.draw_row.new.plan c.draw_gathered.new.plan (entries s) (gathered s c.args.self.now.root)
    c.in_ok-draw_row.ensures c.in_ok-draw_gathered.ensures
