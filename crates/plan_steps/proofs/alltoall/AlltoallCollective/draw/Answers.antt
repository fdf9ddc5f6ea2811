-- The parts one after the other.
use Rattle.std.proofs.Common.{map}
use Rattle.plan_core.proofs.Drawing.{room-next, joined-parts}
use Rattle.plan_steps.specs.Collectives.Alltoall.{exchanged}
use Rattle.plan_steps.specs.StepContext.{entries, places}
use Rattle.plan_steps.proofs.alltoall.AlltoallCollective.draw.Goals as goal

pub draw_row-requires-2-clause-room : goal.draw_row-requires-2-clause-room
draw_row-requires-2-clause-room c =
    let s = c.args.site.now in
    room-next c.args.plan.now c.draw_row.new.plan (entries s) (map (exchanged s) (places s)) c.requires.room c.in_ok-draw_row.ensures

pub returns : goal.returns
returns c =
    let s = c.args.site.now in
    joined-parts c.args.plan.now c.draw_row.new.plan c.draw_row-2.new.plan (entries s) (map (exchanged s) (places s))
    c.in_ok-draw_row.ensures c.in_ok-draw_row-2.ensures
