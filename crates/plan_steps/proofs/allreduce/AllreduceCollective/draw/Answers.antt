-- The parts one after the other.
use Rattle.std.proofs.Common.{map}
use Rattle.plan_steps.specs.Collectives.Allreduce.{result_cell}
use Rattle.plan_steps.specs.StepContext.{entries, places}
use Rattle.plan_steps.specs.Trees.{up}
use Rattle.plan_steps.proofs.InParts.{joined-three, room-second, room-third}
use Rattle.plan_steps.proofs.allreduce.AllreduceCollective.draw.Goals as goal

pub draw_row-requires-2-clause-room : goal.draw_row-requires-2-clause-room
draw_row-requires-2-clause-room c =
    let s = c.args.site.now in
    room-second c.args.plan.now c.draw_row.new.plan (entries s) (up s 0 c.args.self.now.op) (map (result_cell s) (places s))
    c.requires.room c.in_ok-draw_row.ensures

pub draw_row-requires-3-clause-room : goal.draw_row-requires-3-clause-room
draw_row-requires-3-clause-room c =
    let s = c.args.site.now in
    room-third c.args.plan.now c.draw_row.new.plan c.draw_row-2.new.plan (entries s) (up s 0 c.args.self.now.op)
    (map (result_cell s) (places s)) c.requires.room c.in_ok-draw_row.ensures c.in_ok-draw_row-2.ensures

pub returns : goal.returns
returns c =
    let s = c.args.site.now in
    joined-three c.args.plan.now c.draw_row.new.plan c.draw_row-2.new.plan c.draw_row-3.new.plan (entries s) (up s 0 c.args.self.now.op)
    (map (result_cell s) (places s)) c.in_ok-draw_row.ensures c.in_ok-draw_row-2.ensures c.in_ok-draw_row-3.ensures
