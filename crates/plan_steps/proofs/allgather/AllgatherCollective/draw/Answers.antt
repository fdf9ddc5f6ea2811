-- The parts one after the other.
use Rattle.std.proofs.Common.{arith, map}
use Rattle.plan_steps.specs.Collectives.Allgather.{collected, ring_node}
use Rattle.plan_steps.specs.StepContext.{count, entries, places, rows}
use Rattle.plan_steps.proofs.InParts.{joined-three, room-second, room-third}
use Rattle.plan_steps.proofs.Rows.{drawn-same, room-same}
use Rattle.plan_steps.proofs.allgather.AllgatherCollective.draw.Goals as goal

pub draw_rows-requires-clause-fits : goal.draw_rows-requires-clause-fits
draw_rows-requires-clause-fits c = λ k l. let n = c.count-count.ensures.value in omega (arith, l, n)

pub draw_rows-requires-clause-room : goal.draw_rows-requires-clause-room
draw_rows-requires-clause-room c =
    let s = c.args.site.now in
    room-same c.draw_row.new.plan s (ring_node s) c.count-count.result (count s) c.count-count.ensures.value
    (room-second c.args.plan.now c.draw_row.new.plan (entries s) (rows s (ring_node s) 0 (count s)) (map (collected s) (places s))
    c.requires.room c.in_ok-draw_row.ensures)

pub draw_row-requires-2-clause-room : goal.draw_row-requires-2-clause-room
draw_row-requires-2-clause-room c =
    let s = c.args.site.now in
    let p = c.draw_row.new.plan in
    let q = c.draw_rows.new.plan in
    room-third c.args.plan.now p q (entries s) (rows s (ring_node s) 0 (count s)) (map (collected s) (places s))
    c.requires.room c.in_ok-draw_row.ensures
    (drawn-same p q s (ring_node s) c.count-count.result (count s) c.count-count.ensures.value c.in_ok-draw_rows.ensures)

pub returns : goal.returns
returns c =
    let s = c.args.site.now in
    let p = c.draw_row.new.plan in
    let q = c.draw_rows.new.plan in
    joined-three c.args.plan.now p q c.draw_row-2.new.plan (entries s) (rows s (ring_node s) 0 (count s)) (map (collected s) (places s))
    c.in_ok-draw_row.ensures
    (drawn-same p q s (ring_node s) c.count-count.result (count s) c.count-count.ensures.value c.in_ok-draw_rows.ensures)
    c.in_ok-draw_row-2.ensures
