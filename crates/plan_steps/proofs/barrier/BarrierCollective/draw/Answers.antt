-- The parts one after the other.
use Rattle.std.proofs.Common.{◌≡◌, ap, arith, ◌∙◌}
use Rattle.plan_core.proofs.Drawing.{room-next, joined-parts}
use Rattle.plan_steps.specs.Rounds.{rounds}
use Rattle.plan_steps.specs.StepContext.{bare_entries, count, rows}
use Rattle.plan_steps.specs.Collectives.Barrier.{round_cell}
use Rattle.plan_steps.proofs.Rows.{drawn-same, room-same}
use Rattle.plan_steps.proofs.barrier.BarrierCollective.draw.Goals as goal

pub draw_rows-requires-clause-fits : goal.draw_rows-requires-clause-fits
draw_rows-requires-clause-fits c = λ k l. let f = c.rounds-last.ensures.at_most in omega (arith, l, f)

pub draw_rows-requires-clause-room : goal.draw_rows-requires-clause-room
draw_rows-requires-clause-room c =
    let s = c.args.site.now in
    let e : c.rounds-last.result ≡ rounds (count s) = c.rounds-last.ensures.value ∙ ap rounds c.count.ensures.value in
    room-same c.draw_row.new.plan s (round_cell s) c.rounds-last.result (rounds (count s)) e
    (room-next c.args.plan.now c.draw_row.new.plan (bare_entries s) (rows s (round_cell s) 0 (rounds (count s)))
    c.requires.room c.in_ok-draw_row.ensures)

pub returns : goal.returns
returns c =
    let s = c.args.site.now in
    let p = c.draw_row.new.plan in
    let q = c.draw_rows.new.plan in
    let e : c.rounds-last.result ≡ rounds (count s) = c.rounds-last.ensures.value ∙ ap rounds c.count.ensures.value in
    joined-parts c.args.plan.now p q (bare_entries s) (rows s (round_cell s) 0 (rounds (count s))) c.in_ok-draw_row.ensures
    (drawn-same p q s (round_cell s) c.rounds-last.result (rounds (count s)) e c.in_ok-draw_rows.ensures)
