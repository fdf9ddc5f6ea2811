-- The parts one after the other.
use Rattle.std.proofs.Common.{◌≡◌, ◌+◌, suc, ap, arith, ◌∙◌}
use Rattle.plan_core.proofs.Drawing.{room-next, joined-parts}
use Rattle.plan_steps.specs.Rounds.{rounds}
use Rattle.plan_steps.specs.StepContext.{entries, count}
use Rattle.plan_steps.specs.Collectives.Scan.{scan_cell, scan_rows}
use Rattle.plan_steps.proofs.Rows.{drawn-same, room-same}
use Rattle.plan_steps.proofs.scan.ScanCollective.draw.Goals as goal

pub draw_rows-requires-clause-fits : goal.draw_rows-requires-clause-fits
draw_rows-requires-clause-fits c = λ k l. let f = c.rounds-last.ensures.at_most in omega (arith, l, f)

pub draw_rows-requires-clause-room : goal.draw_rows-requires-clause-room
draw_rows-requires-clause-room c =
    let s = c.args.site.now in
    let o = c.args.self.now.op in
    let n = c.rounds-last.ensures.value ∙ ap rounds c.count.ensures.value in
    let e : c.rounds-last.result + 1 ≡ suc (rounds (count s)) = omega (arith, n) in
    room-same c.draw_row.new.plan s (scan_cell s o) (c.rounds-last.result + 1) (suc (rounds (count s))) e
    (room-next c.args.plan.now c.draw_row.new.plan (entries s) (scan_rows s o) c.requires.room c.in_ok-draw_row.ensures)

pub returns : goal.returns
returns c =
    let s = c.args.site.now in
    let o = c.args.self.now.op in
    let p = c.draw_row.new.plan in
    let q = c.draw_rows.new.plan in
    let n = c.rounds-last.ensures.value ∙ ap rounds c.count.ensures.value in
    let e : c.rounds-last.result + 1 ≡ suc (rounds (count s)) = omega (arith, n) in
    joined-parts c.args.plan.now p q (entries s) (scan_rows s o) c.in_ok-draw_row.ensures
    (drawn-same p q s (scan_cell s o) (c.rounds-last.result + 1) (suc (rounds (count s))) e c.in_ok-draw_rows.ensures)
