-- The parts one after the other.
use Rattle.std.proofs.Common.{ℕ, suc, ◌≡◌, ◌+◌, ◌-◌, ap, arith, map, subst, sym, ◌∙◌}
use Rattle.plan_steps.specs.Collectives.Exscan.{shifted}
use Rattle.plan_steps.specs.Rounds.{rounds}
use Rattle.plan_steps.specs.Collectives.Scan.{scan_cell, scan_rows}
use Rattle.plan_steps.specs.StepContext.{count, entries}
use Rattle.plan_core.specs.Draw.{HasRoom, add_all}
use Rattle.plan_core.specs.Plan.{from_to}
use Rattle.plan_steps.proofs.InParts.{joined-three, room-second, room-third}
use Rattle.plan_steps.proofs.Rows.{drawn-same, room-same}
use Rattle.plan_steps.proofs.exscan.ExscanCollective.draw.Goals as goal

pub draw_rows-requires-clause-fits : goal.draw_rows-requires-clause-fits
draw_rows-requires-clause-fits c = λ k l. let f = c.rounds-last.ensures.at_most in omega (arith, l, f)

pub draw_cells-requires-clause-at_most : goal.draw_cells-requires-clause-at_most
draw_cells-requires-clause-at_most c = let n = c.count-count.ensures.value in omega (arith, n)

pub draw_rows-requires-clause-room : goal.draw_rows-requires-clause-room
draw_rows-requires-clause-room c =
    let s = c.args.site.now in
    let o = c.args.self.now.op in
    let n = c.rounds-last.ensures.value ∙ ap rounds c.count-count.ensures.value in
    let e : c.rounds-last.result + 1 ≡ suc (rounds (count s)) = omega (arith, n) in
    room-same c.draw_row.new.plan s (scan_cell s o) (c.rounds-last.result + 1) (suc (rounds (count s))) e
    (room-second c.args.plan.now c.draw_row.new.plan (entries s) (scan_rows s o) (map (shifted s) (from_to 0 (count s - 1)))
    c.requires.room c.in_ok-draw_row.ensures)

pub draw_cells-requires-clause-room : goal.draw_cells-requires-clause-room
draw_cells-requires-clause-room c =
    let s = c.args.site.now in
    let o = c.args.self.now.op in
    let p = c.draw_row.new.plan in
    let q = c.draw_rows.new.plan in
    let n = c.rounds-last.ensures.value ∙ ap rounds c.count-count.ensures.value in
    let e : c.rounds-last.result + 1 ≡ suc (rounds (count s)) = omega (arith, n) in
    let P : ℕ → Type 0 = λ v. HasRoom q (map (shifted s) (from_to 0 (v - 1))) in
    subst P (sym c.count-count.ensures.value)
    (room-third c.args.plan.now p q (entries s) (scan_rows s o) (map (shifted s) (from_to 0 (count s - 1)))
    c.requires.room c.in_ok-draw_row.ensures
    (drawn-same p q s (scan_cell s o) (c.rounds-last.result + 1) (suc (rounds (count s))) e c.in_ok-draw_rows.ensures))

pub returns : goal.returns
returns c =
    let s = c.args.site.now in
    let o = c.args.self.now.op in
    let p = c.draw_row.new.plan in
    let q = c.draw_rows.new.plan in
    let n = c.rounds-last.ensures.value ∙ ap rounds c.count-count.ensures.value in
    let e : c.rounds-last.result + 1 ≡ suc (rounds (count s)) = omega (arith, n) in
    joined-three c.args.plan.now p q c.draw_cells.new.plan (entries s) (scan_rows s o) (map (shifted s) (from_to 0 (count s - 1)))
    c.in_ok-draw_row.ensures
    (drawn-same p q s (scan_cell s o) (c.rounds-last.result + 1) (suc (rounds (count s))) e c.in_ok-draw_rows.ensures)
    (c.in_ok-draw_cells.ensures ∙ ap (λ v. add_all q (map (shifted s) (from_to 0 (v - 1)))) c.count-count.ensures.value)
