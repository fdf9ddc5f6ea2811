-- One link more in each turn.
use Rattle.std.proofs.Common.{◌≡◌, ◌<◌, arith, length, map, ap, ap₂, sym, subst, ◌∙◌}
use Rattle.plan_core.specs.Plan.{Plan, from_to}
use Rattle.plan_core.specs.Draw.{add_cell, add_link, add_links, cell_with, link_to, new_cell}
use Rattle.plan_core.proofs.Drawing.{add_links-none, add-is, length-row, links-more, room-link}
use Rattle.plan_steps.specs.StepContext.{count, places}
use Rattle.plan_steps.proofs.wide.draw_wide.Goals as goal

pub add_cell-requires : goal.add_cell-requires
add_cell-requires g c = let h = c.requires.room.cells in omega (arith, h)

pub loop-number-init : goal.loop-number-init
loop-number-init g c = sym (add_links-none c.add_cell.new.self c.in_ok-cell.cell)

pub link-requires-clause-number : goal.link-requires-clause-number
link-requires-clause-number g c =
    let n = c.count-count.ensures.value in
    let t = c.loop-number-test.true in
    omega (arith, n, t)

pub add_link-requires : goal.add_link-requires
add_link-requires g c =
    let s = c.args.site.now in
    let f = g.L.Links.link c.args.links.now s in
    let n = c.count-count.ensures.value in
    let t = c.loop-number-test.true in
    let P : Plan → Type 0 = λ p. length p.links < 4294967295 in
    let k = c.in_ok-cell.cell in
    let i = c.loop-number.number in
    subst P (sym (c.loop-number.invariant ∙ ap (λ p. add_links p k (map f (from_to 0 i))) c.in_ok-cell.ensures.added))
    (room-link c.args.plan.now (new_cell c.args.part (map f (places s))) _ k f i (count s) c.requires.room (length-row f 0 (count s))
    (omega (arith, n, t)))

pub loop-number-preserved : goal.loop-number-preserved
loop-number-preserved g c =
    let f = g.L.Links.link c.args.links.now c.args.site.now in
    c.in_ok-add_link.ensures
    ∙ ap₂ (λ p l. add_link p l) c.loop-number.invariant (c.to.ensures ∙ ap (link_to c.in_ok-cell.cell) c.link.ensures)
    ∙ sym (links-more c.add_cell.new.self c.in_ok-cell.cell f c.loop-number.number)

pub returns : goal.returns
returns g c =
    let s = c.args.site.now in
    let f = g.L.Links.link c.args.links.now s in
    let n = c.count-count.ensures.value in
    let t = c.loop-number-test.false in
    let u = c.loop-number.auto in
    let all : c.loop-number.number ≡ count s = omega (arith, n, t, u) in
    let needs : c.from.result ≡ length (map f (places s)) = c.from.ensures ∙ n ∙ sym (length-row f 0 (count s)) in
    c.loop-number.invariant
    ∙ ap (λ k. add_links c.add_cell.new.self c.in_ok-cell.cell (map f (from_to 0 k))) all
    ∙ ap₂ (λ p k. add_links p k (map f (places s)))
    (c.in_ok-cell.ensures.added ∙ ap (add_cell c.args.plan.now) (c.awaiting.ensures ∙ ap (cell_with c.args.part) needs))
    c.in_ok-cell.ensures.number
    ∙ add-is c.args.plan.now (new_cell c.args.part (map f (places s)))
