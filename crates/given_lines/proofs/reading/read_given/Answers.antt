use Rattle.std.proofs.lemmas.Result.{err_from_is_err_and}
use Rattle.coll_text.specs.Text.{lines}
use Rattle.given_lines.proofs.Heads.{before, in_cells, in_done, in_head, in_links, in_marks, whole}
use Rattle.given_lines.proofs.reading.read_given.Goals as goal

pub returns-in_err-counts : goal.returns-in_err-counts
returns-in_err-counts c =
    let p = err_from_is_err_and c.from_residual.result c.from_residual.ensures.1 in
    rw (p.1, p.2)
    (in_head c.args.ranks c.args.least c.args.first c.args.buffers.now (lines c.args.text.now) c.in_err-counts.field-0.0
    c.in_err-counts.ensures.head)

pub returns-in_err-cells : goal.returns-in_err-cells
returns-in_err-cells c =
    let p = err_from_is_err_and c.from_residual-in_err-cells.result c.from_residual-in_err-cells.ensures.1 in
    let second = c.head_in.new.left in
    let head = c.in_ok-counts.ensures.head in
    rw (p.1, p.2)
    (in_cells c.args.ranks c.args.least c.args.first c.args.buffers.now (lines c.args.text.now) (lines second.rest.now)
    c.in_ok-counts.counts second.number c.in_err-cells.field-0.0 head.0 head.1 c.in_err-cells.ensures.rows)

pub returns-in_err-links : goal.returns-in_err-links
returns-in_err-links c =
    let p = err_from_is_err_and c.from_residual-in_err-links.result c.from_residual-in_err-links.ensures.1 in
    let second = c.head_in.new.left in
    let third = c.cells_in.new.left in
    let head = c.in_ok-counts.ensures.head in
    let cells = c.in_ok-cells.ensures.rows in
    rw (p.1, p.2)
    (in_links c.args.ranks c.args.least c.args.first c.args.buffers.now (lines c.args.text.now) (lines second.rest.now)
    (lines third.rest.now) c.in_ok-counts.counts c.in_ok-cells.cells.items second.number third.number c.in_err-links.field-0.0 head.0 head.1
    cells.0 cells.1 c.in_err-links.ensures.rows)

pub returns-in_err-done : goal.returns-in_err-done
returns-in_err-done c =
    let p = err_from_is_err_and c.from_residual-in_err-done.result c.from_residual-in_err-done.ensures.1 in
    let second = c.head_in.new.left in
    let third = c.cells_in.new.left in
    let fourth = c.links_in.new.left in
    let head = c.in_ok-counts.ensures.head in
    let cells = c.in_ok-cells.ensures.rows in
    let links = c.in_ok-links.ensures.rows in
    rw (p.1, p.2)
    (in_done c.args.ranks c.args.least c.args.first c.args.buffers.now (lines c.args.text.now) (lines second.rest.now)
    (lines third.rest.now) (lines fourth.rest.now) c.in_ok-counts.counts c.in_ok-cells.cells.items c.in_ok-links.links.items second.number
    third.number fourth.number c.in_err-done.field-0.0 head.0 head.1 cells.0 cells.1 links.0 links.1 c.in_err-done.ensures.rows)

pub returns-in_err-marks : goal.returns-in_err-marks
returns-in_err-marks c =
    let p = err_from_is_err_and c.from_residual-in_err-marks.result c.from_residual-in_err-marks.ensures.1 in
    let second = c.head_in.new.left in
    let third = c.cells_in.new.left in
    let fourth = c.links_in.new.left in
    let rest = c.done_in.new.left in
    let head = c.in_ok-counts.ensures.head in
    let cells = c.in_ok-cells.ensures.rows in
    let links = c.in_ok-links.ensures.rows in
    let done = c.in_ok-done.ensures.rows in
    let b = before c.args.ranks c.args.least c.args.first (lines c.args.text.now) (lines second.rest.now) (lines third.rest.now)
    (lines fourth.rest.now) (lines rest.rest.now) c.in_ok-counts.counts c.in_ok-cells.cells.items c.in_ok-links.links.items
    c.in_ok-done.done.items second.number third.number fourth.number rest.number head.0 head.1 cells.0 cells.1 links.0 links.1 done.0
    done.1 in
    rw (p.1, p.2) (in_marks _ _ _ c.args.buffers.now _ _ _ _ _ _ _ c.in_err-marks.field-0.0 b c.in_err-marks.ensures)

pub returns : goal.returns
returns c =
    let second = c.head_in.new.left in
    let third = c.cells_in.new.left in
    let fourth = c.links_in.new.left in
    let rest = c.done_in.new.left in
    let head = c.in_ok-counts.ensures.head in
    let cells = c.in_ok-cells.ensures.rows in
    let links = c.in_ok-links.ensures.rows in
    let done = c.in_ok-done.ensures.rows in
    let b = before c.args.ranks c.args.least c.args.first (lines c.args.text.now) (lines second.rest.now) (lines third.rest.now)
    (lines fourth.rest.now) (lines rest.rest.now) c.in_ok-counts.counts c.in_ok-cells.cells.items c.in_ok-links.links.items
    c.in_ok-done.done.items second.number third.number fourth.number rest.number head.0 head.1 cells.0 cells.1 links.0 links.1 done.0
    done.1 in
    rw c.of-plan.ensures (whole _ _ _ c.args.buffers.now _ _ _ _ _ _ _ c.in_ok-marks.marks.items b c.in_ok-marks.ensures)
