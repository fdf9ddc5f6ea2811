use Rattle.std.proofs.Common.{◌≡◌, Some, None, sym, ◌∙◌, arith}
use Rattle.std.proofs.lemmas.Result.{err_from_is_err_and}
use Rattle.coll_text.specs.Text.{lines, words}
use Rattle.given_lines.specs.Words.{cell_of}
use Rattle.given_lines.proofs.RowsRead.{ends, is_bad, no_line, turn}
use Rattle.given_lines.proofs.rows.cells_in.Goals as goal

pub returns-in_err-line-clause-rows : goal.returns-in_err-line-clause-rows
returns-in_err-line-clause-rows c =
    let p = err_from_is_err_and c.from_residual.result c.from_residual.ensures.1 in
    let l = c.loop-n in
    rw (p.1, p.2)
    (no_line cell_of c.args.count l.n l.left.number l.cells.items l.left.rest.now _ c.in_err-line.field-0.0 c.loop-n-test.true
    l.invariant.read c.in_err-line.ensures.taken)

pub returns-in-None-clause-rows : goal.returns-in-None-clause-rows
returns-in-None-clause-rows c =
    let l = c.loop-n in
    let line = c.in_ok-line.line.now in
    let rest = c.take.new.self.rest.now in
    let none : cell_of l.n (words line) ≡ None = rw c.of.ensures.makes at (sym c.in-None.ensures) in
    rw c.refused-bad.ensures
    (is_bad cell_of c.args.count l.n l.left.number l.cells.items l.left.rest.now line rest _ c.loop-n-test.true l.invariant.read
    c.in_ok-line.ensures.taken.0 none)

pub returns-clause-rows : goal.returns-clause-rows
returns-clause-rows c =
    let l = c.loop-n in
    let pieces = lines l.left.rest.now in
    (l.invariant.read ∙ ends cell_of c.args.count l.n l.left.number l.cells.items pieces c.loop-n-test.false, omega arith)

pub loop-n-preserved : goal.loop-n-preserved
loop-n-preserved c =
    let l = c.loop-n in
    let line = c.in_ok-line.line.now in
    let left = c.take.new.self in
    let taken = c.in_ok-line.ensures.taken in
    let said : cell_of l.n (words line) ≡ Some c.in-Some.cell = rw c.of.ensures.makes at (sym c.in-Some.ensures) in
    record {
      read = turn cell_of c.args.count l.n l.left.number left.number l.cells.items _ l.left.rest.now line left.rest.now
          c.in-Some.cell _ c.loop-n-test.true l.invariant.read taken.0 said taken.1 c.in_ok-push-in-Some.ensures.items;
      number = omega arith;
      at_most = c.take.ensures.at_most;
    }
