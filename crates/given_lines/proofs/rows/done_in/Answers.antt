use Rattle.std.proofs.Common.{◌≡◌, Some, None, sym, ◌∙◌, arith}
use Rattle.std.proofs.lemmas.Result.{err_from_is_err_and}
use Rattle.coll_text.specs.Text.{lines, words}
use Rattle.given_lines.specs.Words.{done_of}
use Rattle.given_lines.proofs.RowsRead.{ends, is_bad, no_line, turn}
use Rattle.given_lines.proofs.rows.done_in.Goals as goal

pub returns-in_err-line-clause-rows : goal.returns-in_err-line-clause-rows
returns-in_err-line-clause-rows c =
    let p = err_from_is_err_and c.from_residual.result c.from_residual.ensures.1 in
    let l = c.loop-r in
    rw (p.1, p.2)
    (no_line done_of c.args.ranks l.r l.left.number l.done.items l.left.rest.now _ c.in_err-line.field-0.0 c.loop-r-test.true
    l.invariant.read c.in_err-line.ensures.taken)

pub returns-in-None-clause-rows : goal.returns-in-None-clause-rows
returns-in-None-clause-rows c =
    let l = c.loop-r in
    let line = c.in_ok-line.line.now in
    let rest = c.take.new.self.rest.now in
    let none : done_of l.r (words line) ≡ None = rw c.of.ensures.makes at (sym c.in-None.ensures) in
    rw c.refused-bad.ensures
    (is_bad done_of c.args.ranks l.r l.left.number l.done.items l.left.rest.now line rest _ c.loop-r-test.true l.invariant.read
    c.in_ok-line.ensures.taken.0 none)

pub returns-clause-rows : goal.returns-clause-rows
returns-clause-rows c =
    let l = c.loop-r in
    let pieces = lines l.left.rest.now in
    (l.invariant.read ∙ ends done_of c.args.ranks l.r l.left.number l.done.items pieces c.loop-r-test.false, omega arith)

pub loop-r-preserved : goal.loop-r-preserved
loop-r-preserved c =
    let l = c.loop-r in
    let line = c.in_ok-line.line.now in
    let left = c.take.new.self in
    let taken = c.in_ok-line.ensures.taken in
    let said : done_of l.r (words line) ≡ Some c.in-Some.threshold = rw c.of.ensures.makes at (sym c.in-Some.ensures) in
    record {
      read = turn done_of c.args.ranks l.r l.left.number left.number l.done.items _ l.left.rest.now line left.rest.now
          c.in-Some.threshold _ c.loop-r-test.true l.invariant.read taken.0 said taken.1 c.in_ok-push-in-Some.ensures.items;
      number = omega arith;
      at_most = c.take.ensures.at_most;
    }
