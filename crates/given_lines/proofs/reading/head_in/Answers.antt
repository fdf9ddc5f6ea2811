use Rattle.std.proofs.Common.{◌≡◌, Some, None, sym, arith}
use Rattle.std.proofs.lemmas.Result.{err_from_is_err_and}
use Rattle.coll_text.specs.Text.{words}
use Rattle.given_lines.specs.Words.{counts_of}
use Rattle.given_lines.proofs.Heads.{bad, ends_early, read, too_many}
use Rattle.given_lines.proofs.reading.head_in.Goals as goal

pub returns-in_err-line-clause-head : goal.returns-in_err-line-clause-head
returns-in_err-line-clause-head c =
    let p = err_from_is_err_and c.from_residual.result c.from_residual.ensures.1 in
    rw (p.1, p.2)
    (ends_early c.args.ranks c.args.least c.args.left.now.number c.args.left.now.rest.now c.in_err-line.field-0.0
    c.in_err-line.ensures.taken)

pub returns-in-None-clause-head : goal.returns-in-None-clause-head
returns-in-None-clause-head c =
    let line = c.in_ok-line.line.now in
    let said : counts_of c.args.ranks c.args.least (words line) ≡ None = rw c.of.ensures.makes at (sym c.in-None.ensures) in
    rw c.refused-bad.ensures
    (bad c.args.ranks c.args.least c.args.left.now.number c.args.left.now.rest.now line c.take.new.self.rest.now
    c.in_ok-line.ensures.taken.0 said)

pub returns-in-Some-clause-head : goal.returns-in-Some-clause-head
returns-in-Some-clause-head c =
    let line = c.in_ok-line.line.now in
    let said : counts_of c.args.ranks c.args.least (words line) ≡ Some c.in-Some.counts = rw c.of.ensures.makes at (sym c.in-Some.ensures)
    in
    let many = c.if-counts-gt-MOST_LINKS.true in
    rw c.refused-many.ensures
    (too_many c.args.ranks c.args.least c.args.left.now.number c.args.left.now.rest.now line c.take.new.self.rest.now c.in-Some.counts
    c.in_ok-line.ensures.taken.0 said (omega (arith, many)))

pub returns-in-Some-2-clause-head : goal.returns-in-Some-2-clause-head
returns-in-Some-2-clause-head c =
    let line = c.in_ok-line.line.now in
    let said : counts_of c.args.ranks c.args.least (words line) ≡ Some c.in-Some.counts = rw c.of.ensures.makes at (sym c.in-Some.ensures)
    in
    let within = c.if-counts-gt-MOST_LINKS.false in
    let head = read c.args.ranks c.args.least c.args.left.now.number c.args.left.now.rest.now line c.take.new.self.rest.now
    c.in-Some.counts c.in_ok-line.ensures.taken.0 said (omega (arith, within)) in
    (head, c.in_ok-line.ensures.taken.1)
