use Rattle.std.proofs.Common.{◌≡◌, ◌∷◌}
use Rattle.coll_text.specs.Text.{lines}
use Rattle.coll_lang.specs.States.{past}
use Rattle.coll_lang.proofs.Reading.{fails_at}
use Rattle.coll_lang.proofs.whole.next_line.Goals as goal

pub returns-in-Err-clause-read : goal.returns-in-Err-clause-read
returns-in-Err-clause-read c =
    let cut : lines c.args.bytes.now ≡ c.cut.result.0.now ∷ lines c.in_default-Some.rest.now =
    rw c.in_default-Some.is-1 at c.cut.ensures.parts in
    rw (c.fault_at.ensures, cut)
    (fails_at (past c.args.reader.now) c.in-Err.fault c.args.number c.cut.result.0.now c.in_default-Some.rest.now c.requires.going
    c.in-Err.ensures)
