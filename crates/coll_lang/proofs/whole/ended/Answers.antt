use Rattle.std.proofs.Common.{sym, ◌∙◌}
use Rattle.coll_lang.specs.States.{past}
use Rattle.coll_lang.proofs.Reading.{finished}
use Rattle.coll_lang.proofs.whole.ended.Goals as goal

pub returns-then-is_empty : goal.returns-then-is_empty
returns-then-is_empty c =
    let empty = sym c.is_empty.ensures ∙ c.if-is_empty.true in
    rw empty at (finished (past c.args.reader) c.args.number c.args.rest.now c.requires.done)

pub returns-else-is_empty : goal.returns-else-is_empty
returns-else-is_empty c =
    let full = sym c.is_empty.ensures ∙ c.if-is_empty.false in
    rw c.refused.ensures (rw full at (finished (past c.args.reader) c.args.number c.args.rest.now c.requires.done))
