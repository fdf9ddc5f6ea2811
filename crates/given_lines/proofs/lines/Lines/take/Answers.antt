use Rattle.std.proofs.Common.{◌≡◌, ◌∷◌, []}
use Rattle.coll_text.specs.Text.{lines}
use Rattle.given_lines.proofs.lines.Lines.take.Goals as goal

pub returns-in-None-clause-taken : goal.returns-in-None-clause-taken
returns-in-None-clause-taken c =
    let line = c.cut.result.0.now in
    let whole : lines c.args.self.now.rest.now ≡ line ∷ [] = rw c.in-None.is at c.cut.ensures.parts in
    ((line, whole), c.refused.ensures)
