use Rattle.text_notes.proofs.Showing.{bare_stands}
use Rattle.text_notes.proofs.explain.plain_note.Goals as goal

pub returns-clause-stands : goal.returns-clause-stands
returns-clause-stands c = λ text. bare_stands text c.new.result c.new-2.result c.args.line c.args.about c.new-2.ensures
