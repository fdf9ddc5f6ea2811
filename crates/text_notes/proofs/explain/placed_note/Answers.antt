use Rattle.text_notes.proofs.Showing.{placed_stands}
use Rattle.text_notes.proofs.explain.placed_note.Goals as goal

pub returns-clause-stands : goal.returns-clause-stands
returns-clause-stands c =
    placed_stands c.args.line.now c.new.result c.cut_word.result c.args.number c.args.place.0 c.args.place.1 c.args.about
    c.requires.order c.requires.within c.cut_word.ensures
