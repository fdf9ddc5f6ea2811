use Rattle.note_lines.specs.Said.{TakesNotes}
use Rattle.note_lines.proofs.saying.say_each.Given as goal

abbrev pub invariant-loop-form : goal.invariant-loop-form
invariant-loop-form g l = TakesNotes (g.N.Sink.outflow l.fn.notes) (g.N.Sink.outflow l.notes)
