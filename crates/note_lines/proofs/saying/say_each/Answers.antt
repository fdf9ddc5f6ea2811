use Rattle.note_lines.proofs.Lines.{begins_then, says_stops}
use Rattle.note_lines.proofs.saying.say_each.Goals as goal

pub returns-in_err-say : goal.returns-in_err-say
returns-in_err-say g c =
    says_stops _ _ c.from_residual.result c.from_residual.ensures.0 (begins_then _ _ _ c.loop-form.invariant c.in_err-say.ensures)
