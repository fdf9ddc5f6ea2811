use Rattle.note_lines.proofs.Lines.{says_stops}
use Rattle.portals_top.proofs.saying.say_forms.Goals as goal

pub returns-in_err-say : goal.returns-in_err-say
returns-in_err-say g c = says_stops _ _ c.from_residual.result c.from_residual.ensures.0 c.in_err-say.ensures
