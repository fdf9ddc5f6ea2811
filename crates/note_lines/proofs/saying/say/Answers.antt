use Rattle.note_lines.proofs.Lines.{says_line}
use Rattle.note_lines.proofs.saying.say.Goals as goal

pub returns : goal.returns
returns g c = says_line _ _ _ _ c.say_line.ensures.note c.say_line.ensures.written
