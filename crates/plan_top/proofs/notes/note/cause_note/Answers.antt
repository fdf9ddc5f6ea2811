use Rattle.std.proofs.Common.{refl}
use Rattle.text_notes.specs.Places.{line_at}
use Rattle.plan_top.proofs.notes.note.cause_note.Goals as goal

pub returns : goal.returns
returns c = λ bytes. record {
  note = c.plain_note.result;
  line = c.plain_note.ensures.line;
  named = rw c.plain_note.ensures.about refl;
  path = c.plain_note.ensures.path;
  found = λ some. c.plain_note.ensures.stands (line_at bytes c.args.line);
  shown = c.note_text.ensures;
}
