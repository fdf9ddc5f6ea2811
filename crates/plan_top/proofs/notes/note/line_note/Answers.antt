use Rattle.plan_top.proofs.notes.note.line_note.Goals as goal

pub returns : goal.returns
returns c = record {
  note = c.explain_text.result;
  line = c.explain_text.ensures.line;
  named = c.explain_text.ensures.name;
  path = c.explain_text.ensures.path;
  found = λ some. c.explain_text.ensures.stands;
  shown = c.note_text.ensures;
}
