-- What is read of a text.
use Rattle.std.proofs.Common.{refl}
use Rattle.coll_lang.specs.Language.{read}
use Rattle.plan_top.proofs.Answering.{drawn_owes}
use Rattle.plan_top.proofs.Telling.{read_tells}
use Rattle.plan_top.proofs.drawing.draw_text.Goals as goal

pub returns-in-Ok : goal.returns-in-Ok
returns-in-Ok g c = record {
  written = rw c.in-Ok.ensures.exact c.draw_described.ensures.written;
  told = rw c.in-Ok.ensures.exact (c.draw_described.ensures.told c.args.text.now);
}

pub returns-in-Err-Refused : goal.returns-in-Err-Refused
returns-in-Err-Refused g c = record {
  written = rw (rw c.in-Err-Refused.field-0-is at c.in-Err-Refused.ensures.exact) c.refuse.ensures;
  told = read_tells c.args.text.now (read c.args.text.now) _ _ _ _
      (rw c.in-Err-Refused.field-0-is at c.in-Err-Refused.ensures.exact) c.line_note.ensures;
}

pub returns-in-Err-NoMemory : goal.returns-in-Err-NoMemory
returns-in-Err-NoMemory g c = record {
  written = record { allowed = drawn_owes (read c.args.text.now); no_read = λ is. absurd (cc); text = refl };
  told = tt;
}
