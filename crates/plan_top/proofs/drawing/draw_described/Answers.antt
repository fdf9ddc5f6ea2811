-- A choice text, or not.
use Rattle.std.proofs.Common.{sym}
use Rattle.plan_top.proofs.Telling.{choices_tells}
use Rattle.plan_top.proofs.drawing.draw_described.Goals as goal

pub returns-in-Some : goal.returns-in-Some
returns-in-Some g c = record {
  written = rw (← c.in-Some.ensures.value) c.refuse.ensures;
  told = λ bytes. choices_tells bytes _ _ _ _ _ (sym c.in-Some.ensures.value) (c.cause_note.ensures bytes);
}

pub returns-in-None : goal.returns-in-None
returns-in-None g c = record {
  written = rw (← c.in-None.ensures.value, ← c.shape.ensures.shape) c.draw_shape.ensures.written;
  told = λ bytes. rw (← c.in-None.ensures.value, ← c.shape.ensures.shape) (c.draw_shape.ensures.told bytes);
}
