-- A choice text, or not.
use Rattle.std.proofs.Common.{ap}
use Rattle.given_verdicts.specs.declared.answer.Judged.TheVariants.{Answered}
use Rattle.given_verdicts.proofs.judging.on_pieces.Goals as goal

pub returns-in-Some : goal.returns-in-Some
returns-in-Some c = rw (← c.in-Some.ensures.value) (ap Answered c.refused.ensures)

pub returns-in-None : goal.returns-in-None
returns-in-None c = rw (← c.in-None.ensures.value) c.on_read.ensures
