use Rattle.given_verdicts.specs.declared.answer.Judged.TheVariants.{Flawless}
use Rattle.given_top.specs.Explained.{BesideTimes}
use Rattle.given_top.proofs.Beside.{answer_tells, times_tell}
use Rattle.given_top.proofs.Costs.{no_memory, too_long}
use Rattle.given_top.proofs.costing.answer_flawless.Goals as goal

pub returns-in-Ok : goal.returns-in-Ok
returns-in-Ok g c = record {
  costs = c.answer_timed.ensures.costs;
  told = answer_tells (BesideTimes c.args.found.now) _ _ c.answer_timed.ensures.answered;
}

pub returns-in-Err-TooLong : goal.returns-in-Err-TooLong
returns-in-Err-TooLong g c = record {
  costs =
      too_long c.args.numbers.now c.args.found.now _ _ _ (rw (c.in-Err-TooLong.field-0-is, c.plan.ensures) at c.in-Err-TooLong.ensures)
      c.refuse.ensures;
  told = times_tell c.args.found.now _ _ c.words_note.ensures;
}

pub returns-in-Err-NoMemory : goal.returns-in-Err-NoMemory
returns-in-Err-NoMemory g c = record { costs = no_memory c.args.numbers.now (Flawless c.args.found.now) _; told = tt }
