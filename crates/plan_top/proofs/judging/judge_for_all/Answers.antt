use Rattle.std.proofs.Common.{refl}
use Rattle.plan_top.specs.declared.words.PlanRequest.TheVariants.{Verify}
use Rattle.plan_top.specs.Owed.{owed_given}
use Rattle.plan_top.proofs.Answering.{written_answers}
use Rattle.plan_top.proofs.Telling.{general_tells}
use Rattle.plan_top.proofs.judging.judge_for_all.Goals as goal

pub returns-in-Ok : goal.returns-in-Ok
returns-in-Ok g c = record {
  answers = written_answers Verify c.args.text.now (owed_given c.in-Ok.answer) (c.in-Ok.answer, c.in-Ok.ensures, refl) _ _ _
      c.write_noted.ensures.written;
  no_read = c.write_noted.ensures.written.no_read;
  told = general_tells c.args.text.now c.in-Ok.answer _ _ _ _ c.in-Ok.ensures c.write_noted.ensures.written c.write_noted.ensures.told;
}

pub returns-in-Err : goal.returns-in-Err
returns-in-Err g c = record { answers = refl; no_read = λ is. absurd (cc); told = tt }
