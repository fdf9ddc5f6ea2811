use Rattle.given_verdicts.specs.Answers.{answer_of}
use Rattle.plan_top.proofs.Answering.{given_no_memory}
use Rattle.plan_top.proofs.Telling.{given_tells}
use Rattle.plan_top.proofs.judging.judge_given.Goals as goal

pub returns-in-Ok : goal.returns-in-Ok
returns-in-Ok g c = record {
  written = rw (← c.in-Ok.ensures) c.write_noted.ensures.written;
  told = given_tells c.args.text.now c.in-Ok.answer (g.K.Sink.outflow c.args.sink.now) (g.K.Sink.outflow c.write_noted.new.sink) _ _
      c.in-Ok.ensures c.write_noted.ensures.told;
}

pub returns-in-Err : goal.returns-in-Err
returns-in-Err g c = record { written = given_no_memory (answer_of c.args.text.now) _; told = tt }
