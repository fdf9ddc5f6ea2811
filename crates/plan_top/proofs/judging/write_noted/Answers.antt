use Rattle.plan_top.proofs.Answering.{given_no_memory}
use Rattle.plan_top.proofs.judging.write_noted.Goals as goal

pub returns-in-Err : goal.returns-in-Err
returns-in-Err g c = record { written = given_no_memory c.args.answer.now _; told = λ is. absurd (cc) }
