use Rattle.slot_laws.proofs.Judging.{verdicts_are_one}
use Rattle.slot_laws.proofs.verdicts_are_one.Goals as goal

pub returns : goal.returns
returns c = λ any_order text v w m n. verdicts_are_one any_order text v w m n
