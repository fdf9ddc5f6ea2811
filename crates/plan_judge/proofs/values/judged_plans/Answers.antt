-- By `Judged`.
use Rattle.plan_judge.proofs.values.Judged.{given}
use Rattle.plan_judge.proofs.values.judged_plans.Goals as goal

pub returns : goal.returns
returns c = λ p inputs lengths none lists. given p inputs lengths none lists
