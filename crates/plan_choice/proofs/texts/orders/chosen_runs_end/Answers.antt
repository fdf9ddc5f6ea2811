-- By `Ending`.
use Rattle.plan_choice.proofs.texts.orders.Ending.{choice_ends}
use Rattle.plan_choice.proofs.texts.orders.chosen_runs_end.Goals as goal

pub returns : goal.returns
returns c = λ ranks ks slots words in_range. choice_ends ranks ks slots in_range words
