-- By `OneRun`.
use Rattle.plan_choice.proofs.texts.orders.OneRun.{one_memory, one_result, one_run}
use Rattle.plan_choice.proofs.texts.orders.words_choose_one_run.Goals as goal

pub returns-clause-steps : goal.returns-clause-steps
returns-clause-steps c = λ ranks ks slots others words one other in_range a b r h. one_run ranks ks slots others in_range words one other
    a b r h

pub returns-clause-memory : goal.returns-clause-memory
returns-clause-memory c = λ ranks ks slots others words one other in_range a b r h. one_memory ranks ks slots others in_range words
    one other a b r h

pub returns-clause-results : goal.returns-clause-results
returns-clause-results c = λ ranks ks slots others words one other in_range a b s r h. one_result ranks ks slots others in_range words
    one other a b s r h
