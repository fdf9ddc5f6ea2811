-- By `Choosing`.
use Rattle.cuts.proofs.orders.Choosing.{chosen_holds, chosen_reached, listed_made, none_listed_still}
use Rattle.cuts.proofs.orders.chosen_runs.Goals as goal

pub returns-clause-listed : goal.returns-clause-listed
returns-clause-listed c = λ ranks scene step i. listed_made ranks scene step i

pub returns-clause-none : goal.returns-clause-none
returns-clause-none c = λ ranks scene e. none_listed_still ranks scene e

pub returns-clause-reached : goal.returns-clause-reached
returns-clause-reached c = λ ranks words n. chosen_reached ranks words n

pub returns-clause-holds : goal.returns-clause-holds
returns-clause-holds c = λ ranks words world h. chosen_holds ranks words world h
