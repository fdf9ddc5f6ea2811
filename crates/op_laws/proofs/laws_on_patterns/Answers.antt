-- By `OpLaws`.
use Rattle.op_laws.proofs.OpLaws.{absorbs, associates, commutes, op-below, start-lt, starts, stays, swaps}
use Rattle.op_laws.proofs.laws_on_patterns.Goals as goal

pub returns-clause-swaps : goal.returns-clause-swaps
returns-clause-swaps c = λ o. swaps o

pub returns-clause-commutes : goal.returns-clause-commutes
returns-clause-commutes c = λ o. commutes o

pub returns-clause-associates : goal.returns-clause-associates
returns-clause-associates c = λ o. associates o

pub returns-clause-starts : goal.returns-clause-starts
returns-clause-starts c = λ o. starts o

pub returns-clause-stays : goal.returns-clause-stays
returns-clause-stays c = λ o. stays o

pub returns-clause-absorbs : goal.returns-clause-absorbs
returns-clause-absorbs c = λ o. absorbs o

pub returns-clause-closed : goal.returns-clause-closed
returns-clause-closed c = λ o. op-below o

pub returns-clause-start_in_range : goal.returns-clause-start_in_range
returns-clause-start_in_range c = λ o. start-lt o
