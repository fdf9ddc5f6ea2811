-- As the first one says.
use Rattle.plan_agreement.proofs.agreement.by_first.Goals as goal

pub search-requires-clause-unknown : goal.search-requires-clause-unknown
search-requires-clause-unknown c = rw c.in-Some.is at c.requires.first

pub returns-in-None-clause-agrees : goal.returns-in-None-clause-agrees
returns-in-None-clause-agrees c = rw c.in-None.is at c.requires.first
