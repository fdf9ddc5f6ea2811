-- The laws of `Once`.
use Rattle.cuts.proofs.histories.Once.{fired_once, ready_before}
use Rattle.cuts.proofs.histories.firings.Goals as goal

pub returns-clause-once : goal.returns-clause-once
returns-clause-once c = λ t go begun from history l. fired_once t go history begun from l

pub returns-clause-ready : goal.returns-clause-ready
returns-clause-ready c = λ t go begun from front later l. ready_before t go front later begun from l
