-- By `Central`.
use Rattle.cuts.proofs.machine.Central.{rest_reaches, rest_fires}
use Rattle.cuts.proofs.machine.rest_is_completion.Goals as goal

pub returns-clause-reached : goal.returns-clause-reached
returns-clause-reached c = λ plan inputs moves sound rest d h. rest_reaches plan inputs sound moves rest d h

pub returns-clause-fired : goal.returns-clause-fired
returns-clause-fired c = λ plan inputs moves sound rest r h w i. rest_fires plan inputs sound moves rest r h w i
