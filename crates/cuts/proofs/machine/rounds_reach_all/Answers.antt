-- By `Rounds`.
use Rattle.cuts.proofs.machine.Rounds.{entries_lead}
use Rattle.cuts.proofs.machine.rounds_reach_all.Goals as goal

pub returns : goal.returns
returns c = λ plan n rounds round h a r i j. entries_lead plan n rounds round h a r i j
