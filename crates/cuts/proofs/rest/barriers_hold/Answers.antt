-- By `Laws`, and the rounds of the machine.
use Rattle.std.proofs.Common.{arith}
use Rattle.op_laws.proofs.Starts.{combined-starts}
use Rattle.cuts.proofs.machine.Rounds.{entries_lead}
use Rattle.cuts.proofs.rest.Laws.{ancestor_reached}
use Rattle.cuts.proofs.rest.barriers_hold.Goals as goal

pub returns : goal.returns
returns c = λ plan inputs slots world places rounds round sound fit cut rows cells a m i h passed.
    ancestor_reached combined-starts plan inputs sound fit slots world cut (round 0 a) (round rounds m) (cells 0 a (omega arith) i)
    (cells rounds m (omega arith) h) (entries_lead plan places rounds round rows a m i h) passed
