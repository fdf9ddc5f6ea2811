-- By `LaneCuts`.
use Rattle.op_laws.proofs.Starts.{combined-starts}
use Rattle.cuts.proofs.rest.LaneCuts.{lane_few, unused_got, unused_sent}
use Rattle.cuts.proofs.rest.lanes_of_a_cut.Goals as goal

pub returns-clause-messages : goal.returns-clause-messages
returns-clause-messages c = λ plan inputs slots world sound fit cut s d lane hs hd. lane_few combined-starts plan inputs sound fit slots
    world cut s d lane hs hd

pub returns-clause-unused : goal.returns-clause-unused
returns-clause-unused c = λ plan inputs slots world sound fit cut s d lane hs hd e. unused_sent combined-starts plan inputs sound fit
    slots world cut s d lane hs hd e

pub returns-clause-nothing_comes : goal.returns-clause-nothing_comes
returns-clause-nothing_comes c = λ plan inputs slots world sound fit cut s d lane hs hd e. unused_got combined-starts plan inputs sound
    fit slots world cut s d lane hs hd e
