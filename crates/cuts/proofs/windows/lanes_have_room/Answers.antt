use Rattle.op_laws.proofs.Starts.{combined-starts}
use Rattle.plan_core.specs.calls.Lanes.{lane_messages}
use Rattle.cuts.specs.histories.Plans.{system_of}
use Rattle.cuts.proofs.rest.LaneCuts.{lane_few}
use Rattle.cuts.proofs.windows.Lanes.{held_few}
use Rattle.cuts.proofs.windows.lanes_have_room.Goals as goal

pub returns : goal.returns
returns c = λ plan inputs slots scene s d lane sound fit moment hs hd.
    held_few (system_of plan inputs slots) scene s d lane (lane_messages plan s d lane) moment hs hd
    (lane_few combined-starts plan inputs sound fit slots scene.world moment.cut s d lane hs hd)
