use Rattle.cuts.proofs.windows.Lanes.{begins}
use Rattle.cuts.proofs.windows.histories_go_on.Goals as goal

pub returns : goal.returns
returns c = λ ranks scene step r. begins ranks scene step r
