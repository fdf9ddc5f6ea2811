use Rattle.cuts.proofs.windows.Listed.{wide}
use Rattle.cuts.proofs.windows.wide_windows.Goals as goal

pub returns : goal.returns
returns c = λ ranks window scene at_most. wide ranks scene window at_most
