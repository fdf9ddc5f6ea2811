use Rattle.cuts.proofs.windows.Falling.{falls}
use Rattle.cuts.proofs.windows.runs_end.Goals as goal

pub returns : goal.returns
returns c = λ plan inputs slots strays window scene step sound fit moment i most. falls plan inputs sound fit slots strays scene window
    step moment i most
