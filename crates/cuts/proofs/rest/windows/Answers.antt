-- By `stuck_still` of `Moments`.
use Rattle.cuts.proofs.rest.Moments.{still_rest, stuck_still}
use Rattle.cuts.proofs.rest.windows.Goals as goal

pub returns : goal.returns
returns c = λ plan inputs slots world held window sound some m h. still_rest plan inputs slots world held m
    (stuck_still plan inputs sound slots world held window some h)
