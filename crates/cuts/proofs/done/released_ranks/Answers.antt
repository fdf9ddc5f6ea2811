-- By `Left` and `Later`.
use Rattle.op_laws.proofs.Starts.{combined-starts}
use Rattle.cuts.proofs.done.Later.{left_alone}
use Rattle.cuts.proofs.done.Left.{none_pending}
use Rattle.cuts.proofs.done.released_ranks.Goals as goal

pub returns : goal.returns
returns c = record {
  none_pending = λ plan inputs slots world sound fit cut r h rem done.
      none_pending combined-starts plan inputs sound fit slots world cut r h done rem;
  left_alone = λ plan inputs slots world later sound fit cut then on r h done none.
      left_alone combined-starts plan inputs sound fit slots world cut r h done later then on none;
}
