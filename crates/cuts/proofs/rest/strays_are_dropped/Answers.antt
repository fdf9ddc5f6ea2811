-- By `Strays` of the crate of cuts.
use Rattle.op_laws.proofs.Starts.{combined-starts}
use Rattle.cuts.proofs.histories.Strays.{stray_drops}
use Rattle.cuts.proofs.rest.strays_are_dropped.Goals as goal

pub returns : goal.returns
returns c = λ plan inputs slots world sound fit cut r h m e. stray_drops combined-starts plan inputs sound fit slots world cut r h m e
