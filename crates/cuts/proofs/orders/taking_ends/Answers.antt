use Rattle.cuts.proofs.orders.Ending.{taking_ends}
use Rattle.cuts.proofs.orders.taking_ends.Goals as goal

pub returns : goal.returns
returns c = λ ranks lists. (let t = taking_ends ranks lists in (t.moves, t.taken))
