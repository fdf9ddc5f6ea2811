use Rattle.std.proofs.Common.{subst, sym}
use Rattle.rank_process.specs.Refused.{FailsFirst}
use Rattle.rank_process.proofs.Doing.{bytes-fail}
use Rattle.rank_process.proofs.first.read_first.Goals as goal

pub returns-in-Err-read_bytes-clause-fails : goal.returns-in-Err-read_bytes-clause-fails
returns-in-Err-read_bytes-clause-fails g c =
    let x = g.S.Source.inflow c.args.source.now in
    let y = g.S.Source.inflow c.read_head.new.source in
    let z = g.S.Source.inflow c.read_bytes.new.source in
    subst (λ s. FailsFirst s x z) (sym c.status_of-in-Err-read_bytes.ensures)
    (bytes-fail c.in-Err-read_bytes.stop x y z c.in-Ok.head.0 c.in-Ok.head.1 c.in-Ok.ensures.front c.in-Ok.ensures.faults
    c.in-Err-read_bytes.ensures.stops)
