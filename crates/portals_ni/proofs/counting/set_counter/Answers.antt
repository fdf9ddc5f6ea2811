use Rattle.std.proofs.Common.{refl}
use Rattle.portals_ni.proofs.Counts.{change-same}
use Rattle.portals_ni.proofs.counting.set_counter.Goals as goal

pub returns-in-Err-clause-err : goal.returns-in-Err-clause-err
returns-in-Err-clause-err c = rw (c.in-Err.ensures.err, c.in-Some.ensures.once (λ x. x), change-same c.args.ct c.args.cts.now.live) refl
