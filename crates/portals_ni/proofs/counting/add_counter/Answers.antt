use Rattle.std.proofs.Common.{refl}
use Rattle.ni_model.specs.Counts.{plus}
use Rattle.portals_ni.proofs.Counts.{change-same}
use Rattle.portals_ni.proofs.counting.add_counter.Goals as goal

pub returns-in-Ok-clause-ok : goal.returns-in-Ok-clause-ok
returns-in-Ok-clause-ok c = rw (c.in-Ok.ensures.ok, c.in-Some.ensures.once (plus c.args.by))

pub returns-in-Err-clause-err : goal.returns-in-Err-clause-err
returns-in-Err-clause-err c = rw (c.in-Err.ensures.err, c.in-Some.ensures.once (λ x. x), change-same c.args.ct c.args.cts.now.live) refl
