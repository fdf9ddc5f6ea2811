use Rattle.initiator_engine.proofs.Naming.{users-none}
use Rattle.initiator_engine.proofs.initiator.Initiator.open.Goals as goal

pub invariant_of-result : goal.invariant_of-result
invariant_of-result c = rw (c.in_ok-mds.ensures, c.in_ok-cts.ensures.makes, c.in_ok-eqs.ensures.makes) (users-none c.args.limits.now)
