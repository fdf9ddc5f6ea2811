use Rattle.portals_ni.proofs.Uses.{used-none}
use Rattle.portals_ni.proofs.triggers.Triggers.open.Goals as goal

pub invariant_of-result : goal.invariant_of-result
invariant_of-result c =
    let l = c.args.limits.now in
    rw (c.in_ok-pending.ensures.makes, c.in_ok-cts.ensures.makes, c.in_ok-mds.ensures.makes) (used-none l.triggered l.cts l.mds)
