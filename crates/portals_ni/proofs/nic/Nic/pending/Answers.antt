use Rattle.std.proofs.Common.{subst}
use Rattle.portals_ni.specs.Lasting.{Lasts}
use Rattle.portals_ni.proofs.Lasting.{lasts}
use Rattle.portals_ni.proofs.nic.Nic.pending.Goals as goal

pub returns-clause-kept : goal.returns-clause-kept
returns-clause-kept c =
    let n = c.self.inside in
    let kept = rw c.waiting.ensures.value at c.len.ensures.kept in
    subst Lasts c.self.view_is (lasts n.target n.region n.cts n.eqs n.initiator n.pending n.drops n.violations c.self.invariant kept)
