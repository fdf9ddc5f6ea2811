use Rattle.triggered_ops.specs.Operations.{waits_on}
use Rattle.portals_ni.proofs.Uses.{used-told}
use Rattle.portals_ni.proofs.triggers.Triggers.reached.Goals as goal

pub invariant_of-self : goal.invariant_of-self
invariant_of-self c =
    let t = c.self.inside in
    rw c.reached.ensures.does (used-told (waits_on c.args.ct) c.args.sum t.pending t.cts t.mds c.self.invariant)
