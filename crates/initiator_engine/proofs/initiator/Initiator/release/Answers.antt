use Rattle.std.proofs.Common.{◌∙◌, sym}
use Rattle.initiator_engine.proofs.Naming.{users-released}
use Rattle.initiator_engine.proofs.initiator.Initiator.release.Goals as goal

pub invariant_of-self : goal.invariant_of-self
invariant_of-self c =
    let i = c.self.inside in
    rw (c.remove.ensures.rest, c.remove-in-Some-2.ensures.does, c.remove-in-Some-2-2.ensures.does)
    (users-released i.limits i.mds i.cts i.eqs c.args.md c.in-Some.bound c.self.invariant (sym c.bound_of.ensures ∙ c.in-Some.is))
