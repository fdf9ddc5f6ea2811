use Rattle.std.proofs.Common.{subst}
use Rattle.portals_ni.specs.Lasting.{HasLimits}
use Rattle.portals_ni.proofs.nic.Nic.limits.Goals as goal

pub returns-clause-stand : goal.returns-clause-stand
returns-clause-stand c = subst HasLimits c.self.view_is c.self.invariant.stands.limits
