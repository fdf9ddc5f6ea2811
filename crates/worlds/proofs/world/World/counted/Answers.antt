use Rattle.std.proofs.Common.{subst}
use Rattle.worlds.specs.Standing.{IsStanding}
use Rattle.worlds.proofs.Standing.{stands}
use Rattle.worlds.proofs.world.World.counted.Goals as goal

pub returns-clause-kept : goal.returns-clause-kept
returns-clause-kept c =
    let s = c.self.inside in
    subst IsStanding c.self.view_is (stands s.job s.nodes.items s.traffic c.self.invariant)
