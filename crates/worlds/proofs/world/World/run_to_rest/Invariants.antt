-- Each step leads to a later world, and leaves fewer to be made.
use Rattle.std.proofs.Common.{◌≡◌}
use Rattle.worlds.specs.Later.{IsLater}
use Rattle.worlds.proofs.Stepping.{LeadsTo, left_in}
use Rattle.worlds.proofs.world.World.run_to_rest.Given as goal

abbrev pub invariant-loop-self : goal.invariant-loop-self
invariant-loop-self l = IsLater l.fn.self l.self × (l.self.strays ≡ l.fn.self.strays) × LeadsTo l.fn.self l.self

abbrev pub decreases-loop-self : goal.decreases-loop-self
decreases-loop-self l = left_in l.self
