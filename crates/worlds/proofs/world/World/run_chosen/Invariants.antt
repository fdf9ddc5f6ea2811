-- Some steps were made as the chooser named them, and fewer are left.
use Rattle.std.proofs.Common.{◌≡◌}
use Rattle.worlds.specs.Later.{IsLater}
use Rattle.worlds.proofs.Stepping.{IsRunOf, left_in}
use Rattle.worlds.proofs.world.World.run_chosen.Given as goal

abbrev pub invariant-loop-n : goal.invariant-loop-n
invariant-loop-n g l =
    IsLater l.fn.self l.self × (l.self.strays ≡ l.fn.self.strays)
    × IsRunOf g.C.Chooser.answer g.C.Chooser.after l.fn.self l.fn.chooser l.self l.chooser

abbrev pub decreases-loop-n : goal.decreases-loop-n
decreases-loop-n g l = left_in l.self
