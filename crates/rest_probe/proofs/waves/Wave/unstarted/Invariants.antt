use Rattle.rest_probe.specs.Answered.{AllStarted}
use Rattle.rest_probe.proofs.waves.Wave.unstarted.Given as goal

abbrev pub invariant-loop-r : goal.invariant-loop-r
invariant-loop-r l = AllStarted l.self l.r
