use Rattle.rest_probe.specs.Answered.{NoneReady}
use Rattle.rest_probe.proofs.waves.Wave.first_ready.Given as goal

abbrev pub invariant-loop-r : goal.invariant-loop-r
invariant-loop-r l = NoneReady l.self l.r
