use Rattle.std.proofs.Common.{◌<◌, ℕ}
use Rattle.rest_probe.specs.Answered.{IsEven}
use Rattle.rest_probe.proofs.waves.Wave.uneven_from.Given as goal

abbrev pub invariant-loop-at : goal.invariant-loop-at
invariant-loop-at l = (i : ℕ) → i < l.at → IsEven l.self l.s i
