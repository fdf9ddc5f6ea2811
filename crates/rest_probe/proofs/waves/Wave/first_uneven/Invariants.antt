use Rattle.std.proofs.Common.{◌<◌, ℕ}
use Rattle.rest_probe.specs.Answered.{IsEven}
use Rattle.rest_probe.proofs.waves.Wave.first_uneven.Given as goal

abbrev pub invariant-loop-s : goal.invariant-loop-s
invariant-loop-s l = (r i : ℕ) → r < l.s → IsEven l.self r i
