use Rattle.std.proofs.Common.{ℕ, false, ◌≡◌, ◌<◌}
use Rattle.mark_judge.specs.Tables.{does_lack}
use Rattle.mark_judge.proofs.entries.lacks_one.Given as goal

abbrev pub invariant-loop-k : goal.invariant-loop-k
invariant-loop-k l = (j : ℕ) → j < l.k → does_lack l.bits l.entries l.step j ≡ false
