use Rattle.std.proofs.Common.{ℕ, ◌≡◌, ◌<◌, None}
use Rattle.mark_judge.specs.Judged.{missing_at}
use Rattle.mark_judge.specs.Tables.{has}
use Rattle.mark_judge.proofs.missing.missing_barriers.Given as goal

abbrev pub invariant-loop-s : goal.invariant-loop-s
invariant-loop-s l = (j : ℕ) → j < l.s → missing_at l.shape (has l.named) j ≡ None
