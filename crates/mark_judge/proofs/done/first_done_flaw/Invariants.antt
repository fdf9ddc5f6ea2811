use Rattle.std.proofs.Common.{ℕ, ◌≡◌, ◌<◌, None}
use Rattle.mark_judge.specs.Judged.{done_flaw}
use Rattle.mark_judge.proofs.done.first_done_flaw.Given as goal

abbrev pub invariant-loop-rank : goal.invariant-loop-rank
invariant-loop-rank l = (r : ℕ) → r < l.rank → done_flaw l.plan l.done r ≡ None
