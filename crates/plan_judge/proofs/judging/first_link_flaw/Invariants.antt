use Rattle.std.proofs.Common.{ℕ, ◌≡◌, ◌<◌, None}
use Rattle.plan_judge.specs.Causes.{link_flaw}
use Rattle.plan_judge.proofs.judging.first_link_flaw.Given as goal

abbrev pub invariant-loop-l : goal.invariant-loop-l
invariant-loop-l l = (j : ℕ) → j < l.l → link_flaw l.plan l.lengths j ≡ None
