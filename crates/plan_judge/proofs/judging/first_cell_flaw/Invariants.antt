use Rattle.std.proofs.Common.{ℕ, ◌≡◌, ◌<◌, None}
use Rattle.plan_judge.specs.Causes.{cell_flaw}
use Rattle.plan_judge.proofs.judging.first_cell_flaw.Given as goal

abbrev pub invariant-loop-c : goal.invariant-loop-c
invariant-loop-c l = (j : ℕ) → j < l.c → cell_flaw l.plan l.lengths j ≡ None
