use Rattle.std.proofs.Common.{ℕ, ◌≤◌, subst, sym}
use Rattle.given_top.proofs.Checks.{line_least}
use Rattle.given_top.proofs.checking.parts.Goals as goal

pub overflow_sub-result : goal.overflow_sub-result
overflow_sub-result c = subst (λ (n : ℕ). 1 ≤ n) (sym c.first_end-plan.ensures.line) (line_least 1 _)
