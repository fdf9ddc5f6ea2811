use Rattle.std.proofs.Common.{ℕ, false, ◌≡◌, ◌<◌}
use Rattle.mark_judge.specs.Due.{mark_at}
use Rattle.mark_judge.specs.Tables.{is_unbound}
use Rattle.mark_judge.proofs.bound.first_unbound.Given as goal

abbrev pub invariant-loop-i : goal.invariant-loop-i
invariant-loop-i l = (j : ℕ) → j < l.i → is_unbound l.bound (mark_at l.marks j) ≡ false
