use Rattle.std.proofs.Common.{ℕ, false, ◌≡◌, ◌<◌, get_or}
use Rattle.mark_judge.proofs.barriers.first_open.Given as goal

abbrev pub invariant-loop-i : goal.invariant-loop-i
invariant-loop-i l = (j : ℕ) → j < l.i → get_or l.unmet j false ≡ false
