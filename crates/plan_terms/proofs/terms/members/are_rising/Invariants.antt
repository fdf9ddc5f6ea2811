use Rattle.std.proofs.Common.{ℕ, ◌<◌, ◌+◌, get_or}
use Rattle.plan_terms.specs.terms.Terms.{no_member}
use Rattle.plan_terms.proofs.terms.members.are_rising.Given as goal

abbrev pub invariant-loop-i : goal.invariant-loop-i
invariant-loop-i l = (k : ℕ) → k + 1 < l.i → (get_or l.list k no_member).word < (get_or l.list (k + 1) no_member).word
