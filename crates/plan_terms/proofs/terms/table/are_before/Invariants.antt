use Rattle.std.proofs.Common.{ℕ, ◌+◌, ◌<◌, ◌≤◌, get_or}
use Rattle.plan_terms.specs.terms.Terms.{no_member, read_bytes}
use Rattle.plan_terms.proofs.terms.table.are_before.Given as goal

abbrev pub invariant-loop-member : goal.invariant-loop-member
invariant-loop-member l = (k : ℕ) → k < l.member-index → (get_or l.members k no_member).word + read_bytes l.making ≤ l.first
