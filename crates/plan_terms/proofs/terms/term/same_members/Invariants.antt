use Rattle.std.proofs.Common.{ℕ, ◌≡◌, ◌<◌, get_or}
use Rattle.plan_terms.specs.terms.Terms.{no_member}
use Rattle.plan_terms.proofs.terms.term.same_members.Given as goal

abbrev pub invariant-loop-k : goal.invariant-loop-k
invariant-loop-k l = (j : ℕ) → j < l.k → get_or l.a j no_member ≡ get_or l.b j no_member
