use Rattle.std.proofs.Common.{◌≡◌, drop}
use Rattle.plan_words.specs.Limits.{most_of, nothing}
use Rattle.plan_words.proofs.limits.most_of.Given as goal

-- with those that are left it is that of all
abbrev pub invariant-loop-i : goal.invariant-loop-i
invariant-loop-i l = most_of l.most (drop l.i l.takes) ≡ most_of nothing l.takes
