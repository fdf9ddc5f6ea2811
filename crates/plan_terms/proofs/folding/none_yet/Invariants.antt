use Rattle.std.proofs.Common.{◌≡◌, replicate, []}
use Rattle.plan_terms.proofs.folding.none_yet.Given as goal

abbrev pub invariant-loop-i : goal.invariant-loop-i
invariant-loop-i l = l.folds.items ≡ replicate l._i []
