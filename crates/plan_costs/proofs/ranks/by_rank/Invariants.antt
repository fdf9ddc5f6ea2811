use Rattle.plan_costs.specs.Ranks.{AreRankTimes}
use Rattle.plan_costs.proofs.ranks.by_rank.Given as goal

abbrev pub invariant-loop-c : goal.invariant-loop-c
invariant-loop-c l = AreRankTimes l.plan l.times l.c l.ranks.items
