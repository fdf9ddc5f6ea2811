use Rattle.plan_steps.proofs.doubling.+rounds_from.Given as goal

abbrev pub decreases-rounds_from : goal.decreases-rounds_from
decreases-rounds_from l = l.fuel
