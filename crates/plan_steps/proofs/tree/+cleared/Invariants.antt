use Rattle.plan_steps.proofs.tree.+cleared.Given as goal

abbrev pub decreases-cleared : goal.decreases-cleared
decreases-cleared l = l.bits
