use Rattle.plan_judge.proofs.Overlaps.{FollowUpTo}
use Rattle.plan_judge.proofs.overlap.neighbours_overlap.Given as goal

abbrev pub invariant-loop-place : goal.invariant-loop-place
invariant-loop-place l = FollowUpTo l.parts l.place
