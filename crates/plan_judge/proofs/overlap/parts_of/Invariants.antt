use Rattle.std.proofs.Common.{◌≡◌, take}
use Rattle.plan_judge.specs.Causes.{put_parts}
use Rattle.plan_judge.proofs.overlap.parts_of.Given as goal

abbrev pub invariant-loop-l : goal.invariant-loop-l
invariant-loop-l l = l.parts.items ≡ put_parts l.plan (take l.l-index l.links)
