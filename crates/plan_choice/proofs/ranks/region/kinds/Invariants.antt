use Rattle.std.proofs.Common.{◌≡◌, map, take}
use Rattle.plan_choice.specs.ranks.Seats.{kind_of}
use Rattle.plan_choice.proofs.ranks.region.kinds.Given as goal

abbrev pub invariant-loop-i : goal.invariant-loop-i
invariant-loop-i l = l.kinds.items ≡ map kind_of (take l.i l.steps)
