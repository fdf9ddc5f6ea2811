use Rattle.std.proofs.Common.{◌≡◌, false, take}
use Rattle.std.specs.List.{list_any}
use Rattle.mark_judge.specs.Tables.{does_bind}
use Rattle.mark_judge.proofs.bound.one_binds.Given as goal

abbrev pub invariant-loop-l : goal.invariant-loop-l
invariant-loop-l l = list_any (does_bind l.plan l.before) (take l.l-index l.links) ≡ false
