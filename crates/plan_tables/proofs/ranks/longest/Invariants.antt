use Rattle.std.proofs.Common.{◌≡◌, take}
use Rattle.plan_core.specs.calls.Areas.{longest}
use Rattle.plan_tables.proofs.ranks.longest.Given as goal

abbrev pub invariant-loop-l : goal.invariant-loop-l
invariant-loop-l l = l.most ≡ longest l.plan (take l.l-index l.links)
