use Rattle.std.proofs.Common.{◌-◌}
use Rattle.portals_ni.proofs.Walks.{NoneBelow, uses_ct}
use Rattle.portals_ni.proofs.triggers.some_names_ct.Given as goal

abbrev pub invariant-loop-number : goal.invariant-loop-number
invariant-loop-number l = NoneBelow (uses_ct l.ct) l.from l.pending.waiting

abbrev pub decreases-loop-number : goal.decreases-loop-number
decreases-loop-number l = l.pending.given - l.from
