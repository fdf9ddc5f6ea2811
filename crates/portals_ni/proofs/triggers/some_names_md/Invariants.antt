use Rattle.std.proofs.Common.{◌-◌}
use Rattle.portals_ni.proofs.Walks.{NoneBelow, uses_md}
use Rattle.portals_ni.proofs.triggers.some_names_md.Given as goal

abbrev pub invariant-loop-number : goal.invariant-loop-number
invariant-loop-number l = NoneBelow (uses_md l.md) l.from l.pending.waiting

abbrev pub decreases-loop-number : goal.decreases-loop-number
decreases-loop-number l = l.pending.given - l.from
