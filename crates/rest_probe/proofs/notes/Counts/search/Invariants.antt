use Rattle.std.proofs.Common.{◌≡◌, ◌<◌, ℕ}
use mathlib.Core.Option.{some}
use lib.ListN.{get_elem?}
use Rattle.rest_probe.specs.declared.notes.LaneCount.{LaneCount}
use Rattle.rest_probe.proofs.notes.Counts.search.Given as goal

-- none of those before is of the lane
abbrev pub invariant-loop-at : goal.invariant-loop-at
invariant-loop-at l = (i : ℕ) (c : LaneCount) → i < l.at → get_elem? l.self i ≡ some c → c.rank ≡ l.rank → c.lane ≡ l.lane → ⊥
