use Rattle.std.proofs.Common.{◌≡◌, ◌<◌, ℕ}
use mathlib.Core.Option.{some}
use lib.ListN.{get_elem?}
use Rattle.rank_slots.specs.declared.ports.OutPort.{OutPort}
use Rattle.rank_slots.proofs.posts.search_outs.Given as goal

-- none of those before is of the lane
abbrev pub invariant-loop-at : goal.invariant-loop-at
invariant-loop-at l = (i : ℕ) (p : OutPort) → i < l.at → get_elem? l.outs i ≡ some p → p.target ≡ l.target → p.lane ≡ l.lane → ⊥
