use Rattle.std.proofs.Common.{◌≡◌, ◌<◌, ℕ}
use mathlib.Core.Option.{some}
use lib.ListN.{get_elem?}
use Rattle.rank_slots.specs.declared.ports.InPort.{InPort}
use Rattle.rank_slots.proofs.posts.search_ins.Given as goal

-- none of those before is of the lane
abbrev pub invariant-loop-at : goal.invariant-loop-at
invariant-loop-at l = (i : ℕ) (p : InPort) → i < l.at → get_elem? l.ins i ≡ some p → p.source ≡ l.source → p.lane ≡ l.lane → ⊥
