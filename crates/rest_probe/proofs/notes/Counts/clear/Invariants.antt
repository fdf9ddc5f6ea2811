use Rattle.std.proofs.Common.{◌≡◌, ◌<◌, ◌≤◌, ℕ, length}
use mathlib.Core.Option.{some}
use lib.ListN.{get_elem?}
use Rattle.rest_probe.specs.declared.notes.LaneCount.{LaneCount}
use Rattle.rest_probe.specs.Counted.{counted}
use Rattle.rest_probe.proofs.notes.Counts.clear.Given as goal

-- those before are cleared, the others are as they were
abbrev pub invariant-loop-at : goal.invariant-loop-at
invariant-loop-at l = record {
  many : length l.self-inside.items.items ≡ length l.initial.self-inside.items.items;
  before : (i : ℕ) (x y : LaneCount) → i < l.at → get_elem? l.initial.self-inside.items.items i ≡ some x →
      get_elem? l.self-inside.items.items i ≡ some y → y ≡ counted x 0;
  later : (i : ℕ) → l.at ≤ i → get_elem? l.self-inside.items.items i ≡ get_elem? l.initial.self-inside.items.items i;
}
