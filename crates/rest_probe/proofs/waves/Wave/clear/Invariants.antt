use Rattle.std.proofs.Common.{◌≡◌, ◌<◌, ◌≤◌, ℕ, false, length}
use mathlib.Core.Option.{some}
use lib.ListN.{get_elem?}
use Rattle.rest_probe.specs.declared.notes.RankNote.{RankNote}
use Rattle.rest_probe.proofs.waves.Wave.clear.Given as goal

-- those before have no note, the others are as they were
abbrev pub invariant-loop-r : goal.invariant-loop-r
invariant-loop-r l = record {
  many : length l.self-inside.ranks.items ≡ length l.initial.self-inside.ranks.items;
  before : (i : ℕ) (x y : RankNote) → i < l.r → get_elem? l.initial.self-inside.ranks.items i ≡ some x →
      get_elem? l.self-inside.ranks.items i ≡ some y → y ≡ record x { there = false };
  later : (i : ℕ) → l.r ≤ i → get_elem? l.self-inside.ranks.items i ≡ get_elem? l.initial.self-inside.ranks.items i;
}
