use Rattle.std.proofs.Common.{◌≡◌, ℕ, length}
use mathlib.Core.Option.{some}
use lib.ListN.{get_elem?}
use Rattle.rest_probe.specs.declared.notes.RankNote.{RankNote}
use Rattle.rest_probe.specs.Waves.{IsRoomFor}
use Rattle.rest_probe.proofs.waves.Wave.open.Given as goal

abbrev pub invariant-loop-r : goal.invariant-loop-r
invariant-loop-r l = record {
  count : length l.notes.items ≡ l.r;
  each : (r : ℕ) (x : RankNote) → get_elem? l.notes.items r ≡ some x → IsRoomFor l.schedule.plan r x;
}
