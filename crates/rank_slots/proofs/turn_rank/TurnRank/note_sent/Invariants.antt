use Rattle.std.proofs.Common.{◌≡◌}
use mathlib.Core.Option.{some}
use lib.ListN.{get_elem?}
use Rattle.rest_probe.specs.declared.notes.RankNote.{RankNote}
use Rattle.rest_probe.specs.Waves.{with_sent}
use Rattle.rank_slots.specs.Probes.{HasSentOn}
use Rattle.rank_slots.proofs.Counting.{Sofar}
use Rattle.rank_slots.proofs.turn_rank.TurnRank.note_sent.Given as goal

abbrev pub invariant-loop-i : goal.invariant-loop-i
invariant-loop-i l = (x : RankNote) → get_elem? l.initial.wave l.rank ≡ some x → Sofar with_sent (HasSentOn l.self) x.note.sent l.i l.rank
    x l.initial.wave l.wave
