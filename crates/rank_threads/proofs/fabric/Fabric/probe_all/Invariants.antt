use Rattle.std.proofs.Common.{◌≡◌, ◌<◌, ◌≤◌, ℕ, true, false}
use mathlib.Core.Option.{some}
use lib.ListN.{get_elem?}
use Rattle.rest_probe.specs.declared.notes.RankNote.{RankNote}
use Rattle.rest_probe.specs.Waves.{IsFor}
use Rattle.turn_table.specs.Hands.{IsFree}
use Rattle.rank_threads.proofs.Fronts.{AreNoted}
use Rattle.rank_threads.proofs.fabric.Fabric.probe_all.Given as goal

-- the ranks before have their notes, the others have none
abbrev pub invariant-loop-rank : goal.invariant-loop-rank
invariant-loop-rank g l = record {
  hand : IsFree l.self.turns l.hand;
  parts : l.hand.knows.parts ≡ l.initial.hand.knows.parts;
  lanes : IsFor l.self.job.schedule.plan l.wave;
  there : (r : ℕ) (x : RankNote) → r < l.rank → get_elem? l.wave r ≡ some x → x.there ≡ true;
  noted : AreNoted l.self.job l.hand.knows l.rank l.wave;
  unnoted : (r : ℕ) (x : RankNote) → l.rank ≤ r → get_elem? l.wave r ≡ some x → x.there ≡ false;
}
