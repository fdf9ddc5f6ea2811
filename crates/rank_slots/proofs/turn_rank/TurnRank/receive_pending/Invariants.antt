use Rattle.std.specs.Prelude.{None}
use Rattle.rank_slots.specs.Onward.{Onward}
use Rattle.rank_slots.proofs.turn_rank.TurnRank.receive_pending.Given as goal

abbrev pub invariant-loop : goal.invariant-loop
invariant-loop g l = Onward None l.initial.self l.self
