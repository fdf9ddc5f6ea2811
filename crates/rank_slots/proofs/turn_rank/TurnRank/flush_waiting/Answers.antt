use Rattle.rank_slots.proofs.Onwards.{onward-flushed}
use Rattle.rank_slots.proofs.turn_rank.TurnRank.flush_waiting.Goals as goal

pub returns : goal.returns
returns g c = onward-flushed c.args.self.now c.flush.new.self c.flush.ensures.name c.flush.ensures.flushed
