use Rattle.rank_slots.proofs.Onwards.{onward-fired}
use Rattle.rank_slots.proofs.turn_rank.TurnRank.fire_open.Goals as goal

pub returns : goal.returns
returns g c = onward-fired c.args.self.now c.fire.new.self c.args.number c.fire.ensures.name c.fire.ensures.grew c.fire.ensures.handles
