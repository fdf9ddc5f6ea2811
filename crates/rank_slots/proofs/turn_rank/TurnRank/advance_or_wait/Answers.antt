use Rattle.rank_slots.proofs.Onwards.{onward-after, onward-sound, onward-wired}
use Rattle.rank_slots.proofs.turn_rank.TurnRank.advance_or_wait.Goals as goal

pub advance-requires-2-clause-sound : goal.advance-requires-2-clause-sound
advance-requires-2-clause-sound g c = λ _ _. onward-sound c.args.self.now c.advance.new.self c.in_default.ensures c.requires.sound

pub advance-requires-2-clause-wired : goal.advance-requires-2-clause-wired
advance-requires-2-clause-wired g c =
    λ _ _. onward-wired c.args.network.wires.now c.args.self.now c.advance.new.self c.in_default.ensures c.requires.wired

pub returns : goal.returns
returns g c =
    onward-after c.advance-2.result c.args.self.now c.advance.new.self c.advance-2.new.self c.in_default.ensures c.advance-2.ensures
