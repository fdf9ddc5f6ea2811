use Rattle.std.specs.Prelude.{Some, None}
use Rattle.rank_slots.proofs.Onwards.{onward-after, onward-sound, onward-wired}
use Rattle.rank_slots.proofs.turn_rank.TurnRank.advance.Goals as goal

pub start_or_fire-requires-clause-sound : goal.start_or_fire-requires-clause-sound
start_or_fire-requires-clause-sound g c = λ _ _. onward-sound c.args.self.now c.flush_waiting.new.self c.flush_waiting.ensures
    c.requires.sound

pub start_or_fire-requires-clause-wired : goal.start_or_fire-requires-clause-wired
start_or_fire-requires-clause-wired g c = λ _ _. onward-wired c.args.network.wires.now c.args.self.now c.flush_waiting.new.self
    c.flush_waiting.ensures c.requires.wired

pub returns-in-Some : goal.returns-in-Some
returns-in-Some g c =
    onward-after (Some c.in-Some.step) c.args.self.now c.flush_waiting.new.self c.start_or_fire.new.self c.flush_waiting.ensures
    c.in-Some.ensures

pub receive_pending-requires-clause-sound : goal.receive_pending-requires-clause-sound
receive_pending-requires-clause-sound g c = λ _ _.
    onward-sound c.args.self.now c.start_or_fire.new.self
    (onward-after None c.args.self.now c.flush_waiting.new.self c.start_or_fire.new.self c.flush_waiting.ensures c.in_default.ensures)
    c.requires.sound

pub receive_pending-requires-clause-wired : goal.receive_pending-requires-clause-wired
receive_pending-requires-clause-wired g c = λ _ _.
    onward-wired c.args.network.wires.now c.args.self.now c.start_or_fire.new.self
    (onward-after None c.args.self.now c.flush_waiting.new.self c.start_or_fire.new.self c.flush_waiting.ensures c.in_default.ensures)
    c.requires.wired

pub returns : goal.returns
returns g c = onward-after c.receive_pending.result c.args.self.now c.start_or_fire.new.self c.receive_pending.new.self
    (onward-after None c.args.self.now c.flush_waiting.new.self c.start_or_fire.new.self c.flush_waiting.ensures c.in_default.ensures)
    c.receive_pending.ensures
