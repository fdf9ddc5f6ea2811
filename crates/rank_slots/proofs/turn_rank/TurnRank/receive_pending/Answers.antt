use Rattle.std.specs.Prelude.{Some, None}
use Rattle.rank_slots.proofs.Onwards.{onward-after, onward-sound, onward-still, onward-wired}
use Rattle.rank_slots.proofs.turn_rank.TurnRank.receive_pending.Goals as goal

pub loop-init : goal.loop-init
loop-init g c = onward-still c.args.self.now

pub receive_of-requires-clause-sound : goal.receive_of-requires-clause-sound
receive_of-requires-clause-sound g c = λ _ _. onward-sound c.args.self.now c.loop.self c.loop.invariant c.requires.sound

pub receive_of-requires-clause-wired : goal.receive_of-requires-clause-wired
receive_of-requires-clause-wired g c = λ _ _. onward-wired c.args.network.wires.now c.args.self.now c.loop.self c.loop.invariant
    c.requires.wired

pub loop-preserved : goal.loop-preserved
loop-preserved g c = onward-after None c.args.self.now c.loop.self c.receive_of.new.self c.loop.invariant c.in_default-receive_of.ensures

pub returns-in-Some-receive_of : goal.returns-in-Some-receive_of
returns-in-Some-receive_of g c =
    onward-after (Some c.in-Some-receive_of.step) c.args.self.now c.loop.self c.receive_of.new.self c.loop.invariant
    c.in-Some-receive_of.ensures
