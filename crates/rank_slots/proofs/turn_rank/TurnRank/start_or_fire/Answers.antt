use Rattle.std.specs.Prelude.{Some, None}
use Rattle.rank_slots.specs.declared.gate.StartAnswer.TheVariants.{Started, AlreadyStarted}
use Rattle.rank_slots.specs.Onward.{Onward}
use Rattle.rank_slots.proofs.Onwards.{onward-after, onward-begun, onward-sound, onward-wired}
use Rattle.rank_slots.proofs.turn_rank.TurnRank.start_or_fire.Goals as goal

pub returns-in-Started : goal.returns-in-Started
returns-in-Started g c = let e = c.in-Started.ensures in onward-begun c.args.self.now c.start_once.new.self Started e.name e.begun e.handles

pub fire_parked-requires-clause-sound : goal.fire_parked-requires-clause-sound
fire_parked-requires-clause-sound g c = λ _ _. let s = c.start_once.new.self in let e = c.in_default.ensures in
    onward-sound c.args.self.now s (onward-begun c.args.self.now s AlreadyStarted e.name e.begun e.handles) c.requires.sound

pub fire_parked-requires-clause-wired : goal.fire_parked-requires-clause-wired
fire_parked-requires-clause-wired g c = λ _ _. let s = c.start_once.new.self in let e = c.in_default.ensures in
    onward-wired c.args.network.wires.now c.args.self.now s
    (onward-begun c.args.self.now s AlreadyStarted e.name e.begun e.handles) c.requires.wired

pub returns-in-Some : goal.returns-in-Some
returns-in-Some g c = let s = c.start_once.new.self in let e = c.in_default.ensures in
    onward-after (Some c.in-Some.step) c.args.self.now s c.fire_parked.new.self
    (onward-begun c.args.self.now s AlreadyStarted e.name e.begun e.handles) c.in-Some.ensures

pub fire_other-requires-clause-sound : goal.fire_other-requires-clause-sound
fire_other-requires-clause-sound g c = λ _ _. let s = c.start_once.new.self in let e = c.in_default.ensures in
    let f = c.fire_parked.new.self in
    let to : Onward None c.args.self.now f =
    onward-after None c.args.self.now s f
    (onward-begun c.args.self.now s AlreadyStarted e.name e.begun e.handles) c.in_default-fire_parked.ensures in
    onward-sound c.args.self.now f to c.requires.sound

pub fire_other-requires-clause-wired : goal.fire_other-requires-clause-wired
fire_other-requires-clause-wired g c = λ _ _. let s = c.start_once.new.self in let e = c.in_default.ensures in
    let f = c.fire_parked.new.self in
    let to : Onward None c.args.self.now f =
    onward-after None c.args.self.now s f
    (onward-begun c.args.self.now s AlreadyStarted e.name e.begun e.handles) c.in_default-fire_parked.ensures in
    onward-wired c.args.network.wires.now c.args.self.now f to c.requires.wired

pub returns : goal.returns
returns g c = let s = c.start_once.new.self in let e = c.in_default.ensures in let f = c.fire_parked.new.self in
    let to : Onward None c.args.self.now f =
    onward-after None c.args.self.now s f
    (onward-begun c.args.self.now s AlreadyStarted e.name e.begun e.handles) c.in_default-fire_parked.ensures in
    onward-after c.fire_other.result c.args.self.now f c.fire_other.new.self to c.fire_other.ensures
