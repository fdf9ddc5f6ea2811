use Rattle.rank_frames.specs.Frames.{mark}
use Rattle.rank_frames.proofs.Clear.{marked}
use Rattle.rank_frames.proofs.Steps.{start-goes, then-all}
use Rattle.rank_frames.proofs.taking.start.Goals as goal

pub start-requires : goal.start-requires
start-requires g c = (marked c.args.place.now 0 c.requires).1

pub returns-clause-went : goal.returns-clause-went
returns-clause-went g c =
    then-all c.args.place.now c.start.new.self c.fire_all.new.place (g.K.Sink.outflow c.args.sink.now)
    (g.K.Sink.outflow c.args.sink.now) (g.K.Sink.outflow c.fire_all.new.sink) mark c.fire_all.result
    (start-goes c.args.place.now c.start.new.self (g.K.Sink.outflow c.args.sink.now) c.start.ensures.node
    c.start.ensures.me c.start.ensures.due) c.fire_all.ensures.went
