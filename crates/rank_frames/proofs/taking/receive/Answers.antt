use Rattle.rank_frames.proofs.Steps.{receive-goes}
use Rattle.rank_frames.proofs.taking.receive.Goals as goal

pub returns-clause-went : goal.returns-clause-went
returns-clause-went g c =
    receive-goes c.args.place.now c.receive-answer.new.self c.args.source c.args.message c.receive-answer.result c.send_any.result
    (g.K.Sink.outflow c.args.sink.now) (g.K.Sink.outflow c.send_any.new.sink) c.requires c.receive-answer.ensures.step
    c.receive-answer.ensures.answer c.send_any.ensures

pub returns-clause-fewer : goal.returns-clause-fewer
returns-clause-fewer g c = c.receive-answer.ensures.fewer
