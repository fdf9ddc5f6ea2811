use Rattle.std.proofs.Common.{[]}
use Rattle.message_codec.specs.Encoding.{encoding}
use Rattle.rank_frames.specs.Frames.{frame}
use Rattle.rank_frames.proofs.Gone.{all-fewer}
use Rattle.rank_frames.proofs.Steps.{then-all}
use Rattle.rank_frames.proofs.taking.follow.Goals as goal

pub returns-clause-went : goal.returns-clause-went
returns-clause-went g c =
    then-all c.args.place.now c.receive.new.place c.fire_all.new.place (g.K.Sink.outflow c.args.sink.now)
    (g.K.Sink.outflow c.receive.new.sink) (g.K.Sink.outflow c.fire_all.new.sink) (frame c.args.source (encoding c.args.message))
    c.fire_all.result c.in_ok-receive.ensures.went c.fire_all.ensures.went

pub returns-clause-fewer : goal.returns-clause-fewer
returns-clause-fewer g c =
    let went = c.in_ok-receive.ensures.went in
    all-fewer c.fire_all.result c.args.place.now c.receive.new.place c.fire_all.new.place (g.K.Sink.outflow c.receive.new.sink)
    (g.K.Sink.outflow c.fire_all.new.sink) [] went.steps went.messages went.gone c.in_ok-receive.ensures.fewer c.fire_all.ensures.went
    c.fire_all.ensures.due
