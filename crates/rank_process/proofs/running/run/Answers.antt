-- It stopped on its way, or came to its end.
use Rattle.std.proofs.Common.{subst, sym}
use Rattle.rank_process.specs.Runs.{RunsAs}
use Rattle.rank_process.proofs.Ending.{closes-as, stops-as}
use Rattle.rank_process.proofs.running.run.Goals as goal

pub returns-in-Ok-taken : goal.returns-in-Ok-taken
returns-in-Ok-taken g c = λ w r o.
    closes-as w r c.args.opened o c.take_frames-taken.new.place c.recall_place.ensures.node c.close.result
    (g.S.Source.inflow c.args.source.now) (g.S.Source.inflow c.take_frames-taken.new.source) (g.K.Sink.outflow c.args.sink.now)
    (g.K.Sink.outflow c.take_frames-taken.new.sink) (g.K.Sink.outflow c.close.new.sink)
    c.recall_place.ensures.listed c.in-Ok-taken.ensures.went c.in-Ok-taken.ensures.over c.close.ensures

pub returns : goal.returns
returns g c = λ w r o.
    let u = g.S.Source.inflow c.args.source.now in
    let v = g.S.Source.inflow c.take_frames-taken.new.source in
    let a = g.K.Sink.outflow c.args.sink.now in
    let b = g.K.Sink.outflow c.take_frames-taken.new.sink in
    subst (λ s. RunsAs w r s u v a b) (sym c.status_of.ensures)
    (stops-as w r c.args.opened o c.take_frames-taken.new.place c.recall_place.ensures.node c.in-Err.stop u v a b c.in-Err.ensures.went)
