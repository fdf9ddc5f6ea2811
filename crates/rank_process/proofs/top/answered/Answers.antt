-- By how its parts ended.
use Rattle.std.proofs.Common.{◌≡◌, ◌∙◌, eqb-true, length, sym}
use Rattle.rank_process.proofs.Doing.{first-does, open-does, run-asked, run-does}
use Rattle.rank_process.proofs.top.answered.Goals as goal

pub returns-in-Err-clause-does : goal.returns-in-Err-clause-does
returns-in-Err-clause-does g c =
    first-does c.in-Err.status c.refuse.result (g.S.Source.inflow c.args.source.now) (g.S.Source.inflow c.read_first.new.source)
    (g.K.Sink.outflow c.args.sink.now) (g.K.Sink.outflow c.refuse.new.sink) c.in-Err.ensures.fails c.refuse.ensures

pub returns-in-Ok-open-clause-does : goal.returns-in-Ok-open-clause-does
returns-in-Ok-open-clause-does g c =
    let text = c.in-Ok.first.text.items in
    let r = c.in-Ok.first.rank in
    let opens = c.in-Ok-open.ensures.opens in
    run-does text opens.0 r c.run.result (g.S.Source.inflow c.args.source.now) (g.S.Source.inflow c.read_first.new.source)
    (g.S.Source.inflow c.run.new.source) (g.K.Sink.outflow c.args.sink.now) (g.K.Sink.outflow c.run.new.sink) c.in-Ok.ensures.front
    c.read_first.ensures.faults opens.1 (c.run.ensures opens.0 r opens.2)

pub returns-in-Err-open-clause-does : goal.returns-in-Err-open-clause-does
returns-in-Err-open-clause-does g c =
    open-does c.in-Ok.first.text.items c.in-Ok.first.rank c.in-Err-open.status c.refuse-in-Err-open.result
    (g.S.Source.inflow c.args.source.now) (g.S.Source.inflow c.read_first.new.source) (g.K.Sink.outflow c.args.sink.now)
    (g.K.Sink.outflow c.refuse-in-Err-open.new.sink) c.in-Ok.ensures.front c.read_first.ensures.faults c.in-Err-open.ensures.fails
    c.refuse-in-Err-open.ensures

pub returns-in-Ok-open-clause-asked : goal.returns-in-Ok-open-clause-asked
returns-in-Ok-open-clause-asked g c =
    let none : length c.args.words.now ≡ 0 = eqb-true (length c.args.words.now) 0 (sym c.is_empty.ensures ∙ c.if-not-is_empty.false) in
    let opens = c.in-Ok-open.ensures.opens in
    run-asked opens.0 c.in-Ok.first.rank c.run.result (g.S.Source.inflow c.read_first.new.source) (g.S.Source.inflow c.run.new.source)
    (g.K.Sink.outflow c.args.sink.now) (g.K.Sink.outflow c.run.new.sink) (length c.args.words.now) none
    (c.run.ensures opens.0 c.in-Ok.first.rank opens.2)
