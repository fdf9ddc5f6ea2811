use Rattle.std.proofs.Common.{Option, subst}
use Rattle.log_verdict.specs.declared.judge.Taken.{Taken}
use Rattle.log_top.specs.Turns.{ServeTurn}
use Rattle.log_top.specs.Turns.ServedOne.{Turned}
use Rattle.log_top.proofs.serving.serve_turn.Goals as goal

pub returns-in-Ok-Some-clause-served : goal.returns-in-Ok-Some-clause-served
returns-in-Ok-Some-clause-served g c =
    let source = g.S.Source.inflow c.args.source.now in
    let later = g.S.Source.inflow c.serve_next.new.source in
    let k = c.serve_next.new.judge in
    let q = c.serve_next.new.reader in
    Turned c.in-Ok-Some.taken
    (subst (λ (o : Option Taken). ServeTurn c.args.judge.now c.args.reader.now source k q later o)
    c.in-Ok-Some.field-0-is c.in-Ok-Some.ensures.turn)
    c.answer.ensures.answers
