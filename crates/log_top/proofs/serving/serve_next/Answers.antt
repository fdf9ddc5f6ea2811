use Rattle.std.proofs.Common.{ℕ, Bool, List, subst}
use Rattle.log_verdict.specs.Judging.{LineTook, next_line, took}
use Rattle.log_top.specs.Reading.{Reads, Skips}
use Rattle.log_top.specs.declared.reading.Read.{Read}
use Rattle.log_top.proofs.LinesServed.{serves_long, serves_rest}
use Rattle.log_top.proofs.serving.serve_next.Goals as goal

pub returns-then-ended-clause-turn : goal.returns-then-ended-clause-turn
returns-then-ended-clause-turn g c =
    let j = c.args.judge.now in
    let k = c.take-in-Long.new.judge in
    let t = c.in_ok-taken-in-Long.taken in
    let source = g.S.Source.inflow c.args.source.now in
    let later = g.S.Source.inflow c.next.new.source in
    let last = g.S.Source.inflow c.skip.new.source in
    serves_long j c.args.reader.now source c.next.new.self later
    (subst (λ (r : Read). Reads c.args.reader.now source c.next.new.self later r) c.in-Long.is c.in_ok-read.ensures.reads)
    c.skip.new.self last
    k t (subst (λ (b : Bool). Skips c.next.new.self later c.skip.new.self last b) c.if-ended.true c.in_ok-ended-in-Long.ensures.skips)
    (subst (λ (x : List ℕ). LineTook (next_line j) x (took k t)) c.line-in-Long.ensures c.in_ok-taken-in-Long.ensures.took)
    c.in_ok-taken-in-Long.ensures.stays

pub returns-else-ended-clause-turn : goal.returns-else-ended-clause-turn
returns-else-ended-clause-turn g c =
    let source = g.S.Source.inflow c.args.source.now in
    let later = g.S.Source.inflow c.next.new.source in
    let last = g.S.Source.inflow c.skip.new.source in
    serves_rest c.args.judge.now c.args.reader.now source c.next.new.self later
    (subst (λ (r : Read). Reads c.args.reader.now source c.next.new.self later r) c.in-Long.is c.in_ok-read.ensures.reads)
    c.skip.new.self last
    c.take-in-Long.new.judge
    (subst (λ (b : Bool). Skips c.next.new.self later c.skip.new.self last b) c.if-ended.false c.in_ok-ended-in-Long.ensures.skips)
