use Rattle.std.proofs.Common.{subst}
use Rattle.log_top.specs.Reading.{Reads}
use Rattle.log_top.specs.declared.reading.Read.{Read}
use Rattle.log_top.proofs.LinesRead.{skipped_none, skipped_on, skips_all, skips_line}
use Rattle.log_top.proofs.reading.LineReader.skip.Goals as goal

pub parts-init : goal.parts-init
parts-init g c = skipped_none _ _

pub returns-in-Line-clause-skips : goal.returns-in-Line-clause-skips
returns-in-Line-clause-skips g c =
    let now = g.S.Source.inflow c.parts.source in
    let later = g.S.Source.inflow c.next.new.source in
    skips_line _ _ c.parts.self now c.parts.invariant c.next.new.self later
    (subst (λ (r : Read). Reads c.parts.self now c.next.new.self later r) c.in-Line.is c.in_ok-read.ensures.reads)

pub returns-in-Last-clause-skips : goal.returns-in-Last-clause-skips
returns-in-Last-clause-skips g c =
    let now = g.S.Source.inflow c.parts.source in
    let later = g.S.Source.inflow c.next.new.source in
    skips_all _ _ c.parts.self now c.parts.invariant c.next.new.self later
    (subst (λ (r : Read). Reads c.parts.self now c.next.new.self later r) c.in-Last.is c.in_ok-read.ensures.reads)

pub parts-preserved : goal.parts-preserved
parts-preserved g c =
    let now = g.S.Source.inflow c.parts.source in
    let later = g.S.Source.inflow c.next.new.source in
    skipped_on _ _ c.parts.self now c.parts.invariant c.next.new.self later
    (subst (λ (r : Read). Reads c.parts.self now c.next.new.self later r) c.in-Long.is c.in_ok-read.ensures.reads)
