use Rattle.log_top.specs.Reading.{SkippedSoFar}
use Rattle.log_top.proofs.reading.LineReader.skip.Given as goal

-- so far it was passed over
abbrev pub invariant-parts : goal.invariant-parts
invariant-parts g l = SkippedSoFar l.fn.self (g.S.Source.inflow l.fn.source) l.self (g.S.Source.inflow l.source)
