use Rattle.std.proofs.Common.{Bool}
use Rattle.log_verdict.specs.Filling.{IsNewFiller}
use Rattle.log_top.specs.Turns.{FilledSoFar}
use Rattle.log_top.proofs.filling.fill_all.Given as goal

-- what is left decides what is filled in as a whole
abbrev pub invariant-lines : goal.invariant-lines
invariant-lines g l = (any_order : Bool) → IsNewFiller any_order l.fn.filler
    → FilledSoFar any_order (g.S.Source.inflow l.fn.source) (g.S.Source.inflow l.source) l.reader l.filler
    (g.K.Sink.outflow l.fn.sink) (g.K.Sink.outflow l.sink) l.out
