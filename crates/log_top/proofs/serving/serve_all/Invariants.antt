use Rattle.std.proofs.Common.{◌≡◌, Bool, true, []}
use Rattle.log_verdict.specs.Judging.{IsNew}
use Rattle.log_top.specs.Turns.{ServedSoFar}
use Rattle.log_top.proofs.serving.serve_all.Given as goal

-- all lines so far were answered, and no answer is held back
abbrev pub invariant-lines : goal.invariant-lines
invariant-lines g l = record {
  nothing : l.out ≡ [];
  served : (any_order : Bool) → IsNew true any_order l.fn.judge
      → ServedSoFar any_order (g.S.Source.inflow l.fn.source) (g.S.Source.inflow l.source) l.reader l.judge
      (g.K.Sink.outflow l.fn.sink) (g.K.Sink.outflow l.sink);
}
