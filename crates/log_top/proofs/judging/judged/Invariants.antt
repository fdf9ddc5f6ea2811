use Rattle.log_top.specs.Turns.{JudgedSoFar}
use Rattle.log_top.proofs.judging.judged.Given as goal

-- what is left decides the verdict on the whole
abbrev pub invariant-lines : goal.invariant-lines
invariant-lines g l = JudgedSoFar l.any_order (g.S.Source.inflow l.fn.source) (g.S.Source.inflow l.source) l.reader l.judge
