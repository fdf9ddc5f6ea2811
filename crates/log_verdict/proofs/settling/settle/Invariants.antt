use Rattle.log_verdict.specs.Settling.{Reaches}
use Rattle.log_verdict.proofs.settling.settle.Given as goal

-- such moves led there
abbrev pub invariant-moves : goal.invariant-moves
invariant-moves l = Reaches l.fn.scene l.scene
