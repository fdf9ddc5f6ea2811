use Rattle.std.proofs.Common.{length}
use Rattle.run_text.specs.Putting.{Takes}
use Rattle.rank_frames.proofs.frames.write_whole.Given as goal

abbrev pub invariant-loop-rest : goal.invariant-loop-rest
invariant-loop-rest g l = Takes (g.K.Sink.outflow l.fn.sink) (g.K.Sink.outflow l.sink) l.piece l.rest

abbrev pub decreases-loop-rest : goal.decreases-loop-rest
decreases-loop-rest g l = length l.rest
