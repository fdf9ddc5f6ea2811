use Rattle.std.proofs.Common.{◌≡◌, ◌++◌, length}
use Rattle.ptl_types.specs.Operations.{bytes_of}
use Rattle.run_text.specs.Putting.{Takes}
use Rattle.run_text.proofs.Spaced.{spaced}
use Rattle.run_text.proofs.values.put_values.Given as goal

abbrev pub invariant-loop-rest : goal.invariant-loop-rest
invariant-loop-rest g l = record {
  taken : Takes (g.K.Sink.outflow l.fn.sink) (g.K.Sink.outflow l.sink) (l.fn.out ++ spaced l.fn.ty l.fn.bytes)
      (l.out ++ spaced l.fn.ty l.rest);
  is_size : l.size ≡ bytes_of l.fn.ty;
}

abbrev pub decreases-loop-rest : goal.decreases-loop-rest
decreases-loop-rest g l = length l.rest
