use Rattle.std.proofs.Common.{◌≡◌, ◌+◌, ◌%◌, ◌^◌, length}
use Rattle.std.specs.Prelude.{sum}
use Rattle.ptl_types.specs.Operations.{bytes_of}
use Rattle.coll_text.specs.Elements.{elements}
use Rattle.run_text.proofs.summary.list_sum.Given as goal

abbrev pub invariant-loop-rest : goal.invariant-loop-rest
invariant-loop-rest l = record {
  left : (l.total + sum (elements l.fn.ty l.rest)) % 2 ^ 64 ≡ sum (elements l.fn.ty l.fn.bytes) % 2 ^ 64;
  is_size : l.size ≡ bytes_of l.fn.ty;
}

abbrev pub decreases-loop-rest : goal.decreases-loop-rest
decreases-loop-rest l = length l.rest
