use Rattle.std.proofs.Common.{◌≡◌, ◌+◌, ◌%◌, ◌++◌, ◌<◌, ◌≤◌, length, vec_len, vec_capacity}
use Rattle.run_text.specs.Putting.{Takes}
use Rattle.run_text.proofs.pieces.Pieces.put_long.Given as goal
use Rattle.run_text.specs.declared.pieces.TheConstants.{PIECE}

abbrev pub invariant-loop-rest : goal.invariant-loop-rest
invariant-loop-rest g l = record {
  taken : Takes (g.K.Sink.outflow l.fn.sink) (g.K.Sink.outflow l.sink) (l.fn.self ++ l.list) (l.self-inside.held.items ++ l.rest);
  short : vec_len l.self-inside.held < PIECE;
  length_so_far : (vec_len l.self-inside.held + length l.rest) % PIECE ≡ (length l.fn.self + length l.list) % PIECE;
  room : PIECE ≤ vec_capacity l.self-inside.held;
}

abbrev pub decreases-loop-rest : goal.decreases-loop-rest
decreases-loop-rest g l = length l.rest
