use Rattle.std.proofs.Common.{◌++◌, ◌+◌, ◌∙◌, length, vec_len, refl, arith}
use Rattle.std.proofs.lemmas.Result.{err_from_is_err_and}
use Rattle.run_text.proofs.Taking.{Takes-piece, Fails-piece, left_over}
use Rattle.run_text.proofs.pieces.Pieces.put_long.Goals as goal

pub returns-in_err-write_piece-clause-puts : goal.returns-in_err-write_piece-clause-puts
returns-in_err-write_piece-clause-puts g c =
    let end = err_from_is_err_and c.from_residual.result c.from_residual.ensures.1 in
    let held = c.loop-rest.self-inside.held.items in
    rw end.1 (Fails-piece (g.K.Sink.outflow c.args.sink.now) (g.K.Sink.outflow c.loop-rest.sink) (g.K.Sink.outflow c.write_piece.new.sink)
    (c.args.self.now ++ c.args.list.now) held c.loop-rest.rest.now c.split_at.result.0.now c.split_at.result.1.now
    (held ++ c.split_at.result.0.now) c.loop-rest.invariant.taken refl c.split_at.ensures.by_index.0 c.in_err-write_piece.ensures.written)

pub loop-rest-preserved : goal.loop-rest-preserved
loop-rest-preserved g c =
    let held = c.loop-rest.self-inside.held.items in
    record {
      taken = rw c.write_piece.ensures.nothing (Takes-piece (g.K.Sink.outflow c.args.sink.now) (g.K.Sink.outflow c.loop-rest.sink)
          (g.K.Sink.outflow c.write_piece.new.sink)
          (c.args.self.now ++ c.args.list.now) held c.loop-rest.rest.now c.split_at.result.0.now c.split_at.result.1.now
          (held ++ c.split_at.result.0.now) c.loop-rest.invariant.taken refl c.split_at.ensures.by_index.0
          c.in_ok-write_piece.ensures.written);
      short = omega arith;
      length_so_far = left_over (vec_len c.write_piece.new.held + length c.split_at.result.1.now)
          (vec_len c.loop-rest.self-inside.held + length c.loop-rest.rest.now) (omega arith) ∙ c.loop-rest.invariant.length_so_far;
      room = omega arith;
    }
