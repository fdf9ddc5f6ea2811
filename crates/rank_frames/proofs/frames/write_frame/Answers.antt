use Rattle.std.proofs.Common.{List, ℕ, [], length, subst}
use Rattle.run_text.specs.Putting.{FailsWithin, Takes}
use Rattle.run_text.proofs.Taking.{Puts-exit, Puts-then}
use Rattle.rank_frames.specs.Frames.{head}
use Rattle.rank_frames.proofs.frames.write_frame.Goals as goal

pub returns-in_err-write_whole : goal.returns-in_err-write_whole
returns-in_err-write_whole g c =
    let bytes = c.args.bytes.now in
    let a = g.K.Sink.outflow c.args.sink.now in
    let b = g.K.Sink.outflow c.write_whole.new.sink in
    Puts-exit a b [] [] (head c.args.rank (length bytes)) bytes c.from_residual.result c.from_residual.ensures.0
    (subst (λ (l : List ℕ). FailsWithin a b l) c.head.ensures c.in_err-write_whole.ensures)

pub returns : goal.returns
returns g c =
    let bytes = c.args.bytes.now in
    let a = g.K.Sink.outflow c.args.sink.now in
    let b = g.K.Sink.outflow c.write_whole.new.sink in
    Puts-then a b (g.K.Sink.outflow c.write_whole-2.new.sink) [] [] [] (head c.args.rank (length bytes)) bytes c.write_whole-2.result
    (subst (λ (l : List ℕ). Takes a b l []) c.head.ensures c.in_ok-write_whole.ensures) c.write_whole-2.ensures
