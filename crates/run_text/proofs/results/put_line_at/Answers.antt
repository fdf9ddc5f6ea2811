use Rattle.std.proofs.Common.{subst}
use Rattle.run_text.specs.Putting.{Puts}
use Rattle.run_text.proofs.Spaced.{line-is}
use Rattle.run_text.proofs.results.put_line_at.Goals as goal

pub returns : goal.returns
returns g c =
    let o = g.H.ResultLists.outline c.args.held.now in
    let lists = g.H.ResultLists.lists c.args.held.now in
    let line = line-is o lists c.args.buffer c.args.rank c.index-buffers-buffer.result c.buffers.result.now c.as_slice-2.result.now
    c.list-list.result.now c.requires.buffer (rw c.shape.ensures at c.buffers.ensures.value) c.index-buffers-buffer.is
    c.as_slice-2.ensures.value
    c.list-list.ensures in
    subst (λ xs. Puts (g.K.Sink.outflow c.args.sink.now) (g.K.Sink.outflow c.result_line.new.sink) c.args.out.now c.result_line.new.out xs
    c.result_line.result) line c.result_line.ensures
