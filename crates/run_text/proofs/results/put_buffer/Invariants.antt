use Rattle.std.proofs.Common.{◌++◌, ◌-◌}
use Rattle.run_text.specs.Putting.{Takes}
use Rattle.run_text.proofs.Spaced.{lines_from}
use Rattle.run_text.proofs.results.put_buffer.Given as goal

abbrev pub invariant-loop-rank : goal.invariant-loop-rank
invariant-loop-rank g l =
    let o = g.H.ResultLists.outline l.held in
    let lists = g.H.ResultLists.lists l.held in
    Takes (g.K.Sink.outflow l.fn.sink) (g.K.Sink.outflow l.sink) (l.fn.out ++ lines_from o lists l.buffer 0 o.ranks)
    (l.out ++ lines_from o lists l.buffer l.rank (o.ranks - l.rank))
