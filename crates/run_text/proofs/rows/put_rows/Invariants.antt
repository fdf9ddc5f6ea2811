use Rattle.std.proofs.Common.{◌++◌, ◌-◌}
use Rattle.run_text.specs.Putting.{Takes}
use Rattle.run_text.proofs.Wording.{rows_from}
use Rattle.run_text.proofs.rows.put_rows.Given as goal

abbrev pub invariant-loop-number : goal.invariant-loop-number
invariant-loop-number g l =
    let rows = rows_from (g.R.Rows.line l.rows) in
    Takes (g.K.Sink.outflow l.fn.sink) (g.K.Sink.outflow l.sink) (l.fn.out ++ rows 0 l.n) (l.out ++ rows l.number (l.n - l.number))
