use Rattle.std.proofs.Common.{◌++◌, drop}
use Rattle.std.specs.List.{flat_map}
use Rattle.run_text.specs.Putting.{Takes}
use Rattle.run_text.proofs.rows.put_listed.Given as goal

abbrev pub invariant-loop-number : goal.invariant-loop-number
invariant-loop-number g l =
    let rows = flat_map (g.R.Rows.line l.rows) in
    Takes (g.K.Sink.outflow l.fn.sink) (g.K.Sink.outflow l.sink) (l.fn.out ++ rows l.numbers)
    (l.out ++ rows (drop l.number-index l.numbers))
