use Rattle.std.proofs.Common.{◌+◌, ◌-◌, ◌++◌, subst, arith}
use Rattle.run_text.specs.Putting.{Takes}
use Rattle.run_text.proofs.Taking.{Takes-next, Fails-next, Puts-stops}
use Rattle.run_text.proofs.Wording.{rows_from, rows_from-next}
use Rattle.run_text.proofs.rows.put_rows.Goals as goal

pub returns-in_err-put : goal.returns-in_err-put
returns-in_err-put g c =
    let f = g.R.Rows.line c.args.rows.now in
    let n = c.args.n in
    let i = c.loop-number.number in
    let old = g.K.Sink.outflow c.args.sink.now in
    let before = g.K.Sink.outflow c.loop-number.sink in
    let new = g.K.Sink.outflow c.put.new.sink in
    let rows = rows_from f in
    let text = c.args.out.now ++ rows 0 n in
    let next = rows_from-next f i n (omega arith) in
    Puts-stops old new c.args.out.now c.put.new.out (rows 0 n) _ c.from_residual.ensures.0
    (Fails-next old before new text c.loop-number.out (f i) (rows (i + 1) (n - (i + 1)))
    (subst (λ rest. Takes old before text (c.loop-number.out ++ rest)) next c.loop-number.invariant)
    c.in_err-put.ensures)

pub loop-number-preserved : goal.loop-number-preserved
loop-number-preserved g c =
    let f = g.R.Rows.line c.args.rows.now in
    let n = c.args.n in
    let i = c.loop-number.number in
    let old = g.K.Sink.outflow c.args.sink.now in
    let before = g.K.Sink.outflow c.loop-number.sink in
    let new = g.K.Sink.outflow c.put.new.sink in
    let rows = rows_from f in
    let text = c.args.out.now ++ rows 0 n in
    let next = rows_from-next f i n (omega arith) in
    Takes-next old before new text c.loop-number.out c.put.new.out (f i) (rows (i + 1) (n - (i + 1)))
    (subst (λ rest. Takes old before text (c.loop-number.out ++ rest)) next c.loop-number.invariant)
    c.in_ok-put.ensures
