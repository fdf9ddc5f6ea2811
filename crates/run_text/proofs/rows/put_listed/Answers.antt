use Rattle.std.proofs.Common.{◌<◌, ◌+◌, ◌++◌, length, drop, get_or, subst}
use Rattle.std.specs.List.{flat_map}
use Rattle.run_text.specs.Putting.{Takes}
use Rattle.run_text.proofs.Taking.{Takes-next, Fails-next, Puts-stops, flat_map-drop}
use Rattle.run_text.proofs.rows.put_listed.Goals as goal

pub returns-in_err-put : goal.returns-in_err-put
returns-in_err-put g c =
    let f = g.R.Rows.line c.args.rows.now in
    let numbers = c.args.numbers.now in
    let i = c.loop-number.number-index in
    let old = g.K.Sink.outflow c.args.sink.now in
    let before = g.K.Sink.outflow c.loop-number.sink in
    let new = g.K.Sink.outflow c.put.new.sink in
    let text = c.args.out.now ++ flat_map f numbers in
    let in_range : i < length numbers = c.loop-number-test.true in
    Puts-stops old new c.args.out.now c.put.new.out (flat_map f numbers) _ c.from_residual.ensures.0
    (Fails-next old before new text c.loop-number.out (f (get_or numbers i 0)) (flat_map f (drop (i + 1) numbers))
    (subst (λ rest. Takes old before text (c.loop-number.out ++ rest)) (flat_map-drop f numbers i 0 in_range) c.loop-number.invariant)
    c.in_err-put.ensures)

pub loop-number-preserved : goal.loop-number-preserved
loop-number-preserved g c =
    let f = g.R.Rows.line c.args.rows.now in
    let numbers = c.args.numbers.now in
    let i = c.loop-number.number-index in
    let old = g.K.Sink.outflow c.args.sink.now in
    let before = g.K.Sink.outflow c.loop-number.sink in
    let new = g.K.Sink.outflow c.put.new.sink in
    let text = c.args.out.now ++ flat_map f numbers in
    let in_range : i < length numbers = c.loop-number-test.true in
    Takes-next old before new text c.loop-number.out c.put.new.out (f (get_or numbers i 0)) (flat_map f (drop (i + 1) numbers))
    (subst (λ rest. Takes old before text (c.loop-number.out ++ rest)) (flat_map-drop f numbers i 0 in_range) c.loop-number.invariant)
    c.in_ok-put.ensures
