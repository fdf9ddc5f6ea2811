use Rattle.std.proofs.Common.{◌++◌, subst, arith}
use Rattle.std.specs.List.{flat_map}
use Rattle.given_lines.specs.declared.given.Mark.TheVariants.{Result}
use Rattle.run_text.specs.Putting.{Takes}
use Rattle.run_text.proofs.Taking.{Takes-next, Fails-next, Puts-stops, flat_map-drop}
use Rattle.plan_top.specs.Texts.{mark_line}
use Rattle.plan_top.proofs.writing.put_marks.Goals as goal

pub returns-in_err-put_mark : goal.returns-in_err-put_mark
returns-in_err-put_mark g c =
    let old = g.K.Sink.outflow c.args.sink.now in
    let before = g.K.Sink.outflow c.loop-mark.sink in
    let f = mark_line c.args.buffers.now in
    let text = c.args.out.now ++ flat_map f c.args.marks.now in
    let split = flat_map-drop f c.args.marks.now c.loop-mark.mark-index (Result 0 0 0) (omega arith) in
    Puts-stops _ _ c.args.out.now c.put_mark.new.out (flat_map f c.args.marks.now) _ c.from_residual.ensures.0
    (Fails-next old before _ text c.loop-mark.out _ _ (subst (λ rest. Takes old before text (c.loop-mark.out ++ rest)) split
    c.loop-mark.invariant) c.in_err-put_mark.ensures)

pub loop-mark-preserved : goal.loop-mark-preserved
loop-mark-preserved g c =
    let old = g.K.Sink.outflow c.args.sink.now in
    let before = g.K.Sink.outflow c.loop-mark.sink in
    let f = mark_line c.args.buffers.now in
    let text = c.args.out.now ++ flat_map f c.args.marks.now in
    let split = flat_map-drop f c.args.marks.now c.loop-mark.mark-index (Result 0 0 0) (omega arith) in
    Takes-next old before _ text c.loop-mark.out _ _ _ (subst (λ rest. Takes old before text (c.loop-mark.out ++ rest)) split
    c.loop-mark.invariant) c.in_ok-put_mark.ensures
