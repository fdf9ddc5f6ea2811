use Rattle.std.proofs.Common.{◌∷◌, ◌++◌, subst, arith}
use Rattle.std.specs.List.{flat_map}
use Rattle.run_text.specs.declared.words.Word.{Word}
use Rattle.run_text.specs.declared.words.Word.TheVariants.{Number}
use Rattle.run_text.specs.Putting.{Takes}
use Rattle.run_text.specs.Worded.{word_bytes}
use Rattle.run_text.proofs.Taking.{Takes-next, Fails-next, Puts-stops, flat_map-drop}
use Rattle.run_text.proofs.words.put_all.Goals as goal

pub returns-in_err-put_one : goal.returns-in_err-put_one
returns-in_err-put_one g c =
    let old = g.K.Sink.outflow c.args.sink.now in
    let before = g.K.Sink.outflow c.loop-word.sink in
    let f = λ (w : Word). 32 ∷ word_bytes w in
    let text = c.args.out.now ++ flat_map f c.args.words.now in
    let split = flat_map-drop f c.args.words.now c.loop-word.word-index (Number 0) (omega arith) in
    Puts-stops _ _ c.args.out.now c.put_one.new.out (flat_map f c.args.words.now) _ c.from_residual.ensures.0
    (Fails-next old before _ text c.loop-word.out _ _ (subst (λ rest. Takes old before text (c.loop-word.out ++ rest)) split
    c.loop-word.invariant) c.in_err-put_one.ensures)

pub loop-word-preserved : goal.loop-word-preserved
loop-word-preserved g c =
    let old = g.K.Sink.outflow c.args.sink.now in
    let before = g.K.Sink.outflow c.loop-word.sink in
    let f = λ (w : Word). 32 ∷ word_bytes w in
    let text = c.args.out.now ++ flat_map f c.args.words.now in
    let split = flat_map-drop f c.args.words.now c.loop-word.word-index (Number 0) (omega arith) in
    Takes-next old before _ text c.loop-word.out _ _ _ (subst (λ rest. Takes old before text (c.loop-word.out ++ rest)) split
    c.loop-word.invariant) c.in_ok-put_one.ensures
