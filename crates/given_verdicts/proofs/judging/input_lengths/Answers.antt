-- One input more in each turn.
use Rattle.std.proofs.Common.{◌≡◌, ◌<◌, List, length, get_or, ap, ◌∙◌, arith}
use Rattle.std.proofs.lemmas.List.{get_or_read}
use Rattle.coll_shape.specs.declared.types.Buffer.{Buffer}
use Rattle.coll_shape.specs.Outline.{buffer_at, list_bytes, no_buffer}
use Rattle.given_verdicts.proofs.Lengths.{one_more}
use Rattle.given_verdicts.proofs.judging.input_lengths.Goals as goal

pub loop-b-preserved : goal.loop-b-preserved
loop-b-preserved c =
    let o = c.args.shape.now in
    let b = c.loop-b.b in
    let x = c.index-buffers-b.result in
    let end = c.input_count-b-end.ensures.value in
    let t = c.loop-b-test.true in
    let few = c.recall_form.ensures.shape.shape.few_inputs in
    let there : b < length o.buffers = omega (arith, end, t, few) in
    let is : x ≡ buffer_at o b =
    get_or_read o.buffers b x there (c.index-buffers-b.is ∙ ap (λ (v : List Buffer). get_or v b x) c.buffers.ensures.value) no_buffer in
    c.in_ok-push.ensures.items
    ∙ one_more o c.loop-b.lengths.items b c.list_bytes.result c.loop-b.invariant (c.list_bytes.ensures.value ∙ ap list_bytes is)
