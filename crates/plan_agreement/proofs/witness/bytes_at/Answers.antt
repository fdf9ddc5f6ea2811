-- Each input is a buffer.
use Rattle.std.proofs.Common.{◌/◌, ◌<◌, length, sym, subst, arith}
use Rattle.plan_agreement.proofs.Lists.{its_bytes, its_input}
use Rattle.plan_agreement.proofs.witness.bytes_at.Goals as goal

pub nonzero_div-input : goal.nonzero_div-input
nonzero_div-input c =
    let e = c.ranks.ensures.value in
    let some = c.recall_form.ensures.shape.shape.some_rank in
    omega (arith, e, some)

pub bounds-buffers-input : goal.bounds-buffers-input
bounds-buffers-input c =
    let o = c.args.shape.now in
    subst (λ bs. c.args.i / c.ranks.result < length bs) (sym c.buffers-buffers.ensures.value)
    (subst (λ n. c.args.i / n < length o.buffers) (sym c.ranks.ensures.value) (its_input o c.args.i c.recall_form.ensures.shape c.requires))

pub returns : goal.returns
returns c =
    its_bytes c.args.shape.now c.args.i c.ranks.result c.buffers-buffers.result.now c.index-buffers-input.result c.list_bytes.result
    c.recall_form.ensures.shape c.requires c.buffers-buffers.ensures.value c.ranks.ensures.value c.index-buffers-input.is
    c.list_bytes.ensures.value
