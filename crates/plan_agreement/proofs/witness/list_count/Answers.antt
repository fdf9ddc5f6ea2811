-- At most 128 inputs at 256 ranks.
use Rattle.std.proofs.Common.{◌≡◌, ◌*◌, ap₂, arith}
use Rattle.plan_agreement.proofs.Lists.{few_lists}
use Rattle.plan_agreement.proofs.witness.list_count.Goals as goal

pub overflow_mul-result : goal.overflow_mul-result
overflow_mul-result c =
    let o = c.args.shape.now in
    let same : c.input_count.result * c.ranks.result ≡ o.inputs * o.ranks =
    ap₂ (λ i r. i * r) c.input_count.ensures.value c.ranks.ensures.value in
    let few = few_lists o c.recall_form.ensures.shape in
    omega (arith, same, few)
