-- The lists stand rank by rank.
use Rattle.std.proofs.Common.{◌*◌, ◌/◌, ◌∙◌, ap, ap₂, sym, List, ℕ, length}
use Rattle.coll_shape.specs.Outline.{buffer_at, list_bytes}
use Rattle.coll_shape.specs.Rows.{in_rows}
use Rattle.plan_core.proofs.Drawing.{length-row}
use Rattle.plan_agreement.specs.Witness.{numbered_list}
use Rattle.plan_agreement.proofs.numbers.numbered.Goals as goal

pub of-requires : goal.of-requires
of-requires c =
    let o = c.args.shape.now in
    ap length c.in-Ok.ensures
    ∙ length-row (λ i. numbered_list c.args.unit i (list_bytes (buffer_at o (i / o.ranks)))) 0 (o.inputs * o.ranks)
    ∙ sym (ap₂ (λ i r. i * r) c.input_count.ensures.value c.ranks.ensures.value)

pub returns-in-Ok : goal.returns-in-Ok
returns-in-Ok c =
    let o = c.args.shape.now in
    c.of.ensures.made
    ∙ ap₂ (λ r i. in_rows r i c.in-Ok.lists.items) c.ranks.ensures.value c.input_count.ensures.value
    ∙ ap (λ (xs : List (List ℕ)). in_rows o.ranks o.inputs xs) c.in-Ok.ensures
