-- The lists stand rank by rank.
use Rattle.std.proofs.Common.{◌*◌, ◌∙◌, ap₂, sym, subst}
use Rattle.coll_shape.specs.Meaning.{AreInputs}
use Rattle.coll_shape.specs.Rows.{in_rows}
use Rattle.plan_agreement.proofs.Lists.{are_inputs}
use Rattle.plan_agreement.proofs.witness.witness.Goals as goal

pub of-requires : goal.of-requires
of-requires c =
    c.in-Ok.ensures.many ∙ sym (ap₂ (λ i r. i * r) c.input_count.ensures.value c.ranks.ensures.value)

pub returns-in-Ok : goal.returns-in-Ok
returns-in-Ok c =
    subst (AreInputs c.args.shape.now)
    (sym (c.of.ensures.made
    ∙ ap₂ (λ r i. in_rows r i c.in-Ok.lists.items) c.ranks.ensures.value c.input_count.ensures.value))
    (are_inputs c.args.shape.now c.in-Ok.lists.items c.in-Ok.ensures)
