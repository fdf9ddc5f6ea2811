-- A slice's plan has as many cells and links.
use Rattle.std.proofs.Common.{◌+◌, ◌-◌, ◌<◌, ◌∙◌, ◌^◌, length, ap, ap₂, sym, subst}
use Rattle.plan_core.specs.Plan.{Plan}
use Rattle.plan_slices.proofs.Values.{sliced-cells, sliced-links}
use Rattle.plan_agreement.proofs.cut_places.cut_places.Goals as goal

pub cell_places-requires-2-clause-few : goal.cell_places-requires-2-clause-few
cell_places-requires-2-clause-few c =
    subst (λ n. n < 2 ^ 24)
    (sym (ap (λ (q : Plan). length q.cells) c.in_ok-slice.ensures ∙ sliced-cells c.args.plan.now c.deref-2.result.now))
    c.requires.few

pub cell_places-requires-2-clause-together : goal.cell_places-requires-2-clause-together
cell_places-requires-2-clause-together c =
    subst (λ n. n < 2 ^ 32 - 1)
    (sym (ap (λ (q : Plan). length q.cells + length q.links) c.in_ok-slice.ensures
    ∙ ap₂ (λ n m. n + m) (sliced-cells c.args.plan.now c.deref-2.result.now)
    (sliced-links c.args.plan.now c.deref-2.result.now)))
    c.requires.together
