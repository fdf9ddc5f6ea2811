-- One place more in each turn.
use Rattle.std.proofs.Common.{ap, ◌∙◌, sym, cond, get_or, ◌++◌, ◌∷◌, []}
use Rattle.coll_shape.specs.Collectives.{is_in}
use Rattle.plan_steps.proofs.Leaving.{filter-more}
use Rattle.plan_steps.proofs.beginning.holding_of.Goals as goal

pub loop-place-preserved : goal.loop-place-preserved
loop-place-preserved c =
    c.in_ok-push_holding.ensures
    ∙ ap (λ v. v ++ cond (is_in (get_or c.args.members.now c.loop-place.place 0) c.holders_of-holders.result.now)
    (c.loop-place.place ∷ []) []) c.loop-place.invariant
    ∙ sym (filter-more (λ i. is_in (get_or c.args.members.now i 0) c.holders_of-holders.result.now) c.loop-place.place)
