-- The same place so many times.
use Rattle.std.proofs.Common.{map, ap, ◌∙◌}
use Rattle.plan_terms.proofs.Placing.{zero_places}
use Rattle.plan_terms.proofs.places.zeros.Goals as goal

pub returns-clause-are : goal.returns-clause-are
returns-clause-are c = λ inputs V solution.
    ap (map V) (c.in_ok-vec.ensures.items_if_clones_equal (λ y e. e))
    ∙ zero_places c.zero.new.terms c.args.count c.in_ok-place.place c.in_ok-place.ensures.is inputs V solution
