-- Its members in another order.
use Rattle.std.proofs.lemmas.Result.{IfOk-weaker}
use Rattle.plan_terms.proofs.terms.Elements.{other_order}
use Rattle.plan_terms.proofs.folding.place_in_order.Goals as goal

pub returns-clause-is : goal.returns-clause-is
returns-clause-is c =
    IfOk-weaker c.fold_place.result _ _
    (λ s is. other_order c.fold_place.new.self c.args.op c.args.ty s c.args.fold.now c.as_slice.result.now c.in_ok-all.all
    c.as_slice.ensures c.in_ok-all.ensures.more is)
    c.fold_place.ensures.is
