-- The members were put in another order, and joined with these.
use Rattle.std.proofs.lemmas.Result.{on_ok_weaker}
use Rattle.plan_terms.proofs.terms.Folds.{all_after}
use Rattle.plan_terms.proofs.terms.members.Members.add_all.Goals as goal

pub returns : goal.returns
returns c =
    on_ok_weaker c.join.result
    (all_after c.args.op c.args.ty c.args.self.now c.settle.new.self c.join.new.self c.args.members.now c.in_ok-settle.ensures.more)
    c.join.ensures
