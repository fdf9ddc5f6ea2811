use Rattle.std.proofs.Common.{ap, ◌∙◌}
use Rattle.std.proofs.lemmas.Result.{on_ok_weaker}
use Rattle.plan_terms.specs.terms.Terms.{fold_of}
use Rattle.plan_terms.proofs.terms.Folds.{push-more}
use Rattle.plan_terms.proofs.terms.members.Members.put.Goals as goal

pub returns-clause-more : goal.returns-clause-more
returns-clause-more c =
    on_ok_weaker c.push.result
    (λ e V. ap (fold_of V c.args.op c.args.ty) e ∙ push-more c.args.op c.args.ty c.args.self.now c.args.member V)
    c.push.ensures
