-- A shape's own plan is one for the shape.
use Rattle.std.proofs.Common.{sym, subst}
use Rattle.plan_core.specs.Plan.{Plan}
use Rattle.plan_agreement.specs.Agreement.{IsPlanFor}
use Rattle.judge_cases.proofs.agreement.found_of.Goals as goal

pub agree-requires-clause-fits : goal.agree-requires-clause-fits
agree-requires-clause-fits c =
    subst (λ (p : Plan). IsPlanFor p c.args.shape.now) (sym c.requires.plan)
    (c.own_plans_fit.ensures c.args.shape.now c.recall_form.ensures.shape c.requires.accepted)
