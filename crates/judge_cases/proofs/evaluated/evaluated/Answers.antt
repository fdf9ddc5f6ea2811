-- A plan without a flaw can be evaluated.
use Rattle.std.proofs.Common.{◌≡◌, ◌∷◌, [], sym, ◌∙◌, arith}
use Rattle.plan_judge.specs.values.Given.{AreLists}
use Rattle.judge_cases.proofs.evaluated.evaluated.Goals as goal

pub values-requires-clause-given : goal.values-requires-clause-given
values-requires-clause-given c =
    let p = c.args.plan.now in
    let inputs = c.in_ok-inputs.inputs in
    let ranks : p.ranks ≡ 2 = omega arith in
    let lists : AreLists p.ranks (4 ∷ []) inputs = rw ranks c.in_ok-inputs.ensures in
    c.judged_plans.ensures p inputs (4 ∷ []) (sym c.in_ok-judge.ensures ∙ c.in-None.is) lists

pub values-requires-clause-count : goal.values-requires-clause-count
values-requires-clause-count c = sym c.in_ok-inputs.ensures.many
