-- A plan without flaw is sound for one input.
use Rattle.std.proofs.Common.{◌≡◌, [], ◌∷◌, ◌∙◌, sym, subst, arith}
use Rattle.plan_core.specs.Sound.{SoundPlan}
use Rattle.plan_judge.proofs.Rows.{some_none}
use Rattle.judge_cases.proofs.marks.judged_lines.Goals as goal

pub judge_marks-requires-clause-sound : goal.judge_marks-requires-clause-sound
judge_marks-requires-clause-sound c =
    let p = c.plan-plan.result.now in
    let none = sym c.in_ok-flaw.ensures ∙ some_none c.in_ok-flaw.flaw (sym c.is_some.ensures ∙ c.if-is_some.false) in
    let one : c.shape-shape.result.now.inputs ≡ 1 = omega arith in
    subst (SoundPlan p) (sym one) ((c.no_flaw.ensures p (1 ∷ [])).0 none).0
