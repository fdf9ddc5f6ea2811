-- A plan without a flaw is sound.
use Rattle.std.proofs.Common.{sym, subst, ◌∙◌}
use Rattle.plan_core.specs.Sound.{SoundPlan}
use Rattle.plan_judge.specs.values.Given.{IsGiven}
use Rattle.given_verdicts.specs.Answers.{lengths_of}
use Rattle.given_verdicts.proofs.Answering.{marked, unmarked}
use Rattle.given_verdicts.proofs.Lengths.{input_lists}
use Rattle.given_verdicts.proofs.judging.on_marks.Goals as goal

pub judge_marks-requires-clause-sound : goal.judge_marks-requires-clause-sound
judge_marks-requires-clause-sound c =
    let d = c.args.d in
    let p = c.args.given.plan in
    let inputs = c.shape-shape.ensures.readable.given in
    let g : IsGiven p d.inputs =
    c.judged_plans.ensures p d.inputs (lengths_of d.shape) c.requires.flawless
    (input_lists d.shape d.inputs p.ranks c.requires.ranks inputs) in
    rw (c.plan-plan.ensures, c.shape-shape.ensures.shape) (subst (λ n. SoundPlan p n) inputs.many g.sound)

pub judge_marks-requires-clause-few_marks : goal.judge_marks-requires-clause-few_marks
judge_marks-requires-clause-few_marks c = rw c.marks-marks.ensures c.requires.few_marks

pub line_of-requires-clause-at_most : goal.line_of-requires-clause-at_most
line_of-requires-clause-at_most c =
    let d = c.args.d in
    let p = c.args.given.plan in
    let g : IsGiven p d.inputs =
    c.judged_plans.ensures p d.inputs (lengths_of d.shape) c.requires.flawless
    (input_lists d.shape d.inputs p.ranks c.requires.ranks c.shape-shape.ensures.readable.given) in
    rw c.plan-plan.ensures g.sound.few_together

pub line_of-requires-clause-few_marks : goal.line_of-requires-clause-few_marks
line_of-requires-clause-few_marks c = rw c.marks-marks.ensures c.requires.few_marks

pub returns-in-None : goal.returns-in-None
returns-in-None c =
    unmarked c.args.first c.args.d c.args.given
    (rw (c.plan-plan.ensures, c.shape-shape.ensures.shape, c.done.ensures, c.marks-marks.ensures)
    at (sym c.in_ok-judge_marks.ensures ∙ c.in-None.is))

pub returns-in-Some : goal.returns-in-Some
returns-in-Some c =
    marked c.args.first c.args.d c.args.given c.in-Some.flaw c.line_of.result
    (rw (c.plan-plan.ensures, c.shape-shape.ensures.shape, c.done.ensures, c.marks-marks.ensures)
    at (sym c.in_ok-judge_marks.ensures ∙ c.in-Some.is))
    (rw (c.plan-plan.ensures, c.marks-marks.ensures) at c.line_of.ensures)
