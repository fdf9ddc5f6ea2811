-- The plan is evaluated, and its results are compared.
use Rattle.std.proofs.Common.{sym, refl}
use Rattle.given_verdicts.specs.Answers.{lengths_of}
use Rattle.given_verdicts.proofs.Answering.{wrong_results}
use Rattle.given_verdicts.proofs.Lengths.{input_lists}
use Rattle.given_verdicts.proofs.for_inputs.wrong_for.Goals as goal

pub values-requires-clause-given : goal.values-requires-clause-given
values-requires-clause-given c =
    let t = c.args.text.now in
    let p = t.given.plan in
    let o = t.description.shape in
    rw c.plan.ensures (c.judged_plans.ensures p c.args.inputs.now (lengths_of o) c.requires.flawless.plan
    (input_lists o c.args.inputs.now p.ranks c.requires.flawless.ranks c.requires.inputs))

pub values-requires-clause-count : goal.values-requires-clause-count
values-requires-clause-count c =
    rw (c.input_count.ensures.value, c.shape-shape.ensures.shape) (sym c.requires.inputs.many)

pub returns-in-Ok : goal.returns-in-Ok
returns-in-Ok c =
    wrong_results c.args.text.now c.args.inputs.now c.args.text.now.line c.shape-shape.result.now c.in_ok-values.values
    c.in_ok-meant.meant _
    refl c.shape-shape.ensures.shape (rw c.plan.ensures at c.in_ok-values.ensures)
    (rw c.shape-shape.ensures.shape at c.in_ok-meant.ensures.value) c.in-Ok.ensures
