-- The plan is evaluated, and its result is compared.
use Rattle.std.proofs.Common.{◌<◌, ◌∙◌, length, sym, subst, arith}
use Rattle.plan_core.specs.Values.{value}
use Rattle.plan_tables.proofs.Passes.{length-table}
use Rattle.plan_agreement.specs.Agreement.{HasCell, IsMeant}
use Rattle.plan_agreement.proofs.Lists.{is_given, is_meant, not_meant}
use Rattle.plan_agreement.proofs.exact.differs.Goals as goal

pub values-requires-clause-given : goal.values-requires-clause-given
values-requires-clause-given c = is_given c.args.plan.now c.args.shape.now c.args.inputs.now c.requires.fits c.requires.inputs

pub values-requires-clause-count : goal.values-requires-clause-count
values-requires-clause-count c = c.input_count.ensures.value ∙ sym c.requires.inputs.many

pub returns-then-cell-len-clause-like : goal.returns-then-cell-len-clause-like
returns-then-cell-len-clause-like c = λ same known.
    let p = c.args.plan.now in
    let there : c.in-Result.cell < length p.cells = subst (HasCell p) c.in-Result.is known in
    let n = c.len.ensures in
    let t = c.if-cell-len.true in
    let m = length-table (value p c.args.inputs.now) (length p.cells) c.in_ok-values.values c.in_ok-values.ensures in
    absurd (omega (arith, there, n, t, m))

pub returns-clause-unlike : goal.returns-clause-unlike
returns-clause-unlike c = λ unlike same.
    let n = c.len.ensures in
    let t = c.if-cell-len.false in
    not_meant c.args.plan.now c.args.shape.now c.args.inputs.now c.in-Result.buffer c.in-Result.rank c.in-Result.cell c.in_ok-meant.meant
    c.in_ok-values.values c.cell.result.now c.list.result.now (omega (arith, n, t)) c.in_ok-values.ensures c.in_ok-meant.ensures.value
    c.cell.ensures c.list.ensures.value (c.are_unlike.ensures.unlike unlike)
    (subst (IsMeant c.args.plan.now c.args.shape.now c.args.inputs.now) c.in-Result.is same)

pub returns-clause-like : goal.returns-clause-like
returns-clause-like c = λ same known.
    let n = c.len.ensures in
    let t = c.if-cell-len.false in
    subst (IsMeant c.args.plan.now c.args.shape.now c.args.inputs.now) (sym c.in-Result.is)
    (is_meant c.args.plan.now c.args.shape.now c.args.inputs.now c.in-Result.buffer c.in-Result.rank c.in-Result.cell c.in_ok-meant.meant
    c.in_ok-values.values c.cell.result.now c.list.result.now (omega (arith, n, t)) c.in_ok-values.ensures c.in_ok-meant.ensures.value
    c.cell.ensures c.list.ensures.value (c.are_unlike.ensures.same same))
