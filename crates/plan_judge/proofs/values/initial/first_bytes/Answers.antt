-- An input's cell, or another one.
use Rattle.std.proofs.Common.{sym, ◌∙◌, arith}
use Rattle.std.proofs.lemmas.Result.{IfOk-weaker}
use Rattle.plan_judge.proofs.values.Beginning.{is_there, of_blank, of_input}
use Rattle.plan_judge.proofs.values.initial.first_bytes.Goals as goal

pub input_bytes-requires-clause-input : goal.input_bytes-requires-clause-input
input_bytes-requires-clause-input c =
    let t = is_there c.ranks-ranks.result c.args.count c.args.c (sym c.is_input.ensures ∙ c.if-is_input.true) in
    rw (← c.ranks-ranks.ensures, ← c.requires.count) (omega (arith, t.0, t.1))

pub blank-requires : goal.blank-requires
blank-requires c = rw c.cell_at.ensures (c.requires.given.sound.whole c.args.c c.requires.cell)

pub returns-then-is_input : goal.returns-then-is_input
returns-then-is_input c =
    let first = of_input c.args.plan.now c.args.inputs.now c.args.c c.args.count c.ranks-ranks.result c.ranks-ranks.ensures c.requires.count
    (sym c.is_input.ensures ∙ c.if-is_input.true) in
    IfOk-weaker c.from_slice.result _ _ (λ v h. h ∙ c.input_bytes.ensures ∙ sym first) c.from_slice.ensures.items

pub returns-else-is_input : goal.returns-else-is_input
returns-else-is_input c =
    let first = of_blank c.args.plan.now c.args.inputs.now c.args.c c.args.count c.ranks-ranks.result c.cell_at.result c.ranks-ranks.ensures
    c.requires.count c.cell_at.ensures (sym c.is_input.ensures ∙ c.if-is_input.false) in
    IfOk-weaker c.blank.result _ _ (λ v h. h ∙ sym first) c.blank.ensures
