-- From the beginning to the end.
use Rattle.std.proofs.Common.{length, ap, sym, ◌∙◌, subst}
use Rattle.plan_core.proofs.Drawing.{length-row}
use Rattle.plan_costs.specs.State.{StateOf, Filled, IsPass, awaited_first}
use Rattle.plan_costs.specs.Times.{AreTimes, TimesOf}
use Rattle.plan_costs.proofs.Ends.{first_pass, pass_ends}
use Rattle.plan_costs.proofs.pass.pass.Goals as goal

pub fill-requires-clause-awaited : goal.fill-requires-clause-awaited
fill-requires-clause-awaited c =
    ap (λ (s : StateOf). length s.awaited) c.in_ok-state.ensures
    ∙ length-row (awaited_first c.args.plan.now) 0 (length c.args.plan.now.cells)

pub run-requires-clause-pass : goal.run-requires-clause-pass
run-requires-clause-pass c =
    let n = c.args.numbers.now in
    let p = c.args.plan.now in
    let q = c.in_ok-queue.queue in
    let S : StateOf → Type 0 = λ s. Filled p s (length p.cells) q in
    let P : StateOf → Type 0 = λ s. IsPass n p s q in
    subst P (sym c.in_ok-state.ensures) (first_pass n p c.requires.timed q (subst S c.in_ok-state.ensures c.in_ok-queue.ensures))

pub returns : goal.returns
returns c =
    let n = c.args.numbers.now in
    let p = c.args.plan.now in
    let T : TimesOf → Type 0 = λ t. AreTimes n p t in
    subst T (sym c.into_times.ensures) (pass_ends n p c.run.new.state c.requires.timed c.in_ok-run.ensures)
