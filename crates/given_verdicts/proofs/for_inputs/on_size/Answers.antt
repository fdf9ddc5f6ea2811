-- Too large, or as the results show.
use Rattle.std.proofs.Common.{sym, ◌∙◌}
use Rattle.given_verdicts.proofs.Answering.{small_enough, too_large}
use Rattle.given_verdicts.proofs.for_inputs.on_size.Goals as goal

pub wrong_for-requires-clause-inputs : goal.wrong_for-requires-clause-inputs
wrong_for-requires-clause-inputs c = rw c.inputs.ensures.inputs c.shape-shape.ensures.readable.given

pub returns-then-is_large : goal.returns-then-is_large
returns-then-is_large c =
    c.too_large.ensures ∙ too_large c.args.text.now (rw c.plan.ensures at (sym c.is_large.ensures ∙ c.if-is_large.true))

pub returns : goal.returns
returns c =
    small_enough c.args.text.now c.in_ok-wrong.wrong c.on_results.result
    (rw c.plan.ensures at (sym c.is_large.ensures ∙ c.if-is_large.false))
    (rw c.inputs.ensures.inputs at c.in_ok-wrong.ensures) c.on_results.ensures
