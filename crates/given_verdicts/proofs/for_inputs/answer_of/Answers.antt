-- A fault, or what the results show.
use Rattle.std.proofs.Common.{refl, sym, ◌∙◌}
use Rattle.std.proofs.lemmas.Result.{IfOk-weaker}
use Rattle.given_verdicts.proofs.Answering.{of_judged}
use Rattle.given_verdicts.proofs.for_inputs.answer_of.Goals as goal

pub on_size-requires : goal.on_size-requires
on_size-requires c = rw c.in-Flawless.is at c.in_ok-answer.ensures.rightly

pub returns-in-Answered : goal.returns-in-Answered
returns-in-Answered c = of_judged c.args.text.now _ c.in-Answered.answer (sym c.in-Answered.is ∙ c.in_ok-answer.ensures.exact) refl

pub returns-in-Flawless : goal.returns-in-Flawless
returns-in-Flawless c =
    IfOk-weaker c.on_size.result _ _
    (λ a h. of_judged c.args.text.now _ a (sym c.in-Flawless.is ∙ c.in_ok-answer.ensures.exact) h) c.on_size.ensures
