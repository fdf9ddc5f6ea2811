-- A fault, or what is found for all inputs.
use Rattle.std.proofs.Common.{sym, ◌∙◌}
use Rattle.std.proofs.lemmas.Result.{IfOk-weaker}
use Rattle.given_verdicts.proofs.general.Found.{at_once, by_results}
use Rattle.given_verdicts.proofs.general.answering.general_answer.Goals as goal

pub on_flawless-requires : goal.on_flawless-requires
on_flawless-requires c = rw c.in-Flawless.is at c.in_ok-answer.ensures.rightly

pub returns-in-Answered : goal.returns-in-Answered
returns-in-Answered c = at_once c.args.text.now c.in-Answered.answer (sym c.in-Answered.is ∙ c.in_ok-answer.ensures.exact)

pub returns-in-Flawless : goal.returns-in-Flawless
returns-in-Flawless c =
    IfOk-weaker c.on_flawless.result _ _
    (λ a h. by_results c.args.text.now _ a (sym c.in-Flawless.is ∙ c.in_ok-answer.ensures.exact) h) c.on_flawless.ensures
