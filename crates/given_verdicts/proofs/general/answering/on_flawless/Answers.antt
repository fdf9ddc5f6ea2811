-- Too large, or as is found.
use Rattle.std.proofs.Common.{sym, ◌∙◌}
use Rattle.std.proofs.lemmas.Result.{IfOk-weaker}
use Rattle.given_verdicts.proofs.general.Found.{is_found, is_refused}
use Rattle.given_verdicts.proofs.general.answering.on_flawless.Goals as goal

pub returns-then-is_large : goal.returns-then-is_large
returns-then-is_large c =
    is_refused c.args.text.now _ (rw c.plan.ensures at (sym c.is_large.ensures ∙ c.if-is_large.true)) c.too_large.ensures

pub returns : goal.returns
returns c =
    IfOk-weaker c.on_agreement.result _ _
    (λ a h. is_found c.args.text.now a (rw c.plan.ensures at (sym c.is_large.ensures ∙ c.if-is_large.false)) h) c.on_agreement.ensures
