-- What is read, or why not.
use Rattle.std.proofs.Common.{sym, ap, ◌∙◌}
use Rattle.std.proofs.lemmas.Result.{IfOk-weaker}
use Rattle.given_verdicts.specs.Answers.{on_read}
use Rattle.given_verdicts.proofs.judging.on_read.Goals as goal

pub on_plan-requires-clause-ranks : goal.on_plan-requires-clause-ranks
on_plan-requires-clause-ranks c = rw c.shape.ensures.shape at c.in-Ok.ensures.ranks

pub returns-in-Ok : goal.returns-in-Ok
returns-in-Ok c =
    IfOk-weaker c.on_plan.result _ _
    (λ a h. h ∙ ap (on_read c.args.first c.args.d) (sym (rw c.shape.ensures.shape at c.in-Ok.ensures.read))) c.on_plan.ensures

pub returns-in-Err-Refused : goal.returns-in-Err-Refused
returns-in-Err-Refused c =
    rw c.in-Err-Refused.field-0-is
    (ap (on_read c.args.first c.args.d)
    (sym (rw (c.in-Err-Refused.field-0-is, c.shape.ensures.shape) at c.in-Err-Refused.ensures.read)))
