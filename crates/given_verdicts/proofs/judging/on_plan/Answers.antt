-- The plan's flaw, or what its lines after the links show.
use Rattle.std.proofs.Common.{sym, ◌∙◌}
use Rattle.given_verdicts.proofs.Answering.{clear, flawed}
use Rattle.given_verdicts.proofs.judging.on_plan.Goals as goal

pub on_marks-requires-clause-flawless : goal.on_marks-requires-clause-flawless
on_marks-requires-clause-flawless c =
    rw (c.plan-plan.ensures, c.as_slice.ensures.value, c.in_ok-lengths.ensures, c.shape.ensures.shape)
    at (sym c.in_ok-judge.ensures ∙ c.in-None.is)

pub returns-in-None : goal.returns-in-None
returns-in-None c =
    clear c.args.first c.args.d c.args.given c.on_marks.result
    (rw (c.plan-plan.ensures, c.as_slice.ensures.value, c.in_ok-lengths.ensures, c.shape.ensures.shape)
    at (sym c.in_ok-judge.ensures ∙ c.in-None.is)) c.on_marks.ensures

pub returns-in-Some : goal.returns-in-Some
returns-in-Some c =
    flawed c.args.first c.args.d c.args.given c.in-Some.flaw c.flaw_line.result c.cause_of.result
    (rw (c.plan-plan.ensures, c.as_slice.ensures.value, c.in_ok-lengths.ensures, c.shape.ensures.shape)
    at (sym c.in_ok-judge.ensures ∙ c.in-Some.is))
    (rw c.plan-plan.ensures at c.flaw_line.ensures) c.cause_of.ensures
