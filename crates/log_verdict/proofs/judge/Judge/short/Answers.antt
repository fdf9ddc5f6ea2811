use Rattle.std.proofs.Common.{sym, ◌∙◌}
use Rattle.log_verdict.specs.Judging.ShortTook.{Flawed, Reads}
use Rattle.log_verdict.proofs.judge.Judge.short.Goals as goal

pub returns-in_ok-taken-in-Ok : goal.returns-in_ok-taken-in-Ok
returns-in_ok-taken-in-Ok c =
    Reads c.in-Ok.read (sym c.is-over.ensures.value ∙ c.if-over.false) (sym c.in-Ok.ensures.exact)
    c.in_ok-taken-in-Ok.ensures

pub returns-in-Err : goal.returns-in-Err
returns-in-Err c =
    Flawed c.in-Err.fault (sym c.is-over.ensures.value ∙ c.if-over.false) (sym c.in-Err.ensures.exact) c.refused.ensures
