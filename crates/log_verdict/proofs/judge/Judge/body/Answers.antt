use Rattle.std.proofs.Common.{sym, ◌∙◌}
use Rattle.log_verdict.specs.Judging.BodyTook.{Short}
use Rattle.log_verdict.proofs.judge.Judge.body.Goals as goal

pub returns : goal.returns
returns c = Short (sym c.is_long-long.ensures ∙ c.if-long.false) c.in_ok-taken.ensures
