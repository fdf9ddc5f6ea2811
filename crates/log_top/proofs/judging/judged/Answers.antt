use Rattle.std.proofs.Common.{ap}
use Rattle.log_top.specs.Reading.{Reader}
use Rattle.log_top.proofs.LinesJudged.{judged_now, so_far_new, so_far_on}
use Rattle.log_top.proofs.judging.judged.Goals as goal

pub lines-init : goal.lines-init
lines-init g c = so_far_new _ _ _ _ (ap (λ (r : Reader). r.held) c.in-Ok.ensures) c.new-judge.ensures

pub returns-in-Some-clause-verdict : goal.returns-in-Some-clause-verdict
returns-in-Some-clause-verdict g c =
    judged_now _ _ _ _ _ c.lines.invariant _ _ _ c.in-Some.verdict _ c.in_ok-verdict.ensures.turn c.in-Some.is

pub lines-preserved : goal.lines-preserved
lines-preserved g c = so_far_on _ _ _ _ _ c.lines.invariant _ _ _ _ c.in_ok-verdict.ensures.turn c.in_default-verdict.not-Some
