use Rattle.std.proofs.Common.{ℕ, List, Option, refl, subst}
use Rattle.log_verdict.specs.Judging.{LineJudged, Passes}
use Rattle.log_verdict.specs.declared.judge.Verdict.{Verdict}
use Rattle.log_verdict.proofs.filler.Filler.judged.Goals as goal

pub returns-in-None-clause-judged : goal.returns-in-None-clause-judged
returns-in-None-clause-judged c =
    let j = c.args.self.now.judges in
    let k = c.judge_line.new.self in
    let h = subst (λ (o : Option Verdict). LineJudged j c.as_slice.result.now k o) c.in-None.is c.in_ok-judged.ensures in
    (subst (λ (x : List ℕ). Passes j x k) c.as_slice.ensures h, refl)
