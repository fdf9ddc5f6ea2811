use Rattle.std.proofs.Common.{ℕ, List}
use Rattle.log_verdict.specs.Judging.{LineJudged, LineTook, next_line, took, verdict_given}
use Rattle.log_verdict.specs.Judging.Passes.{Judged, Written}
use Rattle.log_verdict.specs.declared.judge.Judge.{Judge}
use Rattle.log_verdict.specs.declared.judge.Taken.{Taken}
use Rattle.log_verdict.specs.declared.judge.Taken.TheVariants as takes
use Rattle.log_verdict.proofs.judge.Judge.judge_line.Goals as goal

judged : (j k : Judge) (line : List ℕ) (t : Taken) → LineTook (next_line j) line (took k t) → LineJudged j line k (verdict_given t)
judged j k line takes.Goes h = Judged h
judged j k line (takes.Owes text) h = Written text h
judged j k line (takes.Ends v) h = h

pub returns : goal.returns
returns c = rw c.verdict_given.ensures (judged _ _ _ _ c.in_ok-taken.ensures.took)
