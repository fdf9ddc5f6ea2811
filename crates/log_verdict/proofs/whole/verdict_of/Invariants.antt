use Rattle.std.proofs.Common.{length}
use Rattle.coll_text.specs.Text.{lines}
use Rattle.log_verdict.specs.Judging.{IsVerdict, Verdicts}
use Rattle.log_verdict.specs.declared.judge.Verdict.{Verdict}
use Rattle.log_verdict.proofs.whole.verdict_of.Given as goal

-- the verdict on what is left is that on the whole
abbrev pub invariant-lines : goal.invariant-lines
invariant-lines l = (v : Verdict) → Verdicts v l.judge (lines l.rest) → IsVerdict l.any_order l.text v

abbrev pub decreases-lines : goal.decreases-lines
decreases-lines l = length l.rest
