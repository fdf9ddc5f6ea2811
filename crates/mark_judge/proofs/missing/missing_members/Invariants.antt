use Rattle.std.proofs.Common.{◌≡◌, None, take}
use Rattle.mark_judge.specs.Judged.{missing_member}
use Rattle.mark_judge.specs.Tables.{has}
use Rattle.plan_judge.specs.Causes.{first_found}
use Rattle.mark_judge.proofs.missing.missing_members.Given as goal

abbrev pub invariant-loop-rank : goal.invariant-loop-rank
invariant-loop-rank l = first_found (missing_member (has l.named) l.s) (take l.rank-index l.members) ≡ None
