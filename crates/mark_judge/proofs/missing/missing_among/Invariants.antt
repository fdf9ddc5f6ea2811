use Rattle.std.proofs.Common.{◌≡◌, None, take}
use Rattle.mark_judge.specs.declared.flaw.Due.TheVariants.{Result}
use Rattle.mark_judge.specs.Judged.{missing}
use Rattle.mark_judge.specs.Tables.{has}
use Rattle.plan_judge.specs.Causes.{first_found}
use Rattle.mark_judge.proofs.missing.missing_among.Given as goal

abbrev pub invariant-loop-rank : goal.invariant-loop-rank
invariant-loop-rank l = first_found (λ r. missing (has l.named) (Result l.buffer r)) (take l.rank-index l.holders) ≡ None
