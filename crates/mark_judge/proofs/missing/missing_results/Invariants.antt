use Rattle.std.proofs.Common.{◌≡◌, None, take}
use Rattle.coll_shape.specs.Outline.{buffer_at}
use Rattle.mark_judge.specs.declared.flaw.Due.TheVariants.{Result}
use Rattle.mark_judge.specs.Judged.{missing}
use Rattle.mark_judge.specs.Tables.{has}
use Rattle.plan_judge.specs.Causes.{first_found}
use Rattle.mark_judge.proofs.missing.missing_results.Given as goal

abbrev pub invariant-loop-b : goal.invariant-loop-b
invariant-loop-b l =
    first_found (λ b. first_found (λ r. missing (has l.named) (Result b r)) (buffer_at l.shape b).spread.holders)
    (take l.b-index l.b-items) ≡ None
