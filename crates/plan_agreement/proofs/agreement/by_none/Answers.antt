-- Of lines that name no result there is nothing to know.
use Rattle.std.proofs.Common.{length}
use Rattle.plan_agreement.proofs.Meant.{result_open}
use Rattle.plan_agreement.proofs.agreement.by_none.Goals as goal

pub by_first-requires-clause-first : goal.by_first-requires-clause-first
by_first-requires-clause-first c =
    result_open c.args.plan.now c.args.shape.now c.args.marks.now (length c.args.marks.now) c.first_result.result c.first_result.ensures
