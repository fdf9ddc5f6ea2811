-- One link more in each turn.
use Rattle.std.proofs.Common.{ℕ, Bool, ◌==◌}
use Rattle.std.specs.Prelude.{if◌then◌else◌}
use Rattle.plan_core.specs.Plan.{is_bump, link}
use Rattle.plan_top.proofs.notes.Counting.{capped, sum_more}
use Rattle.plan_top.proofs.notes.counts.bytes_to.Goals as goal

pub loop-l-preserved : goal.loop-l-preserved
loop-l-preserved c =
    let t : ℕ → Bool = λ k. (link c.args.plan.now k).target == c.args.c in
    let w : ℕ → ℕ = λ k. if is_bump (link c.args.plan.now k).kind then 0 else (link c.args.plan.now k).length in
    let more = sum_more w t c.loop-l.l in
    capped _ _ _ _ _ _ _ c.loop-l.invariant c.saturating_add-bytes.ensures c.put_to.ensures more
