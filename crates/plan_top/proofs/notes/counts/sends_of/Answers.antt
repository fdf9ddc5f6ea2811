-- One number more in each turn.
use Rattle.std.proofs.Common.{ℕ, Bool, cond, ◌==◌, ap, ◌∙◌}
use Rattle.plan_core.specs.Plan.{cell, link}
use Rattle.plan_core.specs.calls.RankOps.{is_message}
use Rattle.plan_top.proofs.notes.Counting.{counted, passed_more}
use Rattle.plan_top.proofs.notes.counts.sends_of.Goals as goal

pub loop-l-preserved : goal.loop-l-preserved
loop-l-preserved c =
    let t : ℕ → Bool = λ k. (cell c.args.plan.now (link c.args.plan.now k).source).rank == c.args.r in
    let more = passed_more (is_message c.args.plan.now) t c.loop-l.l in
    counted _ _ _ _ _ _ c.loop-l.invariant.0 c.loop-l.invariant.1
    (c.one_if-count.ensures.value ∙ ap (λ b. cond b 1 0) c.is_sent_by.ensures) c.one_if-count.ensures.most more
