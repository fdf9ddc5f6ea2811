-- One number more in each turn.
use Rattle.std.proofs.Common.{ℕ, Bool, cond, ◌==◌, ap, ◌∙◌}
use Rattle.plan_core.specs.declared.Link.{Link}
use Rattle.plan_core.specs.Plan.{link}
use Rattle.plan_top.proofs.notes.Counting.{count_more, counted}
use Rattle.plan_top.proofs.notes.counts.links_to.Goals as goal

pub loop-l-preserved : goal.loop-l-preserved
loop-l-preserved c =
    let t : ℕ → Bool = λ k. (link c.args.plan.now k).target == c.args.c in
    let more = count_more t c.loop-l.l in
    counted _ _ _ _ _ _ c.loop-l.invariant.0 c.loop-l.invariant.1
    (c.one_if-count.ensures.value ∙ ap (λ n. cond (n == c.args.c) 1 0) (c.from.ensures ∙ ap (λ (k : Link). k.target) c.link_at.ensures))
    c.one_if-count.ensures.most more
