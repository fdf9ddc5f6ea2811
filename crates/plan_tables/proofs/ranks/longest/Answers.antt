-- One link more in each turn.
use Rattle.std.proofs.Common.{suc, ◌+◌, ◌∙◌, ap, ap₂, sym, max, take, get_or, arith, ◌≡◌}
use Rattle.std.proofs.Math.Seq.{take-suc}
use Rattle.plan_core.specs.declared.Link.{Link}
use Rattle.plan_core.specs.calls.Areas.{longest}
use Rattle.plan_tables.proofs.Assembling.{longest-more}
use Rattle.plan_tables.proofs.ranks.longest.Goals as goal

pub loop-l-preserved : goal.loop-l-preserved
loop-l-preserved c =
    let p = c.args.plan.now in
    let ls = c.args.links.now in
    let i = c.loop-l.l-index in
    let z : suc i ≡ i + 1 = omega arith in
    c.longer-most.ensures
    ∙ ap₂ max c.loop-l.invariant (ap (λ (k : Link). k.length) c.link_at.ensures)
    ∙ sym (longest-more p (take i ls) (get_or ls i 0))
    ∙ ap (longest p) (sym (take-suc ls i 0 c.loop-l-test.true) ∙ ap (λ v. take v ls) z)
