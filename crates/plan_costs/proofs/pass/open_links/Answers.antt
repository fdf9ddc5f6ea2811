-- By `Opening`.
use Rattle.std.proofs.Common.{ℕ, refl, subst}
use Rattle.plan_costs.specs.State.{Opened, Settled, links_from}
use Rattle.plan_costs.proofs.Opening.{carry, opened_settled}
use Rattle.plan_costs.proofs.pass.open_links.Goals as goal

pub returns-then-is_reached : goal.returns-then-is_reached
returns-then-is_reached c =
    let p = c.args.plan.now in
    let s = c.args.state.now in
    let P : ℕ → Type 0 = λ t. Opened p (links_from p c.args.c) t c.args.queue.now c.release.new.queue in
    carry c.release.result (P c.cell.result) (Settled p s c.args.c c.args.queue.now c.release.new.queue)
    (λ o. opened_settled p s c.args.c c.args.queue.now c.release.new.queue (subst P c.cell.ensures o) (c.if-is_reached.ensures.0 refl))
    c.release.ensures
