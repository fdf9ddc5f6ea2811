use Rattle.std.proofs.Common.{cond, ◌+◌, ◌≡◌, ◌∙◌, length, ap, arith}
use Rattle.ptl_types.specs.declared.calls.Limits.{Limits}
use Rattle.plan_core.specs.Plan.{own}
use Rattle.plan_core.specs.calls.Areas.{links_to}
use Rattle.plan_core.specs.calls.RankOps.{sends_of}
use Rattle.plan_tables.specs.Installed.{Installed}
use Rattle.worlds.proofs.tasks.Lanes.{at_most-messages}
use Rattle.worlds.proofs.tasks.receipts.receipts_of.Goals as goal

pub overflow_add-result : goal.overflow_add-result
overflow_add-result c =
    let p = c.args.schedule.now.plan in
    let a : c.limits.result.now.unexpected ≡ length (links_to p c.args.r) =
    ap (λ (l : Limits). l.unexpected) (c.limits.ensures ∙ ap (λ (t : Installed). t.limits) c.requires.table) in
    let b = c.from-requests.ensures in
    let d : c.done.result ≡ length (own p c.args.r) + cond p.remote (sends_of p c.args.r) 0 = c.done.ensures
    ∙ ap (λ (t : Installed). t.done) c.requires.table in
    let e : length c.cells.result.now ≡ length (own p c.args.r) =
    ap length (c.cells.ensures ∙ ap (λ (t : Installed). t.cells) c.requires.table) in
    let at_most = at_most-messages p c.args.schedule.now.inputs c.args.r c.plan.ensures.sound in
    omega (arith, a, b, d, e, at_most)
