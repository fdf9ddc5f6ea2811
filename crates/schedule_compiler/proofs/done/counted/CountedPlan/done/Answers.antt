-- A place of each table.
use Rattle.std.proofs.Common.{◌<◌, ◌∙◌, ap, arith, length, sym}
use Rattle.plan_core.specs.Plan.{Plan, own}
use Rattle.plan_tables.specs.Rising.{of_key}
use Rattle.plan_tables.specs.Tables.{rank_of}
use Rattle.plan_tables.proofs.Passes.{length-table}
use Rattle.plan_tables.proofs.Sums.{counted-at_most}
use Rattle.schedule_compiler.specs.done.Counts.{sent_key}
use Rattle.schedule_compiler.proofs.done.Sent.{cells-at, done-local, done-remote, sent-at}
use Rattle.schedule_compiler.proofs.done.counted.CountedPlan.done.Goals as goal

pub at-cells-requires : goal.at-cells-requires
at-cells-requires c =
    let p = c.self.inside.plan in
    let e = length-table (λ r. length (own p r)) p.ranks c.self.inside.cells c.self.invariant.own in
    let v = ap (λ (q : Plan). q.ranks) c.self.view_is in
    let r = c.requires in
    omega (arith, e, v, r)

pub at-requires : goal.at-requires
at-requires c =
    let p = c.self.inside.plan in
    let e = length-table (λ r. length (of_key (sent_key p) (length p.links) r)) p.ranks c.self.inside.sent
    (c.self.invariant.messages (sym c.if-remote.ensures)) in
    let v = ap (λ (q : Plan). q.ranks) c.self.view_is in
    let r = c.requires in
    omega (arith, e, v, r)

pub overflow_add-result : goal.overflow_add-result
overflow_add-result c =
    let p = c.self.inside.plan in
    let a = counted-at_most (rank_of p) (length p.cells) p.ranks c.args.r c.self.inside.cells c.self.invariant.own in
    let b = counted-at_most (sent_key p) (length p.links) p.ranks c.args.r c.self.inside.sent
    (c.self.invariant.messages (sym c.if-remote.ensures)) in
    let x = c.at-cells.ensures in
    let y = c.at.ensures in
    let f = c.self.invariant.tabled.few_together in
    omega (arith, a, b, x, y, f)

pub returns-then-remote : goal.returns-then-remote
returns-then-remote c =
    let p = c.self.inside.plan in
    let v = ap (λ (q : Plan). q.ranks) c.self.view_is in
    let r = c.requires in
    let h : c.args.r < p.ranks = omega (arith, v, r) in
    done-remote p c.args.self.now c.args.r c.at-cells.result c.at.result c.self.view_is (sym c.if-remote.ensures)
    (c.at-cells.ensures ∙ cells-at p c.args.r c.self.inside.cells c.self.invariant.own h)
    (c.at.ensures ∙ sent-at p c.args.r c.self.inside.sent (c.self.invariant.messages (sym c.if-remote.ensures)) h)

pub returns-else-remote : goal.returns-else-remote
returns-else-remote c =
    let p = c.self.inside.plan in
    let v = ap (λ (q : Plan). q.ranks) c.self.view_is in
    let r = c.requires in
    let h : c.args.r < p.ranks = omega (arith, v, r) in
    done-local p c.args.self.now c.args.r c.at-cells.result c.self.view_is (sym c.if-remote.ensures)
    (c.at-cells.ensures ∙ cells-at p c.args.r c.self.inside.cells c.self.invariant.own h)
