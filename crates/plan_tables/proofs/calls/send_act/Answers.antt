-- A link's part lies in its rank's region.
use Rattle.std.proofs.Common.{arith, ap}
use Rattle.plan_core.specs.declared.Link.{Link}
use Rattle.plan_core.specs.calls.Calls.{cell_start}
use Rattle.plan_tables.proofs.Room.{at_most-sent}
use Rattle.plan_tables.proofs.calls.send_act.Goals as goal

pub overflow_add-result : goal.overflow_add-result
overflow_add-result c =
    let p = c.args.plan.now in
    let e = c.start_at.ensures in
    let s = ap (λ (k : Link). cell_start p k.source) c.link_at-link.ensures in
    let o = ap (λ (k : Link). k.source_offset) c.link_at-link.ensures in
    let f = at_most-sent p c.args.l c.requires.tabled c.requires.link in
    omega (arith, e, s, o, f)
