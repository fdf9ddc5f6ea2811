use Rattle.std.proofs.Common.{sym, ◌∙◌, arith}
use Rattle.triggered_ops.proofs.Laid.{laid-kept, length-due, due-numbers_long}
use Rattle.triggered_ops.proofs.Pending.ready_count.Goals as goal

pub overflow_cast-result : goal.overflow_cast-result
overflow_cast-result g c =
    let s = c.self.inside in
    let l = length-due s.spots.spots in
    omega (arith, c.due.ensures, l, c.self.invariant.limited, c.self.invariant.small)

pub returns-clause-value : goal.returns-clause-value
returns-clause-value g c = rw (← c.self.view_is) (c.due.ensures ∙ sym (due-numbers_long c.self.inside.spots.spots))

pub returns-clause-kept : goal.returns-clause-kept
returns-clause-kept g c = rw (← c.self.view_is) (laid-kept c.self.inside.spots c.self.inside.threads c.self.inside.stamps.items
    c.self.inside.given c.self.inside.limit c.self.invariant (omega arith))
