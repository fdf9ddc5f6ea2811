use Rattle.std.proofs.Common.{sym, ◌∙◌, arith}
use Rattle.triggered_ops.specs.Layout.{operations_in}
use Rattle.triggered_ops.proofs.Found.{rising-operations}
use Rattle.triggered_ops.proofs.Laid.{first-due, none-due}
use Rattle.triggered_ops.proofs.Pending.ready.Goals as goal

pub returns-then-due-eq0-clause-none : goal.returns-then-due-eq0-clause-none
returns-then-due-eq0-clause-none g c = rw (← c.self.view_is)
    (none-due (operations_in c.self.inside.spots.spots) (sym c.due.ensures ∙ c.if-due-eq0.true))

pub due_at-requires : goal.due_at-requires
due_at-requires g c = omega (arith, c.due.ensures, c.if-due-eq0.false)

pub returns-else-due-eq0-clause-some : goal.returns-else-due-eq0-clause-some
returns-else-due-eq0-clause-some g c = rw (← c.self.view_is)
    (first-due (operations_in c.self.inside.spots.spots) c.due_at.result
    (rising-operations c.self.inside.spots.spots c.self.invariant.rising) c.due_at.ensures)
