use Rattle.std.proofs.Common.{◌<◌, length, sym, subst, arith}
use Rattle.triggered_ops.specs.Operations.{Operations, due_numbers}
use Rattle.triggered_ops.proofs.Laid.{laid-kept, due-numbers_long}
use Rattle.triggered_ops.proofs.Pending.ready_at.Goals as goal

pub due_at-requires : goal.due_at-requires
due_at-requires g c =
    let lt = subst (λ (o : Operations _). c.args.i < length (due_numbers o)) (sym c.self.view_is) c.requires in
    omega (arith, lt, due-numbers_long c.self.inside.spots.spots, c.from.ensures)

pub returns-clause-value : goal.returns-clause-value
returns-clause-value g c = rw (← c.self.view_is) (rw c.from.ensures at c.due_at.ensures)

pub returns-clause-kept : goal.returns-clause-kept
returns-clause-kept g c = rw (← c.self.view_is) (laid-kept c.self.inside.spots c.self.inside.threads c.self.inside.stamps.items
    c.self.inside.given c.self.inside.limit c.self.invariant (omega arith))
