use Rattle.std.proofs.Common.{sym, ap, ◌∙◌}
use Rattle.triggered_ops.specs.Operations.{Operations, is_due_op, operation_at}
use Rattle.triggered_ops.proofs.Found.{found-here}
use Rattle.triggered_ops.proofs.Pending.is_ready.Goals as goal

pub place_of-requires : goal.place_of-requires
place_of-requires g c = c.self.invariant.rising

pub returns-in-Some : goal.returns-in-Some
returns-in-Some g c =
    let e = found-here c.self.inside.spots.spots c.args.number c.in-Some.place c.self.invariant.rising c.in-Some.ensures.found in
    record {
      value = c.is_due.ensures ∙ sym (ap is_due_op e) ∙ ap (λ (o : Operations _). is_due_op (operation_at c.args.number o))
          c.self.view_is;
    }

pub returns-in-None : goal.returns-in-None
returns-in-None g c = record {
  value = sym (ap is_due_op c.in-None.ensures.none)
      ∙ ap (λ (o : Operations _). is_due_op (operation_at c.args.number o)) c.self.view_is;
}
