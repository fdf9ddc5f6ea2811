use Rattle.std.proofs.Common.{length, refl, ap, ◌∙◌, arith}
use Rattle.std.proofs.lemmas.List.{length-replicate}
use Rattle.triggered_ops.proofs.Laid.{laid-none}
use Rattle.triggered_ops.proofs.Pending.open.Goals as goal

pub invariant_of-result : goal.invariant_of-result
invariant_of-result g c =
    let stamps = c.in-Ok.ensures.items_if_clones_equal (λ y q. q) in
    let long = ap length stamps ∙ length-replicate c.args.events 0 in
    laid-none c.in_ok-spots.spots c.in_ok-threads.threads c.in-Ok.stamps.items c.args.events c.args.limit c.in_ok-spots.ensures
    c.in_ok-threads.ensures long (omega arith) (omega arith)

pub returns : goal.returns
returns g c = record { makes = rw c.in_ok-spots.ensures refl }
