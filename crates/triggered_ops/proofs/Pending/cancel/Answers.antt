use Rattle.std.proofs.Common.{not, length, refl, ap, arith}
use Rattle.std.proofs.lemmas.List.Filters.{length-filter_both}
use Rattle.triggered_ops.specs.Operations.{waits_on}
use Rattle.triggered_ops.specs.Layout.{operations_in}
use Rattle.triggered_ops.proofs.Rising.{length-filter_le}
use Rattle.triggered_ops.proofs.Laid.{laid-same}
use Rattle.triggered_ops.proofs.Pending.cancel.Goals as goal

pub overflow_sub-result : goal.overflow_sub-result
overflow_sub-result g c =
    let rest = ap length c.drop_all.ensures.rest in
    let le = length-filter_le (λ p. not (waits_on c.args.ct p)) (operations_in c.self.inside.spots.spots) in
    omega (arith, rest, le, c.waiting-before.ensures, c.waiting.ensures)

pub invariant_of-self : goal.invariant_of-self
invariant_of-self g c =
    let i = c.self.inside in
    let e = c.drop_all.ensures in
    let rest = ap length e.rest in
    let le = length-filter_le (λ p. not (waits_on c.args.ct p)) (operations_in i.spots.spots) in
    laid-same i.spots c.drop_all.new.spots i.threads c.drop_all.new.threads i.stamps.items i.given i.limit c.self.invariant e.same
    (rw c.deref.ensures.value at e.hung) e.places (omega (arith, rest, le))

pub returns-clause-number : goal.returns-clause-number
returns-clause-number g c =
    let rest = ap length c.drop_all.ensures.rest in
    let both = length-filter_both (waits_on c.args.ct) (λ p. not (waits_on c.args.ct p)) (λ _. refl)
    (operations_in c.self.inside.spots.spots) in
    rw (← c.self.view_is) (omega (arith, rest, both, c.waiting-before.ensures, c.waiting.ensures))

pub returns-clause-rest : goal.returns-clause-rest
returns-clause-rest g c = rw (← c.self.view_is, c.drop_all.ensures.rest) refl
