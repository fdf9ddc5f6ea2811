use Rattle.std.proofs.Common.{refl, arith}
use Rattle.triggered_ops.proofs.Laid.{laid-within, laid-same, told-length}
use Rattle.triggered_ops.proofs.Pending.reached.Goals as goal

pub tell-requires-clause-within : goal.tell-requires-clause-within
tell-requires-clause-within g c = laid-within c.self.inside.spots c.self.inside.threads c.self.inside.stamps.items c.self.inside.given
    c.self.inside.limit c.self.invariant

pub invariant_of-self : goal.invariant_of-self
invariant_of-self g c =
    let i = c.self.inside in
    let e = c.tell.ensures in
    laid-same i.spots c.tell.new.spots i.threads c.tell.new.threads i.stamps.items i.given i.limit c.self.invariant e.same
    (rw c.deref.ensures.value at e.hung) e.places (let n = told-length i.spots c.tell.new.spots c.args.ct c.args.sum e.told in
    omega (arith, n))

pub returns : goal.returns
returns g c = record { does = rw (← c.self.view_is, c.tell.ensures.told) refl }
