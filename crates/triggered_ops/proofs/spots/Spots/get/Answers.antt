use Rattle.std.proofs.Common.{◌≡◌, ◌<◌, ◌≤◌, length, sym, ap, ◌∙◌, arith}
use Rattle.triggered_ops.specs.declared.spots.Spot.{Spot}
use Rattle.triggered_ops.specs.Layout.{op_of, op_at}
use Rattle.triggered_ops.proofs.Places.{op-get, op-past}
use Rattle.triggered_ops.proofs.spots.Spots.get.Goals as goal

pub returns-then-place-len-clause-found : goal.returns-then-place-len-clause-found
returns-then-place-len-clause-found g c =
    let lt : c.args.place < length c.self.inside.spots.items = omega (arith, c.self.inside.spots.ok.0) in
    let is : op_at c.self.inside.spots.items c.args.place ≡ op_of c.index.result.now =
    op-get c.self.inside.spots.items c.args.place c.index.result.now lt ∙ sym (ap (λ (s : Spot _). op_of s) c.index.ensures) in
    rw (← c.self.view_is, is) c.shown_of.ensures.found

pub returns-then-place-len-clause-none : goal.returns-then-place-len-clause-none
returns-then-place-len-clause-none g c =
    let lt : c.args.place < length c.self.inside.spots.items = omega (arith, c.self.inside.spots.ok.0) in
    let is : op_at c.self.inside.spots.items c.args.place ≡ op_of c.index.result.now =
    op-get c.self.inside.spots.items c.args.place c.index.result.now lt ∙ sym (ap (λ (s : Spot _). op_of s) c.index.ensures) in
    rw (← c.self.view_is, is) c.shown_of.ensures.none

pub returns-else-place-len-clause-none : goal.returns-else-place-len-clause-none
returns-else-place-len-clause-none g c =
    let le : length c.self.inside.spots.items ≤ c.args.place = omega (arith, c.self.inside.spots.ok.0) in
    rw (← c.self.view_is) (op-past c.self.inside.spots.items c.args.place le)
