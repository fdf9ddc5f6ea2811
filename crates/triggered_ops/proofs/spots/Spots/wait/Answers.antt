use Rattle.std.proofs.Common.{◌<◌, ◌≤◌, length, sym, ap, ◌∙◌, arith}
use Rattle.triggered_ops.specs.Layout.{wait_of}
use Rattle.triggered_ops.proofs.Places.{wait-get, wait-past}
use Rattle.triggered_ops.proofs.spots.Spots.wait.Goals as goal

pub returns-then-place-len : goal.returns-then-place-len
returns-then-place-len g c =
    let lt : c.args.place < length c.self.inside.spots.items = omega (arith, c.self.inside.spots.ok.0) in
    rw (← c.self.view_is) (c.wait_of.ensures ∙ ap wait_of c.index.ensures
    ∙ sym (wait-get c.self.inside.spots.items c.args.place c.index.result.now lt))

pub returns-else-place-len : goal.returns-else-place-len
returns-else-place-len g c =
    let le : length c.self.inside.spots.items ≤ c.args.place = omega (arith, c.self.inside.spots.ok.0) in
    rw (← c.self.view_is) (sym (wait-past c.self.inside.spots.items c.args.place le))
