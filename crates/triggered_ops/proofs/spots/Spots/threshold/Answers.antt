use Rattle.std.proofs.Common.{◌≡◌, true, sym, ap, subst, ◌∙◌, arith}
use Rattle.std.specs.Prelude.{is_some}
use Rattle.triggered_ops.specs.Hung.{threshold_of}
use Rattle.triggered_ops.specs.Layout.{Spotted, wait_of, wait_at}
use Rattle.triggered_ops.proofs.Places.{wait-get, wait-within, threshold-is}
use Rattle.triggered_ops.proofs.spots.Spots.threshold.Goals as goal

pub index-requires : goal.index-requires
index-requires g c =
    let e = subst (λ (s : Spotted _). is_some (wait_at s.spots c.args.place) ≡ true) (sym c.self.view_is) c.requires in
    let w = wait-within c.self.inside.spots.items c.args.place e in
    omega (arith, w, c.self.inside.spots.ok.0)

pub returns : goal.returns
returns g c =
    let e = subst (λ (s : Spotted _). is_some (wait_at s.spots c.args.place) ≡ true) (sym c.self.view_is) c.requires in
    let found = c.index.result.now in
    let is = wait-get c.self.inside.spots.items c.args.place found (wait-within c.self.inside.spots.items c.args.place e)
    ∙ sym (ap wait_of c.index.ensures) in
    rw (← c.self.view_is) (threshold-is found (sym (ap is_some is) ∙ e) ∙ sym (ap threshold_of is))
