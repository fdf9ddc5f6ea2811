use Rattle.std.proofs.Common.{None, cond, nat_eq, sym, ap, subst, ◌∙◌}
use Rattle.chain_list.specs.threads.Threads.{Woven, without_place}
use Rattle.triggered_ops.specs.Hung.{IsHung}
use Rattle.triggered_ops.specs.Layout.{Spotted, wait_at}
use Rattle.triggered_ops.proofs.Hanging.{unhung, hung-same}
use Rattle.triggered_ops.proofs.Places.{emptied-at}
use Rattle.triggered_ops.proofs.parts.take_out.Goals as goal

pub returns-clause-hung : goal.returns-clause-hung
returns-clause-hung g c = λ stamps h.
    let at = wait_at c.args.spots.now.spots in
    let off = unhung at c.args.threads.now stamps h c.args.place in
    subst (λ v. IsHung (wait_at c.take.new.self.spots) v stamps) (sym c.unlink.ensures)
    (hung-same (λ q. cond (nat_eq q c.args.place) None (at q)) (wait_at c.take.new.self.spots)
    (without_place c.args.place c.args.threads.now) stamps
    (λ q. ap (λ (s : Spotted _). wait_at s.spots q) c.take.ensures.rest ∙ emptied-at c.args.place c.args.spots.now.spots q) off)

pub returns-clause-places : goal.returns-clause-places
returns-clause-places g c = ap (λ (w : Woven). w.places) c.unlink.ensures
