use Rattle.std.proofs.Common.{IsTrue, subst, sym}
use Rattle.ni_model.specs.Ready.{is_ready}
use Rattle.rank_node.proofs.Nodes.{fire-node}
use Rattle.rank_frames.specs.Place.{PlaceState}
use Rattle.rank_frames.proofs.Placed.{placed-fire}
use Rattle.rank_frames.proofs.place.Place.fire.Goals as goal

pub invariant_of-self : goal.invariant_of-self
invariant_of-self c =
    let p : PlaceState = record { me = c.self.inside.me; node = c.self.inside.node; due = c.self.inside.due } in
    let ready : IsTrue (is_ready p.node.nic c.args.number) = subst (λ (q : PlaceState). IsTrue (is_ready q.node.nic c.args.number))
    (sym c.self.view_is) c.requires in
    rw c.fire.ensures.step (placed-fire p c.args.number c.self.invariant (fire-node p.node c.args.number ready c.self.invariant.node))
