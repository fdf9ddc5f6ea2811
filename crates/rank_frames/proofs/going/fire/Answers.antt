use Rattle.std.proofs.Common.{◌<◌, length, subst, sym}
use Rattle.rank_node.proofs.Nodes.{ready-fewer}
use Rattle.rank_frames.specs.Place.{PlaceState}
use Rattle.rank_frames.proofs.Steps.{fire-goes}
use Rattle.rank_frames.proofs.going.fire.Goals as goal

pub returns-clause-went : goal.returns-clause-went
returns-clause-went g c =
    fire-goes c.args.place.now c.fire-message.new.self c.args.number c.fire-message.result c.send_any.result
    (g.K.Sink.outflow c.args.sink.now) (g.K.Sink.outflow c.send_any.new.sink) c.fire-message.ensures.step
    c.fire-message.ensures.message c.send_any.ensures

pub returns-clause-fewer : goal.returns-clause-fewer
returns-clause-fewer g c =
    let nic = c.args.place.now.node.nic in
    subst (λ (q : PlaceState). length q.node.nic.pending.waiting < length nic.pending.waiting) (sym c.fire-message.ensures.step)
    (ready-fewer nic c.args.number c.requires)
