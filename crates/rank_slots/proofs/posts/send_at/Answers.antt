use Rattle.std.proofs.Common.{◌∙◌, ◌++◌, ◌∷◌, [], sym, refl, subst}
use Rattle.atomic_table.proofs.Lists.{at_index}
use Rattle.pair_wires.specs.declared.bounds.Bounds.{Bounds}
use Rattle.pair_wires.specs.Bounds.{KeepsBounds}
use Rattle.rank_slots.proofs.posts.send_at.Goals as goal

pub send-requires-clause-wire : goal.send-requires-clause-wire
send-requires-clause-wire g c = c.requires.wired.is c.index-wires-port.result
    (at_index c.args.wires.now c.args.port.now.wire c.index-wires-port.result c.requires.wired.inside c.index-wires-port.is)

pub send-requires-clause-bounds : goal.send-requires-clause-bounds
send-requires-clause-bounds g c =
    let was = c.requires.wired.is c.index-wires-port.result (at_index c.args.wires.now c.args.port.now.wire c.index-wires-port.result
    c.requires.wired.inside c.index-wires-port.is) in
    subst (λ (b : Bounds). KeepsBounds b (c.args.port.now.end.sent ++ c.args.message ∷ [])) was.1 c.requires.bounds

pub returns-clause-same : goal.returns-clause-same
returns-clause-same g c =
    let was = c.requires.wired.is c.index-wires-port.result (at_index c.args.wires.now c.args.port.now.wire c.index-wires-port.result
    c.requires.wired.inside c.index-wires-port.is) in
    let now = c.send.ensures.wire in
    record { target = refl; lane = refl; number = refl; wire = now.0 ∙ sym was.0; bounds = now.1 ∙ sym was.1 }
