use Rattle.std.proofs.Common.{◌≡◌, ◌∙◌, ◌++◌, ◌∷◌, [], List, sym, refl, subst}
use Rattle.std.specs.Prelude.{Option, Some, None, IfSome}
use Rattle.atomic_table.proofs.Lists.{at_index}
use Rattle.ptl_types.specs.Messages.{Sent}
use Rattle.pair_wires.specs.declared.bounds.Bounds.{Bounds}
use Rattle.pair_wires.specs.Bounds.{KeepsBounds}
use Rattle.rank_slots.proofs.posts.pop_at.Goals as goal

pub pop-requires : goal.pop-requires
pop-requires g c = c.requires.is c.index-wires-port.result (at_index c.args.wires.now c.args.port.now.wire c.index-wires-port.result
    c.requires.inside c.index-wires-port.is)

pub returns-clause-same : goal.returns-clause-same
returns-clause-same g c =
    let was = c.requires.is c.index-wires-port.result (at_index c.args.wires.now c.args.port.now.wire c.index-wires-port.result
    c.requires.inside c.index-wires-port.is) in
    let now = c.pop.ensures.wire in
    record { source = refl; lane = refl; number = refl; wire = now.0 ∙ sym was.0; bounds = now.1 ∙ sym was.1 }

of_wire : (o : Option Sent) (b c : Bounds) (old new : List Sent) (e : Type 0) → b ≡ c → IfSome o (λ m. (new ≡ old ++ m ∷ []) × e) →
    IfSome o (λ _. KeepsBounds b new) → IfSome o (λ m. (new ≡ old ++ m ∷ []) × KeepsBounds c new)
of_wire None b c old new e is h k = tt
of_wire (Some m) b c old new e is h k = (h.0, subst (λ x. KeepsBounds x new) is k)

pub returns-clause-some : goal.returns-clause-some
returns-clause-some g c =
    let was = c.requires.is c.index-wires-port.result (at_index c.args.wires.now c.args.port.now.wire c.index-wires-port.result
    c.requires.inside c.index-wires-port.is) in
    of_wire c.pop.result c.index-wires-port.result.bounds c.args.port.now.end.bounds c.args.port.now.end.received c.pop.new.end.received _
    (sym was.1) c.pop.ensures.popped c.pop.ensures.bounds
