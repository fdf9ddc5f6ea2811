use Rattle.std.proofs.Common.{refl, subst}
use Rattle.turn_table.specs.Hands.{IsHandOf}
use Rattle.rank_node.specs.Node.{IsNode}
use Rattle.rank_threads.specs.Fabrics.{FabricState, IsFabric}
use Rattle.rank_threads.proofs.Taking.{has-taken}
use Rattle.rank_threads.proofs.fabric.Fabric.try_take.Goals as goal

pub returns-clause-some : goal.returns-clause-some
returns-clause-some g c =
    let t = c.in-Some.ensures in
    has-taken c.args.self.now (subst (λ (f : FabricState). IsFabric f.job f.turns.start f.wires) c.self.view_is c.self.invariant.fabric)
    c.args.hand.now c.args.rank c.in-Some.turn _ c.requires.rank c.requires.hand t.taken.0
    (subst IsNode c.deref.ensures c.recall_history.ensures.kept)
    (subst (λ (f : FabricState). IsHandOf f.turns c.try_take.new.hand) c.self.view_is t.hand)
    (record { tried = c.args.hand.now.knows; alike = refl; elsewhere = λ j other. refl; taken = t.taken.1; found = t.found })
