use Rattle.std.proofs.Common.{subst}
use Rattle.turn_table.specs.Hands.{IsHandOf}
use Rattle.rank_node.specs.Node.{IsNode}
use Rattle.rank_threads.specs.Fabrics.{FabricState, IsFabric}
use Rattle.rank_threads.proofs.Taking.{has-taken}
use Rattle.rank_threads.proofs.fabric.Fabric.take.Goals as goal

pub returns : goal.returns
returns g c =
    has-taken c.args.self.now (subst (λ (f : FabricState). IsFabric f.job f.turns.start f.wires) c.self.view_is c.self.invariant.fabric)
    c.args.hand.now c.args.rank c.take-turn.result _ c.requires.rank c.requires.hand c.take-turn.ensures.taken.0
    (subst IsNode c.deref.ensures c.recall_history.ensures.kept)
    (subst (λ (f : FabricState). IsHandOf f.turns c.take-turn.new.hand) c.self.view_is c.take-turn.ensures.hand) c.take-turn.ensures.taken.1
