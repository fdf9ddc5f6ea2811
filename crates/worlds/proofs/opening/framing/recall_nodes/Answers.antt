-- One node more in each turn.
use Rattle.std.proofs.Common.{below_more, subst}
use Rattle.std.proofs.lemmas.List.{get_or_read}
use Rattle.rank_node.specs.Node.{IsNode}
use Rattle.worlds.specs.parts.Layout.{no_node, node_at}
use Rattle.worlds.proofs.opening.framing.recall_nodes.Goals as goal

pub loop-r-preserved : goal.loop-r-preserved
loop-r-preserved c =
    let nodes = c.args.nodes.now in
    let r = c.loop-r.r in
    below_more (λ k. IsNode (node_at nodes k)) r c.loop-r.invariant
    (subst IsNode (get_or_read nodes r c.index-nodes-r.result c.loop-r-test.true c.index-nodes-r.is no_node) c.recall_history.ensures.kept)
