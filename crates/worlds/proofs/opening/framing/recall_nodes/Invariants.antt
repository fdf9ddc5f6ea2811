use Rattle.std.proofs.Common.{ℕ, ◌<◌}
use Rattle.rank_node.specs.Node.{IsNode}
use Rattle.worlds.specs.parts.Layout.{node_at}
use Rattle.worlds.proofs.opening.framing.recall_nodes.Given as goal

abbrev pub invariant-loop-r : goal.invariant-loop-r
invariant-loop-r l = (k : ℕ) → k < l.r → IsNode (node_at l.nodes k)
