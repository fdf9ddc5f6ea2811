use Rattle.std.proofs.Common.{◌≡◌, ◌≤◌, length, map, vec_capacity}
use Rattle.rank_node.specs.Node.{IsNode}
use Rattle.rank_slots.specs.declared.turn_rank.TurnRank.{TurnRank}
use Rattle.rank_slots.specs.Lists.{Each}
use Rattle.rank_threads.proofs.close.take_nodes.Given as goal

abbrev pub invariant-loop-slot : goal.invariant-loop-slot
invariant-loop-slot l = record {
  nodes : l.nodes.items ≡ map (λ (x : TurnRank). x.node.value) l.yielded;
  room : length l.fn.slots.items ≤ vec_capacity l.nodes;
  kept : Each IsNode l.nodes.items;
}
