use Rattle.std.proofs.Common.{rules, ◌∙◌, ◌++◌, ◌∷◌, [], ap₂, subst, sym}
use Rattle.rank_node.specs.Node.{IsNode}
use Rattle.rank_slots.specs.declared.turn_rank.TurnRank.{TurnRank}
use Rattle.rank_slots.specs.Lists.{Each}
use Rattle.rank_slots.proofs.Snocs.{each_snoc, map_snoc}
use Rattle.rank_threads.proofs.close.take_nodes.Goals as goal

pub loop-slot-preserved : goal.loop-slot-preserved
loop-slot-preserved c = let i = c.loop-slot.invariant in let p = c.push_reserved.ensures.items in let old = c.loop-slot.nodes.items in
    record {
      nodes = p ∙ (ap₂ (λ l x. l ++ x ∷ []) i.nodes c.into_inner-node.ensures
          ∙ sym (map_snoc (λ (x : TurnRank). x.node.value) c.loop-slot.yielded c.in-Some.slot));
      room = search (rules, c.push_reserved.ensures, i.room);
      kept = subst (Each IsNode) (sym p) (each_snoc IsNode old c.into_inner-node.result i.kept c.recall_history.ensures.kept);
    }
