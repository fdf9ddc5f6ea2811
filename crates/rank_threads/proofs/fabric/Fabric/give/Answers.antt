use Rattle.std.proofs.Common.{◌^◌, ◌<◌, ap, subst, sym}
use Rattle.turn_table.specs.declared.views.HandView.{HandView}
use Rattle.rank_node.specs.Node.{IsNode}
use Rattle.rank_slots.specs.declared.turn_rank.TurnRank.{TurnRank}
use Rattle.rank_slots.proofs.Budget.{short-history}
use Rattle.rank_slots.proofs.Chronicles.{as-long}
use Rattle.rank_threads.proofs.Turns.{turned}
use Rattle.rank_threads.proofs.fabric.Fabric.give.Goals as goal

pub give-requires-clause-turn : goal.give-requires-clause-turn
give-requires-clause-turn g c = let t = c.requires.taken in let s = c.args.turn.value in record {
  value = t.taken;
  turn = ap (λ (v : HandView TurnRank). v.turn) t.took.taken;
  grows = t.grows;
  named = t.named;
  short = subst (λ n. n < 2 ^ 62) (sym (as-long s))
      (short-history s.job.schedule.plan s.job.inputs c.requires.sound.plan s.node.value s.tied.compiled
      (subst IsNode c.deref.ensures c.recall_history.ensures.kept) s.tied.strays);
}

pub returns-clause-turned : goal.returns-clause-turned
returns-clause-turned g c = λ v x took. let turn = ap (λ (v : HandView TurnRank). v.turn) took.taken in
    turned v c.args.hand.now.knows c.give.new.hand.knows c.args.turn.slot x c.args.turn.value took (c.give.ensures.given x turn)
    (c.give.ensures.last x turn)
