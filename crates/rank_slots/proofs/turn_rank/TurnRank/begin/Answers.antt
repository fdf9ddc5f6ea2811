use Rattle.std.proofs.Common.{◌∙◌, subst, sym, true≢false}
use Rattle.rank_node.specs.Node.{IsNode, IsStarted, NodeState}
use Rattle.rank_slots.proofs.Ties.{tied-start}
use Rattle.rank_slots.proofs.turn_rank.TurnRank.begin.Goals as goal

pub invariant_of-self : goal.invariant_of-self
invariant_of-self c = let s = c.args.self.now in record {
  tied = tied-start s.job.schedule.plan s.job.inputs s.node.value c.start.new.self s.outs.items s.ins.items
      (subst IsNode c.deref.ensures c.recall_history.ensures.kept)
      (subst (λ (n : NodeState). IsStarted n c.start.new.self) c.deref_mut.ensures.value c.start.ensures) s.tied;
}

pub returns-clause-handles : goal.returns-clause-handles
returns-clause-handles c = λ started. absurd (true≢false (sym started ∙ c.requires.first))
