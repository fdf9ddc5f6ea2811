use Rattle.std.proofs.Common.{map, sym, ap, subst}
use Rattle.rank_node.specs.Node.{IsNode, NodeState}
use Rattle.rank_slots.specs.Joints.{out_joint}
use Rattle.rank_slots.specs.Ports.{AreEnds, Flushed, Regated}
use Rattle.rank_slots.proofs.Pairs.{pairs_map}
use Rattle.rank_slots.proofs.Gates.{same-joint}
use Rattle.rank_slots.proofs.Ties.{ends-of, named, tied-flushed}
use Rattle.rank_slots.proofs.turn_rank.TurnRank.flush.Goals as goal

pub flush_all-free-requires : goal.flush_all-free-requires
flush_all-free-requires g c = let s = c.args.self.now in
    subst (λ (n : NodeState). AreEnds c.args.network.wires.now n.closed s.outs.items) (sym c.deref_mut.ensures.value)
    (ends-of s.job.schedule.plan s.job.inputs c.args.network.wires.now s.node.value s.outs.items s.ins.items c.requires.wired.outs
    (subst IsNode c.deref.ensures c.recall_history.ensures.kept) s.tied)

pub invariant_of-self : goal.invariant_of-self
invariant_of-self g c = let s = c.args.self.now in let f = c.flush_all-free.ensures in record {
  tied = tied-flushed s.job.schedule.plan s.job.inputs s.node.value c.flush_all-free.new.node s.outs.items c.flush_all-free.new.outs.items
      s.ins.items
      (subst (λ (n : NodeState). Regated n c.flush_all-free.new.node) c.deref_mut.ensures.value f.node) f.flushed f.ends.gated s.tied;
}

pub returns-clause-name : goal.returns-clause-name
returns-clause-name g c = let s = c.args.self.now in let f = c.flush_all-free.ensures in let re =
    subst (λ (n : NodeState). Regated n
    c.flush_all-free.new.node)
    c.deref_mut.ensures.value f.node in
    named s.job _ s.node.value.task c.flush_all-free.new.node.task (map out_joint s.outs.items)
    (map out_joint c.flush_all-free.new.outs.items) (ap (λ (n : NodeState). n.task) re.same)
    (pairs_map Flushed out_joint s.outs.items c.flush_all-free.new.outs.items (λ x y f. sym (same-joint x y f.same)) f.flushed)
