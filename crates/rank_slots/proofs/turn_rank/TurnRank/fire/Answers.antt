use Rattle.std.proofs.Common.{◌≡◌, ◌∙◌, map, sym, ap, refl, subst}
use Rattle.cuts.specs.histories.History.{made_by}
use Rattle.cuts.specs.histories.History.Local.{Fire}
use Rattle.rank_node.specs.Handles.{slots_of}
use Rattle.rank_node.specs.Node.{IsNode, NodeState, fired_node}
use Rattle.rank_slots.specs.Joints.{out_joint}
use Rattle.rank_slots.specs.Ports.{AreEnds, Posted, Regated}
use Rattle.rank_slots.proofs.Pairs.{pairs_map}
use Rattle.rank_slots.proofs.Gates.{same-joint}
use Rattle.rank_slots.proofs.Sends.{node-of}
use Rattle.rank_slots.proofs.Fires.{fire-free, fired-went}
use Rattle.rank_slots.proofs.Ties.{ends-of, heard-regated, may-post, named, not-heard, still-heard, tied-step, went-regated}
use Rattle.rank_slots.proofs.turn_rank.TurnRank.fire.Goals as goal

pub pass_on-waits-requires-clause-ends : goal.pass_on-waits-requires-clause-ends
pass_on-waits-requires-clause-ends g c = let s = c.args.self.now in
    let step : c.fire-made.new.self ≡ fired_node c.args.number s.node.value = c.fire-made.ensures.step
    ∙ ap (fired_node c.args.number) c.deref_mut.ensures.value in
    subst (λ (n : NodeState). AreEnds c.args.network.wires.now n.closed s.outs.items) (sym (c.deref_mut-2.ensures.value ∙ step))
    (ends-of s.job.schedule.plan s.job.inputs c.args.network.wires.now s.node.value s.outs.items s.ins.items c.requires.wired.outs
    (subst IsNode c.deref.ensures c.recall_history.ensures.kept) s.tied)

pub pass_on-waits-requires-clause-may : goal.pass_on-waits-requires-clause-may
pass_on-waits-requires-clause-may g c = let s = c.args.self.now in let p = s.job.schedule.plan in let n = s.node.value in
    let t = c.args.number in
    let is = subst IsNode c.deref.ensures c.recall_history.ensures.kept in
    let step : c.fire-made.new.self ≡ fired_node t n = c.fire-made.ensures.step ∙ ap (fired_node t) c.deref_mut.ensures.value in
    let went = fired-went n c.fire-made.new.self t step in
    let by : c.fire-made.result ≡ made_by n.nic (Fire t) = c.fire-made.ensures.message ∙ ap (λ (m : NodeState). made_by m.nic (Fire t))
    c.deref_mut.ensures.value in
    may-post p s.job.inputs c.requires.sound.plan n c.fire-made.new.self (Fire t) c.fire-made.result s.outs.items s.ins.items is
    (subst IsNode c.deref-2.ensures c.recall_history-2.ensures.kept) went by
    (still-heard p s.job.inputs n c.fire-made.new.self (Fire t) went (λ s lane. refl) s.tied.heard) s.tied
    (λ i o m a made f. fire-free p (slots_of n.kept) n.task.rank n t s.outs.items
    (node-of p s.job.inputs c.requires.sound.plan n s.tied.compiled is) c.requires.open s.tied.gated i o m a (sym by ∙ made) f)

pub invariant_of-self : goal.invariant_of-self
invariant_of-self g c = let s = c.args.self.now in let p = s.job.schedule.plan in let n = s.node.value in let t = c.args.number in
    let e = c.pass_on-waits.ensures in
    let step : c.fire-made.new.self ≡ fired_node t n = c.fire-made.ensures.step ∙ ap (fired_node t) c.deref_mut.ensures.value in
    let re = subst (λ (m : NodeState). Regated m c.pass_on-waits.new.node) c.deref_mut-2.ensures.value e.node in
    let went = fired-went n c.fire-made.new.self t step in
    let by : c.fire-made.result ≡ made_by n.nic (Fire t) = c.fire-made.ensures.message ∙ ap (λ (m : NodeState). made_by m.nic (Fire t))
    c.deref_mut.ensures.value in record {
      tied = tied-step p s.job.inputs n c.pass_on-waits.new.node (Fire t) c.fire-made.result s.outs.items c.pass_on-waits.new.outs.items
          s.ins.items s.ins.items (subst IsNode c.deref.ensures c.recall_history.ensures.kept)
          (went-regated p s.job.inputs n c.fire-made.new.self c.pass_on-waits.new.node (Fire t) went re) by e.posted
          (not-heard p s.job.inputs (Fire t) s.ins.items (λ s lane. refl)) e.ends.gated
          (heard-regated p s.job.inputs c.fire-made.new.self c.pass_on-waits.new.node re
          (still-heard p s.job.inputs n c.fire-made.new.self (Fire t) went (λ s lane. refl) s.tied.heard)) s.tied;
    }

pub returns-clause-name : goal.returns-clause-name
returns-clause-name g c = let s = c.args.self.now in let n = s.node.value in let t = c.args.number in let e = c.pass_on-waits.ensures in
    let step : c.fire-made.new.self ≡ fired_node t n = c.fire-made.ensures.step ∙ ap (fired_node t) c.deref_mut.ensures.value in
    let re = subst (λ (m : NodeState). Regated m c.pass_on-waits.new.node) c.deref_mut-2.ensures.value e.node in
    named s.job _ n.task c.pass_on-waits.new.node.task (map out_joint s.outs.items) (map out_joint c.pass_on-waits.new.outs.items)
    (ap (λ (n : NodeState). n.task) re.same ∙ ap (λ (n : NodeState). n.task) step)
    (pairs_map (Posted c.fire-made.result) out_joint s.outs.items c.pass_on-waits.new.outs.items (λ x y f. sym (same-joint x y f.same))
    e.posted)

pub returns-clause-handles : goal.returns-clause-handles
returns-clause-handles g c = λ _. let n = c.args.self.now.node.value in let t = c.args.number in
    let step : c.fire-made.new.self ≡ fired_node t n = c.fire-made.ensures.step ∙ ap (fired_node t) c.deref_mut.ensures.value in
    let re = subst (λ (m : NodeState). Regated m c.pass_on-waits.new.node) c.deref_mut-2.ensures.value c.pass_on-waits.ensures.node in
    ap (λ (n : NodeState). n.kept) re.same ∙ ap (λ (n : NodeState). n.kept) step
