use Rattle.std.proofs.Common.{◌≡◌, ◌<◌, ◌≤◌, ◌∙◌, map, length, set, sym, ap, refl, subst, inl, length-set}
use Rattle.cuts.specs.histories.History.{IsDue, got, made_by}
use Rattle.cuts.specs.histories.History.Local.{Receive}
use Rattle.atomic_table.proofs.Lists.{at_index, at_map, set_else, set_here}
use Rattle.rank_node.specs.Node.{IsNode, NodeState, received_node}
use Rattle.rank_slots.specs.declared.ports.InPort.{InPort}
use Rattle.rank_slots.specs.Joints.{in_joint, out_joint}
use Rattle.rank_slots.specs.Lanes.{bounds_on}
use Rattle.rank_slots.specs.Ports.{AreEnds, Heard, Posted, Regated}
use Rattle.rank_slots.specs.Slots.{HasHeard}
use Rattle.rank_slots.specs.Missing.{Missed}
use Rattle.rank_slots.proofs.Pairs.{pairs_map, same_at}
use Rattle.rank_slots.proofs.Gates.{lane-is, same-joint}
use Rattle.rank_slots.proofs.Sends.{node-rank}
use Rattle.rank_slots.proofs.Budget.{has-room}
use Rattle.rank_slots.proofs.Receives.{answer-free, due-of, heard-more, heard-set, popped-keeps, received-went, travelled}
use Rattle.rank_slots.proofs.Ties.{Kept, ends-of, heard-regated, kept-set, may-post, named-all, same-in-joint, tied-ins, tied-step}
use Rattle.rank_slots.proofs.Ties.{went-regated}
use Rattle.rank_slots.proofs.turn_rank.TurnRank.receive.Goals as goal

pub pop_at-requires : goal.pop_at-requires
pop_at-requires g c =
    let s = c.args.self.now in let p = s.job.schedule.plan in let n = s.node.value in let ins = s.ins.items in
    let o = c.index_mut-port.result.now in
    let there = at_index ins c.args.at o c.requires.at c.index_mut-port.ensures.value in
    c.requires.wired.ins c.args.at (in_joint o) (at_map in_joint ins c.args.at o there)

pub invariant_of-self : goal.invariant_of-self
invariant_of-self g c =
    let s = c.args.self.now in let p = s.job.schedule.plan in let n = s.node.value in let ins = s.ins.items in
    let o = c.index_mut-port.result.now in
    let there = at_index ins c.args.at o c.requires.at c.index_mut-port.ensures.value in
    record {
      tied = tied-ins p s.job.inputs n s.outs.items ins (set ins c.args.at c.pop_at.new.port)
          (kept-set ins c.args.at o c.pop_at.new.port there (c.pop_at.ensures.same, (c.in_default.ensures).none.0)) s.tied;
    }

pub returns-in_default-clause-none : goal.returns-in_default-clause-none
returns-in_default-clause-none g c = λ f.
    let s = c.args.self.now in let p = s.job.schedule.plan in let n = s.node.value in let ins = s.ins.items in
    let o = c.index_mut-port.result.now in
    let there = at_index ins c.args.at o c.requires.at c.index_mut-port.ensures.value in
    let q = c.pop_at.new.port in let none = (c.in_default.ensures).none in record {
      node = refl;
      outs = refl;
      many = length-set ins c.args.at q;
      others = λ j apart. set_else ins c.args.at j q apart;
      here = λ x y a b. subst (λ (z : InPort × InPort). Missed n s.outs.items z.0 z.1)
          (λ i. (
            same_at ins c.args.at o x there a i,
            same_at (set ins c.args.at q) c.args.at q y (set_here ins c.args.at q c.requires.at)
                b i,
          ))
          (record { same = c.pop_at.ensures.same; received = none.0; why = inl none.1 });
    }

pub returns-in_default-clause-name : goal.returns-in_default-clause-name
returns-in_default-clause-name g c =
    let s = c.args.self.now in let p = s.job.schedule.plan in let n = s.node.value in let ins = s.ins.items in
    let o = c.index_mut-port.result.now in
    let there = at_index ins c.args.at o c.requires.at c.index_mut-port.ensures.value in
    let q = c.pop_at.new.port in
    named-all s.job n.task n.task (map out_joint s.outs.items) (map out_joint s.outs.items) (map in_joint ins)
    (map in_joint (set ins c.args.at q)) refl refl
    (pairs_map Kept in_joint ins (set ins c.args.at q) (λ x y k. same-in-joint x y k.0)
    (kept-set ins c.args.at o q there (c.pop_at.ensures.same, (c.in_default.ensures).none.0)))

pub receive-answer-requires-clause-source : goal.receive-answer-requires-clause-source
receive-answer-requires-clause-source g c =
    let s = c.args.self.now in let p = s.job.schedule.plan in let n = s.node.value in let ins = s.ins.items in
    let o = c.index_mut-port.result.now in
    let there = at_index ins c.args.at o c.requires.at c.index_mut-port.ensures.value in
    let q = c.pop_at.new.port in let m = c.in-Some.message in let got_it = (c.in-Some.ensures).some in
    let is = subst IsNode c.deref.ensures c.recall_history.ensures.kept in
    let keeps = popped-keeps p n o m q.end.received (s.tied.into c.args.at o there) got_it.0 got_it.1 in
    let t = travelled (bounds_on p o.source n.task.rank o.lane) (got n.diary.locals o.source o.lane) m keeps in
    t.0

pub receive-answer-requires-clause-target : goal.receive-answer-requires-clause-target
receive-answer-requires-clause-target g c =
    let s = c.args.self.now in let p = s.job.schedule.plan in let n = s.node.value in let ins = s.ins.items in
    let o = c.index_mut-port.result.now in
    let there = at_index ins c.args.at o c.requires.at c.index_mut-port.ensures.value in
    let q = c.pop_at.new.port in let m = c.in-Some.message in let got_it = (c.in-Some.ensures).some in
    let is = subst IsNode c.deref.ensures c.recall_history.ensures.kept in
    let keeps = popped-keeps p n o m q.end.received (s.tied.into c.args.at o there) got_it.0 got_it.1 in
    let t = travelled (bounds_on p o.source n.task.rank o.lane) (got n.diary.locals o.source o.lane) m keeps in
    t.1 ∙ (sym (node-rank p s.job.inputs c.requires.sound.plan n s.tied.compiled is)
    ∙ ap (λ (x : NodeState). x.nic.rank) (sym c.deref_mut.ensures.value))

pub receive-answer-requires-clause-lane : goal.receive-answer-requires-clause-lane
receive-answer-requires-clause-lane g c =
    let s = c.args.self.now in let p = s.job.schedule.plan in let n = s.node.value in let ins = s.ins.items in
    let o = c.index_mut-port.result.now in
    let there = at_index ins c.args.at o c.requires.at c.index_mut-port.ensures.value in
    let q = c.pop_at.new.port in let m = c.in-Some.message in let got_it = (c.in-Some.ensures).some in
    let is = subst IsNode c.deref.ensures c.recall_history.ensures.kept in
    let keeps = popped-keeps p n o m q.end.received (s.tied.into c.args.at o there) got_it.0 got_it.1 in
    let t = travelled (bounds_on p o.source n.task.rank o.lane) (got n.diary.locals o.source o.lane) m keeps in
    lane-is o.lane m.header.kind t.2

pub receive-answer-requires-clause-due : goal.receive-answer-requires-clause-due
receive-answer-requires-clause-due g c =
    let s = c.args.self.now in let p = s.job.schedule.plan in let n = s.node.value in let ins = s.ins.items in
    let o = c.index_mut-port.result.now in
    let there = at_index ins c.args.at o c.requires.at c.index_mut-port.ensures.value in
    subst (λ (x : NodeState). IsDue x.nic o.lane c.in-Some.message) (sym c.deref_mut.ensures.value)
    (due-of n.nic o.lane c.in-Some.message (c.requires.due o there))

pub receive-answer-requires-clause-receipts : goal.receive-answer-requires-clause-receipts
receive-answer-requires-clause-receipts g c =
    let s = c.args.self.now in let p = s.job.schedule.plan in let n = s.node.value in let ins = s.ins.items in
    let o = c.index_mut-port.result.now in
    let there = at_index ins c.args.at o c.requires.at c.index_mut-port.ensures.value in
    let q = c.pop_at.new.port in let m = c.in-Some.message in let got_it = (c.in-Some.ensures).some in
    let is = subst IsNode c.deref.ensures c.recall_history.ensures.kept in
    let keeps = popped-keeps p n o m q.end.received (s.tied.into c.args.at o there) got_it.0 got_it.1 in
    let t = travelled (bounds_on p o.source n.task.rank o.lane) (got n.diary.locals o.source o.lane) m keeps in
    subst (λ (x : NodeState). 0 < x.diary.receipts) (sym c.deref_mut.ensures.value)
    (has-room p s.job.inputs n o.source o.lane m s.tied.compiled is s.tied.strays
    (heard-more p n o.source o.lane m s.tied.heard keeps)).receipts

pub receive-answer-requires-clause-bytes : goal.receive-answer-requires-clause-bytes
receive-answer-requires-clause-bytes g c =
    let s = c.args.self.now in let p = s.job.schedule.plan in let n = s.node.value in let ins = s.ins.items in
    let o = c.index_mut-port.result.now in
    let there = at_index ins c.args.at o c.requires.at c.index_mut-port.ensures.value in
    let q = c.pop_at.new.port in let m = c.in-Some.message in let got_it = (c.in-Some.ensures).some in
    let is = subst IsNode c.deref.ensures c.recall_history.ensures.kept in
    let keeps = popped-keeps p n o m q.end.received (s.tied.into c.args.at o there) got_it.0 got_it.1 in
    let t = travelled (bounds_on p o.source n.task.rank o.lane) (got n.diary.locals o.source o.lane) m keeps in
    subst (λ (x : NodeState). length m.bytes ≤ x.diary.bytes) (sym c.deref_mut.ensures.value)
    (has-room p s.job.inputs n o.source o.lane m s.tied.compiled is s.tied.strays
    (heard-more p n o.source o.lane m s.tied.heard keeps)).bytes

pub pass_on-waits-requires-clause-ends : goal.pass_on-waits-requires-clause-ends
pass_on-waits-requires-clause-ends g c =
    let s = c.args.self.now in let p = s.job.schedule.plan in let n = s.node.value in let ins = s.ins.items in
    let o = c.index_mut-port.result.now in
    let there = at_index ins c.args.at o c.requires.at c.index_mut-port.ensures.value in
    let q = c.pop_at.new.port in let m = c.in-Some.message in let got_it = (c.in-Some.ensures).some in
    let is = subst IsNode c.deref.ensures c.recall_history.ensures.kept in
    let keeps = popped-keeps p n o m q.end.received (s.tied.into c.args.at o there) got_it.0 got_it.1 in
    let t = travelled (bounds_on p o.source n.task.rank o.lane) (got n.diary.locals o.source o.lane) m keeps in
    let step : c.receive-answer.new.self ≡ received_node o.source o.lane m n = c.receive-answer.ensures.step
    ∙ ap (received_node o.source o.lane m) c.deref_mut.ensures.value in
    let went = received-went n c.receive-answer.new.self o.source o.lane m step in
    let by : c.receive-answer.result ≡ made_by n.nic (Receive o.source o.lane m) = c.receive-answer.ensures.answer
    ∙ ap (λ (x : NodeState). made_by x.nic (Receive o.source o.lane m)) c.deref_mut.ensures.value in
    let heard : HasHeard p c.receive-answer.new.self = subst (HasHeard p) (sym step) (heard-more p n o.source o.lane m s.tied.heard keeps)
    in
    subst (λ (x : NodeState). AreEnds c.args.network.wires.now x.closed s.outs.items) (sym (c.deref_mut-2.ensures.value ∙ step))
    (ends-of p s.job.inputs c.args.network.wires.now n s.outs.items ins c.requires.wired.outs is s.tied)

pub pass_on-waits-requires-clause-may : goal.pass_on-waits-requires-clause-may
pass_on-waits-requires-clause-may g c =
    let s = c.args.self.now in let p = s.job.schedule.plan in let n = s.node.value in let ins = s.ins.items in
    let o = c.index_mut-port.result.now in
    let there = at_index ins c.args.at o c.requires.at c.index_mut-port.ensures.value in
    let q = c.pop_at.new.port in let m = c.in-Some.message in let got_it = (c.in-Some.ensures).some in
    let is = subst IsNode c.deref.ensures c.recall_history.ensures.kept in
    let keeps = popped-keeps p n o m q.end.received (s.tied.into c.args.at o there) got_it.0 got_it.1 in
    let t = travelled (bounds_on p o.source n.task.rank o.lane) (got n.diary.locals o.source o.lane) m keeps in
    let step : c.receive-answer.new.self ≡ received_node o.source o.lane m n = c.receive-answer.ensures.step
    ∙ ap (received_node o.source o.lane m) c.deref_mut.ensures.value in
    let went = received-went n c.receive-answer.new.self o.source o.lane m step in
    let by : c.receive-answer.result ≡ made_by n.nic (Receive o.source o.lane m) = c.receive-answer.ensures.answer
    ∙ ap (λ (x : NodeState). made_by x.nic (Receive o.source o.lane m)) c.deref_mut.ensures.value in
    let heard : HasHeard p c.receive-answer.new.self = subst (HasHeard p) (sym step) (heard-more p n o.source o.lane m s.tied.heard keeps)
    in
    may-post p s.job.inputs c.requires.sound.plan n c.receive-answer.new.self (Receive o.source o.lane m) c.receive-answer.result
    s.outs.items ins is (subst IsNode c.deref-3.ensures c.recall_history-2.ensures.kept) went by heard s.tied
    (λ i x a at made f. answer-free n.nic o.lane m o.source s.outs.items t.0 (lane-is o.lane m.header.kind t.2) (c.requires.open o there)
    i x a at (sym by ∙ made) f)

pub invariant_of-self-2 : goal.invariant_of-self-2
invariant_of-self-2 g c =
    let s = c.args.self.now in let p = s.job.schedule.plan in let n = s.node.value in let ins = s.ins.items in
    let o = c.index_mut-port.result.now in
    let there = at_index ins c.args.at o c.requires.at c.index_mut-port.ensures.value in
    let q = c.pop_at.new.port in let m = c.in-Some.message in let got_it = (c.in-Some.ensures).some in
    let is = subst IsNode c.deref.ensures c.recall_history.ensures.kept in
    let keeps = popped-keeps p n o m q.end.received (s.tied.into c.args.at o there) got_it.0 got_it.1 in
    let t = travelled (bounds_on p o.source n.task.rank o.lane) (got n.diary.locals o.source o.lane) m keeps in
    let step : c.receive-answer.new.self ≡ received_node o.source o.lane m n = c.receive-answer.ensures.step
    ∙ ap (received_node o.source o.lane m) c.deref_mut.ensures.value in
    let went = received-went n c.receive-answer.new.self o.source o.lane m step in
    let by : c.receive-answer.result ≡ made_by n.nic (Receive o.source o.lane m) = c.receive-answer.ensures.answer
    ∙ ap (λ (x : NodeState). made_by x.nic (Receive o.source o.lane m)) c.deref_mut.ensures.value in
    let heard : HasHeard p c.receive-answer.new.self = subst (HasHeard p) (sym step) (heard-more p n o.source o.lane m s.tied.heard keeps)
    in
    let e = c.pass_on-waits.ensures in
    let re = subst (λ (x : NodeState). Regated x c.pass_on-waits.new.node) c.deref_mut-2.ensures.value e.node in record {
      tied = tied-step p s.job.inputs n c.pass_on-waits.new.node (Receive o.source o.lane m) c.receive-answer.result s.outs.items
          c.pass_on-waits.new.outs.items ins (set ins c.args.at q) is
          (went-regated p s.job.inputs n c.receive-answer.new.self c.pass_on-waits.new.node (Receive o.source o.lane m) went re) by e.posted
          (heard-set ins c.args.at o q m there c.pop_at.ensures.same got_it.0 s.tied.ins_differ) e.ends.gated
          (heard-regated p s.job.inputs c.receive-answer.new.self c.pass_on-waits.new.node re heard) s.tied;
    }

pub returns-clause-some : goal.returns-clause-some
returns-clause-some g c = λ f.
    let s = c.args.self.now in let p = s.job.schedule.plan in let n = s.node.value in let ins = s.ins.items in
    let o = c.index_mut-port.result.now in
    let there = at_index ins c.args.at o c.requires.at c.index_mut-port.ensures.value in
    let q = c.pop_at.new.port in let m = c.in-Some.message in let got_it = (c.in-Some.ensures).some in
    let is = subst IsNode c.deref.ensures c.recall_history.ensures.kept in
    let keeps = popped-keeps p n o m q.end.received (s.tied.into c.args.at o there) got_it.0 got_it.1 in
    let t = travelled (bounds_on p o.source n.task.rank o.lane) (got n.diary.locals o.source o.lane) m keeps in
    let step : c.receive-answer.new.self ≡ received_node o.source o.lane m n = c.receive-answer.ensures.step
    ∙ ap (received_node o.source o.lane m) c.deref_mut.ensures.value in
    let went = received-went n c.receive-answer.new.self o.source o.lane m step in
    let by : c.receive-answer.result ≡ made_by n.nic (Receive o.source o.lane m) = c.receive-answer.ensures.answer
    ∙ ap (λ (x : NodeState). made_by x.nic (Receive o.source o.lane m)) c.deref_mut.ensures.value in
    let heard : HasHeard p c.receive-answer.new.self = subst (HasHeard p) (sym step) (heard-more p n o.source o.lane m s.tied.heard keeps)
    in
    let re = subst (λ (x : NodeState). Regated x c.pass_on-waits.new.node) c.deref_mut-2.ensures.value c.pass_on-waits.ensures.node in
    record {
      port = o;
      there = there;
      message = m;
      grew = (went-regated p s.job.inputs n c.receive-answer.new.self
          c.pass_on-waits.new.node (Receive o.source o.lane m) went re).locals;
    }

pub returns-clause-name : goal.returns-clause-name
returns-clause-name g c =
    let s = c.args.self.now in let p = s.job.schedule.plan in let n = s.node.value in let ins = s.ins.items in
    let o = c.index_mut-port.result.now in
    let there = at_index ins c.args.at o c.requires.at c.index_mut-port.ensures.value in
    let q = c.pop_at.new.port in let m = c.in-Some.message in let got_it = (c.in-Some.ensures).some in
    let is = subst IsNode c.deref.ensures c.recall_history.ensures.kept in
    let keeps = popped-keeps p n o m q.end.received (s.tied.into c.args.at o there) got_it.0 got_it.1 in
    let t = travelled (bounds_on p o.source n.task.rank o.lane) (got n.diary.locals o.source o.lane) m keeps in
    let step : c.receive-answer.new.self ≡ received_node o.source o.lane m n = c.receive-answer.ensures.step
    ∙ ap (received_node o.source o.lane m) c.deref_mut.ensures.value in
    let went = received-went n c.receive-answer.new.self o.source o.lane m step in
    let by : c.receive-answer.result ≡ made_by n.nic (Receive o.source o.lane m) = c.receive-answer.ensures.answer
    ∙ ap (λ (x : NodeState). made_by x.nic (Receive o.source o.lane m)) c.deref_mut.ensures.value in
    let heard : HasHeard p c.receive-answer.new.self = subst (HasHeard p) (sym step) (heard-more p n o.source o.lane m s.tied.heard keeps)
    in
    let e = c.pass_on-waits.ensures in let re = subst (λ (x : NodeState). Regated x c.pass_on-waits.new.node) c.deref_mut-2.ensures.value
    e.node in
    named-all s.job n.task c.pass_on-waits.new.node.task (map out_joint s.outs.items) (map out_joint c.pass_on-waits.new.outs.items)
    (map in_joint ins) (map in_joint (set ins c.args.at q))
    (ap (λ (x : NodeState). x.task) re.same ∙ ap (λ (x : NodeState). x.task) step)
    (pairs_map (Posted c.receive-answer.result) out_joint s.outs.items c.pass_on-waits.new.outs.items
    (λ x y f. sym (same-joint x y f.same)) e.posted)
    (pairs_map (Heard (Receive o.source o.lane m)) in_joint ins (set ins c.args.at q) (λ x y f. same-in-joint x y f.same)
    (heard-set ins c.args.at o q m there c.pop_at.ensures.same got_it.0 s.tied.ins_differ))

pub returns-in_default-clause-handles : goal.returns-in_default-clause-handles
returns-in_default-clause-handles g c = λ _. refl

pub returns-clause-handles : goal.returns-clause-handles
returns-clause-handles g c = λ _. let n = c.args.self.now.node.value in let o = c.index_mut-port.result.now in let m = c.in-Some.message in
    let step : c.receive-answer.new.self ≡ received_node o.source o.lane m n = c.receive-answer.ensures.step
    ∙ ap (received_node o.source o.lane m) c.deref_mut.ensures.value in
    let re = subst (λ (x : NodeState). Regated x c.pass_on-waits.new.node) c.deref_mut-2.ensures.value c.pass_on-waits.ensures.node in
    ap (λ (x : NodeState). x.kept) re.same ∙ ap (λ (x : NodeState). x.kept) step
